-- The names that several proofs of this crate cite, passed on from one place. Declares nothing.
pub use Rattle.std.proofs.Common.{◌≡◌, ℕ, ◌+◌, ◌-◌, ◌<◌, ◌≤◌, ◌↔◌, zero, suc, length, get_or, refl, sym, ap, subst, ◌∙◌, ⊎_elim, arith}
pub use Rattle.std.proofs.Common.{Some, slice_get, Ok, Err, inl, inr, Option, List}
pub use Rattle.std.proofs.{Common.Bool, Common.IsTrue, Common.None, lemmas.Bool.cases_lt, lemmas.Option.same_Some, lemmas.Option.none-some}
pub use Rattle.ebc_base.specs.Steps.{only_if}
pub use Rattle.ebc_insn.specs.declared.Insn.{Insn}
pub use Rattle.pe_image.specs.declared.image.Image.{Image}
pub use Rattle.note_types.specs.declared.{notes.FnNote.FnNote, notes.Notes.Notes, notes.Point.Point, rule.RuleName.RuleName}
pub use Rattle.note_types.specs.declared.state.State.{State}
pub use Rattle.rules_base.specs.FirstRule.{IsFirst}
pub use Rattle.plain_check.specs.declared.verdict.Verdict.TheVariants.{Neutral, Refused}
pub use Rattle.rules_flow.specs.declared.successors.Successors.{Successors}
pub use Rattle.rules_image.specs.{Images.IsDecoded, Images.PointHolds, Images.RelocationHolds, Marks.PointsFrom, Marks.RelocsFrom}
pub use Rattle.rules_image.proofs.Decoding.{decoded_once}
pub use Rattle.width_checker.specs.{Paths.successors_from, Rows.here_at, StatesAt.StateAt, StatesAt.IsBefore, StatesAt.IsPointAt}
pub use Rattle.width_checker.specs.{StatesAt.of_fall, StatesAt.of_point, Typed.Typed, Typed.BelowHolds, Typed.MeetsRules}
pub use Rattle.width_checker.specs.{Typed.IsBelowPoint, Typed.EntryBelow, Verdicts.FailsAt, Verdicts.RefusesInsn, Verdicts.HasState}
pub use Rattle.width_checker.specs.Walks.{Arrives, ComesTo, FunctionsMeet}
unfoldable pub use Rattle.rules_image.specs.{Images.reloc_at, Places.Leads}
unfoldable pub use Rattle.width_checker.specs.{Rows.row_of, StatesAt.Comes}
