-- The names that several proofs of this crate cite, passed on from one place. Declares nothing.
pub use denote.Ref.{Bor}
pub use Rattle.std.proofs.Common.{◌≡◌, ℕ, ◌+◌, ◌<◌, ◌≤◌, List, [], ◌∷◌, ◌++◌, length, take, get_or, Bool, true, false, cond, refl, sym, ap}
pub use Rattle.std.proofs.Common.{subst, ◌∙◌, arith, bytes_eq, suc, ◌-◌, ◌^◌, Option, Some, None, Result, Ok, Err, codes, drop, option_map}
pub use Rattle.std.proofs.{Common.inl, Common.inr, lemmas.Bool.Decides.nat_tests, lemmas.Option.option_and_then_some}
pub use Rattle.std.proofs.lemmas.{Option.same_Some, Result.err_from_is_err_and, Result.IfOk-weaker}
pub use Rattle.note_types.specs.declared.fault.{NotesEnd.NotesEnd, TomlFault.TomlFault}
pub use Rattle.note_texts.proofs.{NumberLaws.decimal-number_of, NumberRanges.name_of-sound, Tables.map_some, Tables.moved}
pub use Rattle.script_draft.specs.{Grammar.IsWritable, Once.same_cell, Once.call_once, Once.object_once}
pub use Rattle.script_draft.specs.declared.value.ArgumentText.TheVariants.{Out, Lent, Given}
pub use Rattle.script_draft.specs.declared.{parts.CellValueText.CellValueText, value.ArgumentText.ArgumentText, value.ValueText.ValueText}
unfoldable pub use Rattle.note_draft.specs.Repeats.{has_repeat}
unfoldable pub use Rattle.script_draft.specs.{Lists.all_of, Lists.all_pass, Once.objects_once, Pieces.pieces, Pieces.values_of, Pieces.cut}
unfoldable pub use Rattle.script_draft.specs.ValueTexts.{argument_of, value_of}
