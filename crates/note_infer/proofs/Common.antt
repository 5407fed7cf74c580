-- The names that several proofs of this crate cite, passed on from one place. Declares nothing.
pub use Rattle.std.specs.List.{Contains, Sorted.IsStrictlyIncreasing, Sorted.IsPartitionPoint, Sorted.IsPartitionedBy}
pub use Rattle.std.proofs.Common.{◌≡◌, ℕ, zero, suc, ◌+◌, ◌<◌, ◌≤◌, List, [], refl, sym, subst, ⊎_elim, arith, Some, slice_get, ◌^◌, length}
pub use Rattle.std.proofs.Common.{get_or, ◌∷◌, ap, ◌∙◌, Ok, map, ◌⊎◌, Bool, true, false, nat_eq, if◌then◌else◌, ◌++◌, inl, inr}
pub use Rattle.std.proofs.Common.{get_or-set_same, length-set, None, Option, slice_index, slice_index_or, ext_get_or, ◌-◌, replicate, Err}
pub use Rattle.std.proofs.Common.{IfOk, Result, IfSome, leb, leb-true, take, le-leb, option_and_then, rules}
pub use Rattle.std.proofs.lemmas.Bool.{cases_lt, OnFalse_at, OnTrue_at, OnFalse_from}
pub use Rattle.std.proofs.lemmas.{Bool.OnTrue_from, Bool.Decides.nat_tests, List.Kept.AllPairs-from_increasing}
pub use Rattle.std.proofs.lemmas.Option.{same_Some, none-some, slice_get_within, slice_get_read}
pub use Rattle.ebc_insn.specs.declared.Insn.{Insn}
pub use Rattle.pe_image.specs.declared.image.Image.{Image}
pub use Rattle.note_types.specs.{Known.IsState, Limits.point_limit, Notes.entry_state, Records.IsNotes, Records.Each, Records.IsPointNote}
pub use Rattle.note_types.specs.declared.{notes.FnNote.FnNote, notes.Notes.Notes, notes.Point.Point, rule.RuleName.RuleName}
pub use Rattle.note_types.specs.declared.{state.State.State, types.Ty.Ty}
pub use Rattle.note_infer.specs.JoinStates.{without_fact, taken_in}
pub use Rattle.rules_base.specs.{FirstRule.IsFirst, Outcomes.OrRule}
pub use Rattle.rules_flow.specs.declared.successors.Successors.{Successors}
pub use Rattle.rules_image.specs.Images.{IsDecoded, PointHolds, EndHolds, RelocationHolds, FunctionHolds}
pub use Rattle.rules_image.specs.Places.{IsPlaceOf}
pub use Rattle.rules_image.proofs.{Decoding.decoded_once, Decoding.spelled_at, Decoding.is_decoded, Decoding.not_decoded, Firsts.item_there}
pub use Rattle.width_checker.specs.{Rows.here_at, Typed.Typed, Typed.TablesHold, Verdicts.IsVerdict}
pub use Rattle.width_checker.proofs.{Deciding.function_before, Leading.decode_later}
pub use Rattle.note_infer.specs.Reaching.{Passed, Reached, Settles, Stood, stood, stood_none, SettlesAll, IsClosed, AllRest, Rests, rests}
pub use Rattle.note_infer.specs.Rounds.{GivenAt, IsWithin, States, given, gives, gives_none, marked, with_points, Begins, FallsTo, HasState}
pub use Rattle.note_infer.specs.Rounds.{at_entry, at_leader, mark, by_entry, Clashes, FailsIn, fails_below, fails_decode, fails_end}
pub use Rattle.note_infer.specs.Rounds.{fails_point, fails_relocation, fails_row, IsStuck, NoneFailsBefore, AreSame, IsRound, by_fall}
pub use Rattle.note_infer.specs.Inferred.{IsInferred, IsSettled, by_round, by_number, by_points, by_tables, by_verdict, with_point}
pub use Rattle.note_infer.specs.{Beginning.StartsAt, Beginning.AreEntries, Changing.Changed, Changing.turned, Coming.IsComing}
pub use Rattle.note_infer.specs.{Coming.ClashesAt, Coming.Takes, Coming.given_to, Entering.Entered, Finding.Adds, Finding.IsLeaderBelow}
pub use Rattle.note_infer.specs.{Finding.IsNamedBefore, Leaders.AreLeaders, Leaders.IsLeaderOf, Passing.IsSetting, Passing.HasPassed}
pub use Rattle.note_infer.specs.{PointStates.AreFound, PointStates.IsFound, Reaching.rests_none, RoundEnds.GivesRoom, RoundEnds.HasRoom}
pub use Rattle.note_infer.specs.{RoundEnds.leaders_rank, Rounds.by_jump, Starting.AreStarts}
pub use Rattle.note_infer.specs.declared.inferred.Inferred.{Inferred, TheVariants.Stuck}
pub use Rattle.note_infer.specs.declared.{inferred.Inferred.TheVariants.Points, inferred.Inferred.TheVariants.Many, rounds.Start.Start}
unfoldable pub use Rattle.note_types.specs.{Known.local_fields, Records.function_at}
unfoldable pub use Rattle.note_infer.specs.JoinStates.{agree, joined}
unfoldable pub use Rattle.rules_image.specs.Images.{reloc_at}
unfoldable pub use Rattle.width_checker.specs.Rows.{row_of}
unfoldable pub use Rattle.note_infer.specs.{Coming.state_at, Inferred.points_of, Reaching.origin, Rounds.HasCome, Rounds.all_in}
unfoldable pub use Rattle.note_infer.specs.Rounds.{Comes, AreAfter}
