-- The names that several proofs of this crate cite, passed on from one place. Declares nothing.
pub use Rattle.std.specs.{Int.bit_at, Ordering.int_eq}
pub use Rattle.std.proofs.Common.{◌≡◌, ◌⊎◌, ℕ, suc, ◌+◌, ◌^◌, ◌<◌, ◌≤◌, refl, ap, subst, ◌∙◌, inl, inr, ⊎_elim, arith, bit_and, min}
pub use Rattle.std.proofs.Common.{count_ones, Bool, true, false, List, [], ◌∷◌, length, Option, None, Some, slice_get, sym, eq-eqb, ◌-◌}
pub use Rattle.std.proofs.Common.{◌&&◌, ◌||◌, nat_eq, nat_lt, if◌then◌else◌, pos, IfSome, unwrap_or, eqb-true, leb-true, ltb-true, ◌++◌}
pub use Rattle.std.proofs.{Common.take, lemmas.Bool.cases_lt, lemmas.Bool.and_parts, lemmas.Bool.and_from, lemmas.Bool.false≢true}
pub use Rattle.std.proofs.lemmas.{Bool.Decides.Decides-int_eq, Nat.Bits.bit_at_and, Nat.Bits.same_from_bits}
pub use Rattle.ebc_base.specs.Steps.{only_if}
pub use Rattle.note_types.specs.{Below.Below, Known.IsKnown, Types.IsBounded, Types.is_start}
pub use Rattle.note_types.specs.declared.{items.Item.Item, items.Item.TheVariants.Slot, items.Item.TheVariants.Locals, notes.FnNote.FnNote}
pub use Rattle.note_types.specs.declared.{notes.Notes.Notes, state.State.State, types.Ty.Ty}
pub use Rattle.note_types.proofs.SameLaws.{Decides-same_type, same_type-equal}
pub use Rattle.note_infer.specs.Join.{are_within, common, is_zero, join_ints, join_null, join_pointers, join_signed, join_status, least_end}
pub use Rattle.note_infer.specs.{Join.or_null, JoinStates.item_agrees, JoinStates.join_item, JoinLaws.AreBothBelow, JoinLaws.StateWeakens}
pub use Rattle.note_infer.specs.JoinLaws.{AreBelow, KeepsKnown, Weakens}
unfoldable pub use Rattle.note_types.specs.BelowTests.{same_type}
unfoldable pub use Rattle.note_infer.specs.{Join.join_types, JoinStates.agree, JoinStates.items_agree, JoinStates.joined, JoinStates.zipped}
