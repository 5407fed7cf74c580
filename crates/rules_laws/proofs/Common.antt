-- The names that several proofs of this crate cite, passed on from one place. Declares nothing.
pub use Rattle.std.specs.Prelude.{IfSome, IfOk, Ok, Err, Result, is_none, int_le, unsigned_abs, negsuc, ◌≤ℤ◌, ◌+ℤ◌}
pub use Rattle.std.specs.Ordering.{int_eq}
pub use Rattle.std.proofs.Common.{◌≡◌, ℕ, Bool, true, false, nat_eq, Option, None, Some, slice_get, if◌then◌else◌, refl, ℤ, ◌-◌, ◌/◌, ◌^◌}
pub use Rattle.std.proofs.Common.{◌<◌, ◌≤◌, ◌&&◌, nat_lt, min, List, arith, sym, ap, ◌∙◌, ◌+◌, not, length, pos, ◌⊎◌, nat_le, subst, inl}
pub use Rattle.std.proofs.Common.{inr, ⊎_elim, [], ◌∷◌, zero, suc, slice_index_or, mod-lt}
pub use Rattle.std.proofs.{Math.Nat.div-le_self, Math.Nat.mod-le, Math.Pow.pow-lt}
pub use Rattle.std.proofs.lemmas.Bool.{ltb-true, and_parts, eqb-true, false≢true, leb-true}
pub use Rattle.std.proofs.lemmas.{Int.ints, Nat.or_lt}
pub use Rattle.ebc_base.specs.Steps.{or_else, ◌>>=◌}
pub use Rattle.ebc_base.proofs.Given.{some_choice, some_any}
pub use Rattle.ebc_width.specs.Width.{wrap64}
pub use Rattle.natural_index.specs.declared.Index.{Index}
pub use Rattle.ebc_insn.specs.declared.ArithOp.TheVariants.{Add, Sub, Mulu, Divu, Modu, And, Or, Shl, Shr}
pub use Rattle.ebc_insn.specs.declared.Insn.TheVariants.{Compare, Arith, Move, MoveSigned, MoveImm}
pub use Rattle.ebc_insn.specs.declared.{ArithOp.ArithOp, CmpOp.CmpOp, Cond.Cond, Cond.TheVariants.Always, Cond.TheVariants.Set}
pub use Rattle.ebc_insn.specs.declared.{Cond.TheVariants.Clear, Extra.Extra, Insn.Insn, Operand.Operand, Size.Size, Size.TheVariants.Qword}
pub use Rattle.machine_alu.specs.declared.DivideError.{DivideError}
pub use Rattle.note_types.specs.{BelowTests.same_kind, Known.IsKnown, Known.IsState, Known.IsKnownCell, Known.IsFact, Records.IsNotes}
pub use Rattle.note_types.specs.States.{type_of}
pub use Rattle.note_types.specs.declared.types.Ty.TheVariants.{Int, Lin, Ptr}
pub use Rattle.note_types.specs.declared.{cell.SlotKind.SlotKind, cell.SlotKind.TheVariants.N, cell.SlotKind.TheVariants.Q, items.Item.Item}
pub use Rattle.note_types.specs.declared.{items.Item.TheVariants.Slot, items.Item.TheVariants.Locals, notes.FnNote.FnNote}
pub use Rattle.note_types.specs.declared.{notes.Notes.Notes, notes.Pair.Pair, notes.Param.Param, notes.Signature.Signature}
pub use Rattle.note_types.specs.declared.{notes.WantParam.WantParam, rule.RuleName.RuleName, shape.Field.Field, shape.Shape.Shape}
pub use Rattle.note_types.specs.declared.{state.Fact.Fact, state.State.State, types.Ty.Ty}
pub use Rattle.note_types.proofs.RecordLaws.{params_known}
pub use Rattle.rules_base.specs.Operands.{extra_distance, index_distance, nowhere, counted}
pub use Rattle.rules_base.specs.Outcomes.{gives_map, OrRule, also, beside, needs}
pub use Rattle.rules_base.specs.Parts.{and_then, constant_of, full, span_of, constant}
pub use Rattle.rules_base.specs.{Access.takes, Destinations.put, FirstRule.Tells, FirstRule.TellsRule, Sums.or_any, Values.form_access}
pub use Rattle.rules_base.specs.declared.destination.Destination.TheVariants.{Register, Memory}
pub use Rattle.rules_base.specs.declared.{access.Access.Access, access.Loaded.Loaded, change.Change.Change}
pub use Rattle.rules_base.specs.declared.{destination.Destination.Destination, here.Here.Here, operand.Distance.Distance, parts.Span.Span}
pub use Rattle.rules_base.specs.declared.place.Place.{Place}
pub use Rattle.rules_data.specs.Data.{data_row, held, fact_of, flag, left_value, move_access}
pub use Rattle.rules_data.specs.{Arithmetic.divisor_known, Moves.immediate}
pub use Rattle.rules_flow.specs.Calls.{call_fails, called, is_next_thunk, native_called, with_thunk}
pub use Rattle.rules_flow.specs.Flow.{plain_row, flow_row, frame_move, slot_kind, unrelocated}
pub use Rattle.rules_flow.specs.Frames.{drop_to, loses, pop_destination, popped_type, slot_access, slot_type, top_type, with_item}
pub use Rattle.rules_flow.specs.Frames.{without_top}
pub use Rattle.rules_flow.specs.{Jumps.jump_to, Jumps.jumps, Jumps.relative, Narrowing.narrowed_if, Successors.ends, Successors.falls}
pub use Rattle.rules_flow.specs.declared.successors.Successors.{Successors}
pub use Rattle.rules_laws.specs.Exact.{DataFirst, DataRelated, FlowFirst, FlowGiven, FlowRelated}
pub use Rattle.rules_laws.specs.Keeping.{AreStates}
unfoldable pub use Rattle.machine_alu.specs.Alu.{computed}
unfoldable pub use Rattle.note_types.specs.Known.{local_fields}
unfoldable pub use Rattle.rules_base.specs.{Access.target_at, Access.load_at, Change.changed, Change.with_fact, Change.with_store}
unfoldable pub use Rattle.rules_base.specs.{Change.with_type, Destinations.destination, Places.locals_size, Places.place_at}
unfoldable pub use Rattle.rules_base.specs.{Values.operand_value, Values.register_type}
unfoldable pub use Rattle.rules_data.specs.Data.{after_data, arith_row, compare_row, data_change, left_operand, move_imm_row, move_row}
unfoldable pub use Rattle.rules_data.specs.Data.{move_signed_row, compare_imm_row, move_index_row, move_relative_row, store_special_row}
unfoldable pub use Rattle.rules_data.specs.Arithmetic.{computed_type}
unfoldable pub use Rattle.rules_flow.specs.Calls.{break_row, call_native_row, call_row, call_to, callee_at, callee_method, may_return}
unfoldable pub use Rattle.rules_flow.specs.Calls.{native_call, return_row, signature_at}
unfoldable pub use Rattle.rules_flow.specs.Frames.{frame_row, has_room, left_after, pop_row, push_row, with_left}
unfoldable pub use Rattle.rules_flow.specs.{Arguments.all_lent_out, Flow.after_flow, Jumps.jump8_row, Jumps.jump_row, Jumps.point_at}
unfoldable pub use Rattle.rules_flow.specs.{Jumps.target_of, Narrowing.narrow}
