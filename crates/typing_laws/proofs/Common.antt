-- The names that several proofs of this crate cite, passed on from one place. Declares nothing.
pub use Prim.Native.Nat.{◌∣◌}
pub use Rattle.std.specs.{Int.bit_at, List.AllZip, List.find, List.list_any, List.position_or_len, Option.option_map_or, Option.option_or}
pub use Rattle.std.specs.Ordering.{int_eq}
pub use Rattle.std.proofs.Common.{arith, ◌≡◌, true, false, refl, ℕ, suc, Bool, if◌then◌else◌, List, [], ◌∷◌, length, take, Option, Some}
pub use Rattle.std.proofs.Common.{None, slice_get, sym, ap, ◌∙◌, subst, option_and_then, ◌≢◌, ◌^◌, ◌<◌, ◌&&◌, nat_eq, Result, Ok, Err, IfOk}
pub use Rattle.std.proofs.Common.{ℤ, pos, negsuc, zero, ◌+◌, ◌%◌, ◌⊎◌, not, nat_lt, slice_index_or, inl, inr, ⊎_elim, slice_set, bit_or}
pub use Rattle.std.proofs.Common.{option_map, ◌-◌, ◌*◌, ◌≤◌, ◌||◌, ap₂, subst₂, le_refl, ◌++◌, map, get_or, position, mod-eq_of_lt, ◌+ℤ◌}
pub use Rattle.std.proofs.Common.{int_le, is_none, is_some, unsigned_abs, nat_le, count_by, ◌/◌, IfSome, min, add_comm}
pub use Rattle.std.proofs.Math.Nat.{dvd_trans, mul-le-mul_right, dvd_of_mod-eq-zero, add-mod-mod, dvd-sub}
pub use Rattle.std.proofs.lemmas.Bool.{and_from, false≢true, lt-ltb, eqb-false, and_parts, eqb-true, ne_eqb, ltb-true, ltb-false, le-leb}
pub use Rattle.std.proofs.lemmas.Bool.{eq-eqb, cases_Bool, cases_eq, or_cases, true≢false, cond_both, leb-true}
pub use Rattle.std.proofs.lemmas.{Bool.Decides.Decides-int_eq, List.Folds.find_at, List.Quantifiers.position-Some, Nat.mod_below}
pub use Rattle.std.proofs.lemmas.{Nat.pow_pos, Nat.div-mul-add, Nat.le-div, Nat.div-add-mod', Nat.Bits.bit_at_or, Nat.Bits.bit_at-lt}
pub use Rattle.std.proofs.lemmas.{Nat.Bits.bit_at-zero, Option.none-some, Option.same_Some, Option.get_or_from_slice_get}
pub use Rattle.ebc_base.specs.Steps.{or_else, only_if}
pub use Rattle.ebc_base.proofs.Lists.{within_some}
pub use Rattle.ebc_width.specs.Width.{wrap64}
pub use Rattle.natural_index.specs.Index.{signed}
pub use Rattle.natural_index.specs.declared.Index.{Index}
pub use Rattle.ebc_insn.specs.Spelling.{TargetFits, LeftFits, WellFormed}
pub use Rattle.ebc_insn.specs.declared.{ArithOp.ArithOp, CmpOp.CmpOp, Extra.Extra, Extra.TheVariants.Nothing, Extra.TheVariants.Imm}
pub use Rattle.ebc_insn.specs.declared.{Extra.TheVariants.Idx, Insn.Insn, Operand.Operand, Size.Size}
pub use Rattle.machine_alu.specs.Alu.{low, outcome}
pub use Rattle.machine_alu.specs.declared.DivideError.{DivideError}
pub use Rattle.note_types.specs.{BelowTests.same_kind, BelowTests.divides, Cells.IsBoundedCell, Cells.content_type, FieldSets.HasField}
pub use Rattle.note_types.specs.{Known.IsKnown, Known.is_locals, Passing.IsPassed, Records.IsNotes, Shapes.IsShape, Shapes.size_at}
pub use Rattle.note_types.specs.{States.type_of, Types.IsBounded}
pub use Rattle.note_types.specs.declared.cell.SlotKind.TheVariants.{N, Q, D}
pub use Rattle.note_types.specs.declared.types.Ty.TheVariants.{Int, Ptr, Status, SignedStatus, Handle, Entry, Any, Lin, Scaled, Local, Lent}
pub use Rattle.note_types.specs.declared.types.Ty.TheVariants.{Mask, ThunkAt}
pub use Rattle.note_types.specs.declared.{cell.Cell.Cell, cell.SlotKind.SlotKind, items.Item.Item, notes.FnNote.FnNote, notes.Notes.Notes}
pub use Rattle.note_types.specs.declared.{notes.Pair.Pair, notes.Param.Param, notes.Static.Static, notes.Thunk.Thunk}
pub use Rattle.note_types.specs.declared.{notes.WantParam.WantParam, rule.RuleName.RuleName, shape.Field.Field, shape.Shape.Shape}
pub use Rattle.note_types.specs.declared.{state.Fact.Fact, state.State.State, types.Ty.Ty}
pub use Rattle.note_types.proofs.{BelowLaws.is_below_exact, SameLaws.same_kind-equal, SameLaws.same_kind-refl}
pub use Rattle.rules_base.specs.Access.{loads, stores, known, loaded_type, load_place, target_place, takes}
pub use Rattle.rules_base.specs.Operands.{extra_distance, with_immediate, index_distance, counted, with_index}
pub use Rattle.rules_base.specs.Outcomes.{both, needs, also, beside, gives_map}
pub use Rattle.rules_base.specs.Parts.{constant, constant_of, full, is_int, is_int_below, and_then, divisor_of, lin_of, near_offset}
pub use Rattle.rules_base.specs.Parts.{span_of, is_near, pointer_of}
pub use Rattle.rules_base.specs.Things.{is_static_at, is_thunk_at, static_type, takes_address, thunk_type}
pub use Rattle.rules_base.specs.{Destinations.put, Places.has_field, Places.from_stack, Places.pointed, Sums.lin, Sums.or_any}
pub use Rattle.rules_base.specs.Values.{form_access}
pub use Rattle.rules_base.specs.declared.{access.Access.Access as RuleAccess, access.Loaded.Loaded, change.Change.Change}
pub use Rattle.rules_base.specs.declared.{destination.Destination.Destination}
pub use Rattle.rules_base.specs.declared.{destination.Destination.TheVariants.Register, here.Here.Here, operand.Distance.Distance}
pub use Rattle.rules_base.specs.declared.{parts.Pointer.Pointer, parts.Span.Span, place.Place.Place}
pub use Rattle.rules_data.specs.Arithmetic.{divisor_known, is_unary, folded, fold_row, or_ints, other_row}
pub use Rattle.rules_data.specs.Data.{left_value, flag, move_access, data_row}
pub use Rattle.rules_flow.specs.Frames.{at, drop_to, make_row, with_item, is_size, top_type, pop_destination, popped_type, item_size}
pub use Rattle.rules_flow.specs.Frames.{slot_access}
pub use Rattle.rules_flow.specs.{Calls.all_made, Calls.call_size, Calls.fits_need, Flow.frame_move, Flow.flow_row, Flow.slot_kind}
pub use Rattle.rules_flow.specs.{Found.number_from, Found.is_at, Narrowing.granted, Successors.falls}
pub use Rattle.rules_flow.specs.declared.successors.Successors.{Successors}
pub use Rattle.rules_laws.proofs.LoadsKeep.{load_at-known, register_type-known, operand_value-known}
pub use Rattle.rules_laws.proofs.MovesKeep.{wrap_below, with_index-known}
pub use Rattle.host_model.specs.Placements.{pair_at, return_cell, frame_limit, slot_bytes}
pub use Rattle.host_model.specs.Values.{Neutral, FieldOfLocals, number, At, Error, SignedError, ObjectOf, null, plain, word, Junk, FieldOf}
pub use Rattle.host_model.specs.Values.{Num, pair, CellPlace, Method, ThunkOf, LocalOf}
pub use Rattle.host_model.specs.{HostPlans.field_in, Objects.shape_of, Objects.no_shape, Objects.static_object, World.World}
pub use Rattle.host_model.specs.World.{frame_locals}
pub use Rattle.host_model.specs.declared.object.TypedObject.{TypedObject}
pub use Rattle.neutral_machine.specs.Config.{Registers, StackItem, Pushed, LocalsOf, FunctionFrame, Frame, Config, depth, Function, Host}
pub use Rattle.neutral_machine.specs.Config.{locals_among, locals_at, with_value, hosts}
pub use Rattle.neutral_machine.specs.Locations.{Move, Form, Signed, writes, Access, Offset, parameters_of, kept, item_bytes, item_units}
pub use Rattle.neutral_machine.specs.Locations.{Location, CellAt, ParamAt, find_field, located_among}
pub use Rattle.neutral_machine.specs.Memory.{Memory, cell_field, AreWritten, memory_of, IsFieldWritten, with_cell}
pub use Rattle.neutral_machine.specs.Operands.{plainly, beside_extra, local_at_location, offset_of, extra_pair, moved_by, direct_value}
pub use Rattle.neutral_machine.specs.Operands.{index_pair, indexed, NeutralSide, located_by}
pub use Rattle.neutral_machine.specs.Operations.{narrowed, Instance, compared_by, by_table, is_kept_at, instance_at, sum_of, product_of}
pub use Rattle.neutral_machine.specs.Outcomes.{Outcome, Gives, Raises, Stuck, ◌>>=◌, or_stuck}
pub use Rattle.neutral_machine.specs.Rows.{NeutralEnd, Next, Site, aligned, with_c, is_stack_pointer, after_make, dropped, frame_without}
pub use Rattle.neutral_machine.specs.Rows.{item_without, registers_without, with_items, without_local, Native, MakeThunk, pushed}
pub use Rattle.neutral_machine.specs.{Fits.Fits, Fits.FitsPlain, Fits.IsPointer, Fits.OrNull, Fits.IsNumber, FitsState.ItemFits}
pub use Rattle.neutral_machine.specs.{FitsState.FitsState, FitsState.FactHolds, Layout.height}
pub use Rattle.neutral_machine.proofs.Drops.{depth_map}
pub use Rattle.invariant_laws.specs.Sound.{ParamFits, FrameBelow, KeepsWithin, Sound, SoundBelow, CellsFit, FramesKeep, TopFits, SlotsKept}
pub use Rattle.invariant_laws.specs.Sound.{FrameKeeps, ParamKind}
pub use Rattle.invariant_laws.specs.{Accepts.Accepts, Asked.OutsWritten, Later.Later, Later.Preserves, Later.WillFit, Live.live_memory}
pub use Rattle.invariant_laws.specs.Live.{live_cells}
pub use Rattle.invariant_laws.proofs.LaterFits.{fields_later, fits_later, items_later, FieldsLater}
pub use Rattle.typing_laws.specs.OneRule.{here_of, WorldTyped, StandsTyped, Asks, Makes, IsTaken}
unfoldable pub use Rattle.machine_alu.specs.Alu.{computed, compared}
unfoldable pub use Rattle.note_types.specs.{BelowTests.is_below, Known.local_fields}
unfoldable pub use Rattle.rules_base.specs.Places.{cell_of, place_at, locals_size, stack_at, field_number_at}
unfoldable pub use Rattle.rules_base.specs.{Access.load_at, Access.target_at, Change.changed, Change.with_type, Change.with_fact}
unfoldable pub use Rattle.rules_base.specs.{Change.with_store, Destinations.destination, Sums.shared, Sums.sum, Sums.product}
unfoldable pub use Rattle.rules_base.specs.{Things.static_at, Things.thing_at, Things.thunk_at, Values.operand_value, Values.register_type}
unfoldable pub use Rattle.rules_data.specs.{Arithmetic.computed_type, Compares.compares, Data.after_data, Data.move_value}
unfoldable pub use Rattle.rules_flow.specs.{Arguments.arguments, Arguments.all_lent_out, Arguments.native_arguments, Calls.call_to}
unfoldable pub use Rattle.rules_flow.specs.{Calls.is_lower, Found.number_at, Frames.items_size, Frames.frame_row, Frames.left_after}
unfoldable pub use Rattle.rules_flow.specs.{Frames.has_room, Jumps.target_of, Narrowing.narrow}
unfoldable pub use Rattle.host_model.specs.Objects.{made_objects}
unfoldable pub use Rattle.neutral_machine.specs.Locations.{located_on_stack, value_at, located_past, fits_cell}
unfoldable pub use Rattle.neutral_machine.specs.Operands.{loaded_by, value, written, stored_by, with_register}
unfoldable pub use Rattle.neutral_machine.specs.Operations.{combined, compared_as, sign_extended, instance_of, kept_natural}
unfoldable pub use Rattle.neutral_machine.specs.Rows.{goes, address_of_place, executed}
