-- The names that several proofs of this crate cite, passed on from one place. Declares nothing.
pub use Rattle.std.specs.{List.find, Option.option_or, Option.option_map_or}
pub use Rattle.std.proofs.Common.{◌≡◌, ℕ, zero, suc, ◌+◌, ◌-◌, ◌*◌, ◌%◌, ◌^◌, ◌<◌, ◌≤◌, Bool, true, false, ◌&&◌, if◌then◌else◌, nat_eq}
pub use Rattle.std.proofs.Common.{nat_lt, List, [], ◌∷◌, Option, Some, None, Result, Ok, Err, refl, sym, ap, ap₂, ◌∙◌, subst, subst₂, arith}
pub use Rattle.std.proofs.Common.{⊎_elim, slice_get, option_map, option_and_then, mod-eq_of_lt, ◌/◌, ℤ, get_or, length, pos, ◌*ℤ◌}
pub use Rattle.std.proofs.Common.{slice_set, get_or-set_same, not, is_none, map, ◌||◌, ◌++◌, ◌⊎◌, nat_le, inl, inr}
pub use Rattle.std.proofs.lemmas.Bool.{ltb-true, eqb-true, eqb-false, eq-eqb, and_parts, or_cases, false≢true, and_from, le-leb, cases_lt}
pub use Rattle.std.proofs.lemmas.Option.{same_Some, none-some, slice_get-get_or}
pub use Rattle.ebc_base.specs.Steps.{or_else}
pub use Rattle.ebc_base.proofs.Given.{some_of_map}
pub use Rattle.ebc_width.specs.Width.{IsWidth, cut_at, wrap64, extended_at, signed_at}
pub use Rattle.ebc_width.proofs.Laws.{by_width, wrap64-below, extended_at-below, linear_at-wrap64}
pub use Rattle.ebc_width.proofs.ByteLaws.{window-append}
pub use Rattle.natural_index.specs.Index.{pair_of}
pub use Rattle.natural_index.specs.declared.Index.{Index}
pub use Rattle.ebc_insn.specs.Spelling.{WellFormed, spelling}
pub use Rattle.ebc_insn.specs.declared.{ArithOp.ArithOp, CmpOp.CmpOp, Cond.Cond, Extra.Extra, Extra.TheVariants.Nothing}
pub use Rattle.ebc_insn.specs.declared.{Extra.TheVariants.Imm, Extra.TheVariants.Idx, Insn.Insn, Operand.Operand, Size.Size}
pub use Rattle.ebc_decode.proofs.Again.{read_again}
pub use Rattle.pe_image.specs.Mapped.{image_byte}
pub use Rattle.pe_image.specs.declared.image.Image.{Image}
pub use Rattle.ebc_machine.specs.Operands.{form_bytes, index_offset, extra_offset, optional_offset}
pub use Rattle.note_types.specs.{BelowTests.same_kind, Concrete.Concrete, Concrete.register, Shapes.size_at, Shapes.start_at}
pub use Rattle.note_types.specs.declared.{cell.SlotKind.SlotKind, cell.SlotKind.TheVariants.N, exception.Exception.Exception}
pub use Rattle.note_types.specs.declared.{notes.Static.Static, notes.Thunk.Thunk, shape.Field.Field, shape.Shape.Shape}
pub use Rattle.note_types.specs.declared.{spot.Spot.TheVariants.Place, spot.Spot.TheVariants.Gate}
pub use Rattle.rules_image.specs.Images.{is_absolute, is_address_move, is_relocated, named_at}
pub use Rattle.host_model.specs.Placements.{Placement, IsPlacement, slot_bytes, stack_bytes, stack_end, thunk_cell_address, return_cell}
pub use Rattle.host_model.specs.Values.{ObjectOf, ThunkOf, Neutral, Num, At, Addresses, Shows, ShowsIn, FieldOfLocals, word, minus, number}
pub use Rattle.host_model.specs.Values.{plain}
pub use Rattle.host_model.specs.World.{World, frame_locals}
pub use Rattle.host_model.specs.declared.object.TypedObject.{TypedObject}
pub use Rattle.neutral_machine.specs.Config.{StackItem, Pushed, LocalsOf, FunctionFrame, Frame, Function, Host, Config, depth, locals_among}
pub use Rattle.neutral_machine.specs.Config.{with_value}
pub use Rattle.neutral_machine.specs.Layout.{addresses, total, height, top_of, local_address}
pub use Rattle.neutral_machine.specs.Locations.{Access, Move, Form, Signed, access_bytes, kept, Offset, Location, CellAt, ParamAt, ThunkAt}
pub use Rattle.neutral_machine.specs.Locations.{parameters_of}
pub use Rattle.neutral_machine.specs.Operands.{offset_of, moved_by, located_by, NeutralSide, direct_value, beside_extra, extra_pair}
pub use Rattle.neutral_machine.specs.Operands.{plainly, indexed}
pub use Rattle.neutral_machine.specs.Outcomes.{Outcome, Gives, Raises, Stuck, or_stuck, unless_stuck}
pub use Rattle.neutral_machine.specs.Rows.{Site, flags_of, immediate, function_at, Next, aligned, params_match, inside, called_from}
pub use Rattle.neutral_machine.specs.Rows.{at_place, NeutralEnd, is_stack_pointer, pushed, form_kind, has_size, after_make, made_locals}
pub use Rattle.neutral_machine.specs.Rows.{after_drop, dropped, adjusted, adjusted_by, is_qword_size}
pub use Rattle.neutral_machine.specs.{Alike.Does, Alike.RowsAlike, Alike.StepAlike, Instructions.Names, Instructions.IsAt, Memory.memory_of}
pub use Rattle.neutral_machine.specs.{Memory.cell_field, Memory.with_cell, NeutralHost.next_thunk, Room.size_if, Room.locals_growth}
pub use Rattle.neutral_machine.specs.{Room.index_growth, Room.HasRoom, Stands.OwnLocalsAll, Stands.MachineStands, WorldFits.WorldFits}
pub use Rattle.neutral_machine.proofs.Values.{kept_shows, number_shows, kept_natural_shows, plain_shows}
pub use Rattle.neutral_machine.proofs.{Agree.cell_positive, Agree.shown_in, Agree.Extends, Bounds.bounded, Bounds.objects_below}
pub use Rattle.neutral_machine.proofs.{Cells.end_small, Frames.framed, Frames.top_below, Frames.in_frames, Frames.same_extends}
pub use Rattle.neutral_machine.proofs.{Locals.fits_at, Numbers.minus-is, Placed.stack_holds, Placed.stack_within, Placed.image_within}
pub use Rattle.neutral_machine.proofs.{Spots.turned_stands, Stack.field_there, Words.width_word}
pub use Rattle.instruction_laws.specs.Premises.{IsInsnOf, loaded_insn, IsRunOf}
unfoldable pub use Rattle.ebc_width.specs.{Bytes.little_endian, Bytes.put, Bytes.window, Ranges.holds}
unfoldable pub use Rattle.pe_image.specs.Mapped.{mapped}
unfoldable pub use Rattle.ebc_machine.specs.{Operands.address, Operands.sum_at, Operands.loaded_at, Operands.stored_at, Stack.raised_by}
unfoldable pub use Rattle.ebc_machine.specs.Step.{machine_step}
unfoldable pub use Rattle.note_types.specs.Concrete.{loaded, with_register, at_ip}
unfoldable pub use Rattle.neutral_machine.specs.Rows.{target_at, called, goes, stack_row, move_row, call_row, executed}
unfoldable pub use Rattle.neutral_machine.specs.{Locations.located_on_stack, Operands.loaded_by, Operands.stored_by, Operands.value}
unfoldable pub use Rattle.neutral_machine.specs.{Operands.written, Operations.compared_as, Operations.kept_natural}
unfoldable pub use Rattle.instruction_laws.specs.Premises.{with_immediate}
