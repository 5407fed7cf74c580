-- The names that several proofs of this crate cite, passed on from one place. Declares nothing.
pub use Rattle.std.specs.{List.flat_map, Option.option_or, Option.option_map_or}
pub use Rattle.std.proofs.Common.{◌≡◌, ℕ, zero, suc, ◌+◌, ◌-◌, ◌*◌, ◌%◌, ◌^◌, ◌<◌, ◌≤◌, ◌⊎◌, Bool, true, false, if◌then◌else◌, nat_eq, List}
pub use Rattle.std.proofs.Common.{[], ◌∷◌, Some, refl, sym, ap, ◌∙◌, subst, arith, inl, inr, ⊎_elim, slice_get, mod-eq_of_lt, option_map}
pub use Rattle.std.proofs.Common.{◌/◌, ◌&&◌, nat_lt, Option, None, Ok, Err, ℤ, pos, negsuc, ◌*ℤ◌, ap₂, subst₂, mul_comm, length, ◌||◌}
pub use Rattle.std.proofs.Common.{nat_le, le_refl, ◌≢◌, option_and_then, ◌++◌, map, slice_set, length-set, get_or-set_same}
pub use Rattle.std.proofs.Common.{get_or-set_other, mul-le-mul, take}
pub use Rattle.std.proofs.Math.Nat.{add-mod-mod, mul-pos}
pub use Rattle.std.proofs.lemmas.Bool.{false≢true, ltb-true, eqb-true, and_parts, lt-ltb, le-leb, leb-true, eq-eqb, and_from, or_cases}
pub use Rattle.std.proofs.lemmas.Bool.{cases_eq, cases_order, true≢false, eqb-false, ne_eqb, le-ltb, cases_lt}
pub use Rattle.std.proofs.lemmas.{Nat.mul-mod_first, Nat.row_fits, Nat.div-mul-add, Option.same_Some, Option.none-some}
pub use Rattle.std.proofs.lemmas.Option.{slice_get-get_or}
pub use Rattle.ebc_base.proofs.Lists.{All_at, AllPairs_at, slice_get-append_left, slice_get-append_right}
pub use Rattle.ebc_base.proofs.Given.{some_of_map}
pub use Rattle.ebc_width.specs.{Ranges.Range, Width.IsWidth, Width.wrap64, Width.cut_at}
pub use Rattle.ebc_width.proofs.ByteLaws.{little_endian-agree, put-apart, little_endian-apart, put-below}
pub use Rattle.ebc_width.proofs.{Laws.by_width, RangeLaws.covers-inside}
pub use Rattle.natural_index.specs.declared.Index.{Index}
pub use Rattle.ebc_insn.specs.declared.{ArithOp.ArithOp, CmpOp.CmpOp, Insn.Insn, Operand.Operand}
pub use Rattle.pe_image.specs.declared.image.Image.{Image}
pub use Rattle.machine_alu.specs.Alu.{bits_of, low, signed, outcome, divides}
pub use Rattle.ebc_machine.specs.Results.{or_divide_error}
pub use Rattle.note_types.specs.{Cells.cell_size, Concrete.Concrete, Concrete.register, Concrete.AreDisjoint, Records.Each, Shapes.FitsAt}
pub use Rattle.note_types.specs.{Shapes.size_at, Shapes.start_at, Shapes.IsShape}
pub use Rattle.note_types.specs.declared.cell.SlotKind.TheVariants.{N, Q, D}
pub use Rattle.note_types.specs.declared.{cell.Cell.Cell, cell.SlotKind.SlotKind, event.Event.Event, exception.Exception.Exception}
pub use Rattle.note_types.specs.declared.{notes.FnNote.FnNote, notes.Notes.Notes, notes.Param.Param, notes.Static.Static, notes.Thunk.Thunk}
pub use Rattle.note_types.specs.declared.{script.Notify.Notify, script.Script.Script, script.ScriptCall.ScriptCall}
pub use Rattle.note_types.specs.declared.{script.ScriptObject.ScriptObject, shape.Field.Field, shape.Shape.Shape, spot.Spot.Spot}
pub use Rattle.note_types.specs.declared.{spot.Spot.TheVariants.Place, spot.Spot.TheVariants.Gate, types.Ty.Ty, value.Value.Value}
pub use Rattle.rules_image.specs.Images.{AreApart}
pub use Rattle.host_model.specs.Objects.{shape_of, no_shape, static_object, script_object}
pub use Rattle.host_model.specs.Placements.{Placement, slot_bytes, return_cell, object_bytes, there, method_at, thunk_at, handle_at}
pub use Rattle.host_model.specs.Placements.{handle_count, IsPlacement, IsWithin, area_bytes, stack_bytes, stack_end, object_address}
pub use Rattle.host_model.specs.Placements.{all_ranges, native_range, image_range, shape_bytes}
pub use Rattle.host_model.specs.Progress.{script_start, one_entry, Accepted, NoCall}
pub use Rattle.host_model.specs.Values.{Anchor, Neutral, At, Handle, Method, Entry, Junk, Addresses, Shows, ShowsIn, word, minus, number}
pub use Rattle.host_model.specs.Values.{plain, CellPlace, FieldOf, FieldOfLocals, same_cell_place, Num, Error, ObjectOf, null, SignedError}
pub use Rattle.host_model.specs.Values.{error_at, signed_error_at, ThunkOf, LocalOf}
pub use Rattle.host_model.specs.{HostPlans.GoesOn, HostPlans.IsDue, Readings.StatusOf, Reports.report_after, ScriptValues.has_instances}
pub use Rattle.host_model.specs.{ScriptValues.given, ScriptValues.lent, Scripts.IsScript, World.World, World.frame_locals}
pub use Rattle.host_model.specs.declared.object.TypedObject.{TypedObject}
pub use Rattle.neutral_machine.specs.Config.{StackItem, Pushed, LocalsOf, Frame, Function, Host, depth, locals_among, locals_at, Config}
pub use Rattle.neutral_machine.specs.Config.{FunctionFrame, Registers, with_value}
pub use Rattle.neutral_machine.specs.Fits.{FitsPlain, IsNumber, IsPointer, IsSuccess, IsError, IsHandle, IsEntry, OrNull}
pub use Rattle.neutral_machine.specs.Layout.{item_size, height, total, local_among, local_address, addresses, anchor_address, top_of}
pub use Rattle.neutral_machine.specs.Locations.{item_units, item_bytes, Access, Move, Form, Signed, Offset, Location, CellAt, ParamAt}
pub use Rattle.neutral_machine.specs.Locations.{ThunkAt, kept, find_field}
pub use Rattle.neutral_machine.specs.Operations.{by_table, extent_if, Instance, instance_at, starts_at, starts_if, is_null, sum_of}
pub use Rattle.neutral_machine.specs.Stands.{ItemShows, ItemsShow, ReturnShows, FramesShow, OwnLocalsAll, cell_address, return_address}
pub use Rattle.neutral_machine.specs.Stands.{OwnLocals, CellShows, CellsShow, MachineStands, ThunkShows}
pub use Rattle.neutral_machine.specs.{Alike.Does, Memory.memory_of, Memory.cell_field, Memory.with_cell, Named.Named, Outcomes.Gives}
pub use Rattle.neutral_machine.specs.{Outcomes.Raises, Outcomes.Stuck, Rows.with_items, Rows.NeutralEnd, WorldFits.WorldFits}
pub use Rattle.neutral_machine.specs.Written.{instance_value}
unfoldable pub use Rattle.ebc_width.specs.{Bytes.little_endian, Bytes.put, Ranges.holds}
unfoldable pub use Rattle.machine_alu.specs.Alu.{computed, compared}
unfoldable pub use Rattle.ebc_machine.specs.{Operands.sum_at, Operands.address, Operands.loaded_at, Stack.raised_by, Stack.lowered_by}
unfoldable pub use Rattle.note_types.specs.Concrete.{loaded, stored, with_register}
unfoldable pub use Rattle.host_model.specs.HostPlans.{filling, reply_stores, argument_refused, call_plan, enter_plan, all_named_right}
unfoldable pub use Rattle.host_model.specs.HostPlans.{reply_fits, reply_plan, is_due, notify_plan, host_plan, field_at}
unfoldable pub use Rattle.host_model.specs.Placements.{placed_ranges, most_bytes, object_at, script_ranges, own_placement}
unfoldable pub use Rattle.host_model.specs.{HostSteps.written_number, HostSteps.host_view, Objects.made_objects, Objects.placed_objects}
unfoldable pub use Rattle.host_model.specs.{Readings.pointer_from, Readings.reading_of, ScriptValues.same_value, ScriptValues.fits}
unfoldable pub use Rattle.host_model.specs.ScriptValues.{fits_each}
unfoldable pub use Rattle.neutral_machine.specs.Locations.{fits_cell, located_past, located_on_stack, value_at}
unfoldable pub use Rattle.neutral_machine.specs.NeutralHost.{writes_there, all_lent, lent_there, param_slots, neutral_host_step}
unfoldable pub use Rattle.neutral_machine.specs.Operations.{instance_of, combined, compared_as, kept_natural, sign_extended}
unfoldable pub use Rattle.neutral_machine.specs.{NeutralReadings.neutral_reading, NeutralReadings.neutral_result, NeutralRuns.neutral_start}
unfoldable pub use Rattle.neutral_machine.specs.{Operands.stored_by, Written.written_value}
