-- The names that several proofs of this crate cite, passed on from one place. Declares nothing.
pub use Rattle.std.specs.{Bool.⊤, List.flat_map, List.AllZip, List.list_all, List.AllByRecursion, Option.option_map, Option.option_map_or}
pub use Rattle.std.proofs.Common.{◌≡◌, ℕ, Bool, true, false, if◌then◌else◌, List, [], ◌∷◌, Some, None, map, refl, sym, ap, subst, ◌∙◌, ◌<◌}
pub use Rattle.std.proofs.Common.{◌≤◌, arith, ◌⊎◌, zero, suc, ◌+◌, ◌-◌, nat_eq, ◌++◌, take, length, Option, option_and_then, ap₂, inl, inr}
pub use Rattle.std.proofs.Common.{slice_get, pos, ⊎_elim, ◌%◌, ◌^◌, not, nat_lt, ◌&&◌, ◌||◌, is_some, ◌*◌, nat_le}
pub use Rattle.std.proofs.Math.Nat.{dvd_of_mod-eq-zero}
pub use Rattle.std.proofs.lemmas.Bool.{ne_eqb, eqb-true, eq-eqb, and_parts, false≢true, ltb-true, ltb-false, true≢false, lt-ltb, leb-false}
pub use Rattle.std.proofs.lemmas.Option.{none-some, same_Some, slice_get-map}
pub use Rattle.ebc_base.proofs.Lists.{slice_get-append_left, slice_get-append_right, within_some}
pub use Rattle.note_types.specs.{Cells.content_type, Records.IsKnownWant, Records.Each, Records.IsNotes, States.type_of, Types.is_start}
pub use Rattle.note_types.specs.declared.{cell.Cell.Cell, ending.Ending.Ending, event.Event.Event, items.Item.Item, notes.FnNote.FnNote}
pub use Rattle.note_types.specs.declared.{notes.Notes.Notes, notes.Param.Param, notes.Signature.Signature, notes.Want.Want}
pub use Rattle.note_types.specs.declared.{notes.WantParam.WantParam, script.CellValue.CellValue, script.ScriptCall.ScriptCall}
pub use Rattle.note_types.specs.declared.{script.ScriptObject.ScriptObject, seen.Seen.Seen, shape.Field.Field, shape.Shape.Shape}
pub use Rattle.note_types.specs.declared.{spot.Spot.Spot, state.State.State, types.Ty.Ty, value.Value.Value}
pub use Rattle.host_model.specs.HostPlans.{signature_params, function_params, may_enter, Store, cell_store, field_of, Ends, cell_lent}
pub use Rattle.host_model.specs.HostPlans.{InObject}
pub use Rattle.host_model.specs.Values.{Neutral, CellPlace, FieldOfLocals, same_cell_place, Handle, Entry, Error, number, null, pair}
pub use Rattle.host_model.specs.Values.{FieldOf, Cells, At, Junk, ThunkOf, LocalOf, word, ObjectOf}
pub use Rattle.host_model.specs.{Objects.static_object, Objects.script_object, Placements.frame_limit, Progress.Asked, Progress.Accepted}
pub use Rattle.host_model.specs.{Progress.NativeCall, Progress.NoCall, ScriptValues.given, Scripts.all_made, Scripts.IsObjectOf}
pub use Rattle.host_model.specs.World.{World}
pub use Rattle.host_model.specs.declared.object.TypedObject.{TypedObject}
pub use Rattle.neutral_machine.specs.Config.{StackItem, LocalsOf, FunctionFrame, Frame, Function, Host, Config, Registers, depth}
pub use Rattle.neutral_machine.specs.Config.{locals_among, locals_at, call_under_way, with_call, HostFrame, hosts, Pushed, with_value}
pub use Rattle.neutral_machine.specs.Fits.{IsNumber, IsPointer, IsHandle, IsEntry, IsError, IsSuccess, IsCellBelow, IsLent, Fits, FitsPlain}
pub use Rattle.neutral_machine.specs.Fits.{OrNull}
pub use Rattle.neutral_machine.specs.Memory.{memory_of, with_cell, IsFieldWritten, Memory, cell_field}
pub use Rattle.neutral_machine.specs.Rows.{frame_without, registers_without, without_local, item_without}
pub use Rattle.neutral_machine.specs.{FitsState.FitsState, FitsState.ItemFits, NeutralHost.target_place, Operations.is_kept_at}
pub use Rattle.neutral_machine.specs.{Operations.extent_if, Written.value_as}
pub use Rattle.neutral_machine.proofs.{Drops.stays, Filling.all_flat, WrittenFits.written_fits}
pub use Rattle.invariant_laws.specs.Asked.{ArgumentFits, ArgumentsFit, OutWritten, OutsWritten, GivenByType, GivenByNative, GivenByCall}
pub use Rattle.invariant_laws.specs.Sound.{CellsFit, SoundBelow, ParamFits, IsEntered, FramesKeep, FrameBelow}
pub use Rattle.invariant_laws.specs.Waiting.{States, AsksWell, WaitsNative, Waits, WaitsBelow, Interrupted, InterruptedBelow, BelowMarked}
pub use Rattle.invariant_laws.specs.Waiting.{Chain, BelowHost}
pub use Rattle.invariant_laws.specs.{Endings.RaisesOnlyDivideError, Holds.TopHolds, Holds.Holds, Holds.RunsAt, Holds.SpotHolds}
pub use Rattle.invariant_laws.specs.{Hosted.RunWorld, Hosted.HostGoesOn, Later.Later, Later.Preserves, LaterLaws.StatesFitBelow}
pub use Rattle.invariant_laws.specs.{Laws.states_by, Live.live_memory}
unfoldable pub use Rattle.host_model.specs.HostPlans.{host_plan, filling, field_at, is_due}
unfoldable pub use Rattle.host_model.specs.{Objects.made_objects, Objects.placed_objects, ScriptValues.fits, ScriptValues.fits_each}
unfoldable pub use Rattle.neutral_machine.specs.{NeutralHost.after_stores, NeutralHost.all_lent, NeutralReadings.neutral_arguments}
unfoldable pub use Rattle.neutral_machine.specs.{NeutralReadings.neutral_reading, Operations.compared_as, Operations.instance_of}
unfoldable pub use Rattle.neutral_machine.specs.Operations.{kept_natural}
