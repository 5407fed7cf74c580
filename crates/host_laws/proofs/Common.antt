-- The names that several proofs of this crate cite, passed on from one place. Declares nothing.
pub use Rattle.std.specs.{List.AllZip, List.AllByRecursion, List.list_all, List.flat_map, Option.option_map, Option.option_and_then}
pub use Rattle.std.specs.Option.{option_map_or}
pub use Rattle.std.proofs.Common.{◌≡◌, ℕ, zero, suc, ◌+◌, ◌-◌, ◌*◌, ◌%◌, ◌^◌, ◌<◌, ◌≤◌, ◌⊎◌, if◌then◌else◌, nat_lt, List, [], ◌∷◌, ◌++◌}
pub use Rattle.std.proofs.Common.{map, length, Option, Some, None, refl, sym, ap, ap₂, ◌∙◌, subst, subst₂, arith, inl, inr, ⊎_elim}
pub use Rattle.std.proofs.Common.{slice_get, Bool, true, false, nat_eq, slice_set, mod-eq_of_lt, take, slice_index, is_some, ◌&&◌, nat_le}
pub use Rattle.std.proofs.Common.{◌≢◌}
pub use Rattle.std.proofs.Math.Nat.{zero-mod}
pub use Rattle.std.proofs.lemmas.Bool.{lt-ltb, le-ltb, cases_lt, eqb-true, and_parts, eq-eqb, cases_eq}
pub use Rattle.std.proofs.lemmas.List.{append-nil, length-set, get_or-set_same, get_or-set_other}
pub use Rattle.std.proofs.lemmas.Option.{same_Some, none-some, slice_get_within, slice_get-get_or, slice_get-map}
pub use Rattle.ebc_base.proofs.Lists.{slice_get-append_left, slice_get-append_right, length-map}
pub use Rattle.ebc_base.proofs.Given.{some_of_map}
pub use Rattle.ebc_width.specs.{Ranges.Range, Ranges.covers, Width.IsWidth, Width.cut_at}
pub use Rattle.ebc_width.proofs.ByteLaws.{little_endian-agree, put-apart, put-below, little_endian-apart}
pub use Rattle.ebc_width.proofs.RangeLaws.{covers-inside}
pub use Rattle.note_types.specs.{Cells.cell_size, Cells.content_type, Concrete.Concrete, Concrete.register}
pub use Rattle.note_types.specs.declared.{cell.Cell.Cell, ending.Ending.Ending, event.Event.Event, notes.FnNote.FnNote, notes.Notes.Notes}
pub use Rattle.note_types.specs.declared.{notes.Param.Param, notes.Thunk.Thunk, notes.WantParam.WantParam, script.OutValue.OutValue}
pub use Rattle.note_types.specs.declared.{script.ScriptCall.ScriptCall, script.ScriptObject.ScriptObject, script.WriteValue.WriteValue}
pub use Rattle.note_types.specs.declared.{seen.Seen.Seen, shape.Field.Field, shape.Shape.Shape, spot.Spot.Spot, value.Value.Value}
pub use Rattle.host_model.specs.HostPlans.{Store, Accepts, InObject, Enters, Notifies, function_params, View, Calls, GoesOn, IsDue, Asks}
pub use Rattle.host_model.specs.HostPlans.{return_view, Finishes, Leaves, Ends, Resumes, InArgument, lent_at, signature_params, Asking}
pub use Rattle.host_model.specs.HostPlans.{NoSite, Target, Plan, Replies, signature_method}
pub use Rattle.host_model.specs.Placements.{Placement, stack_bytes, object_bytes, IsPlacement, stack_end, object_address, slot_bytes}
pub use Rattle.host_model.specs.Placements.{params_bytes, return_cell, area_bytes, image_range}
pub use Rattle.host_model.specs.Progress.{Accepted, ScriptPlace, one_callback, NativeCall, NoCall, Asked, copied, is_empty}
pub use Rattle.host_model.specs.Values.{Neutral, CellPlace, FieldOf, FieldOfLocals, Shows, ShowsIn, null, minus, Addresses, Anchor}
pub use Rattle.host_model.specs.Values.{ObjectOf, ThunkOf, LocalOf, Cells, word, At, IsPast}
pub use Rattle.host_model.specs.{HostSteps.cell_address, HostSteps.slots_of, Objects.script_object, Objects.static_object}
pub use Rattle.host_model.specs.{Readings.in_stack, Readings.before_all, RunState.RunState, RunState.SavedFrame, World.World}
pub use Rattle.host_model.specs.declared.object.TypedObject.{TypedObject}
pub use Rattle.neutral_machine.specs.Config.{Config, call_under_way, with_call, StackItem, FunctionFrame, HostFrame, Frame, Function, Host}
pub use Rattle.neutral_machine.specs.Config.{depth, locals_at, hosts, with_value}
pub use Rattle.neutral_machine.specs.NeutralHost.{slots_asked, local_of, target_place, objects_at}
pub use Rattle.neutral_machine.specs.Stands.{CellShows, ThunkShows, MachineStands, Stands, ItemsShow, ReturnShows, FramesShow, CallShows}
pub use Rattle.neutral_machine.specs.Stands.{HostShows, HostsShow}
pub use Rattle.neutral_machine.specs.{Layout.addresses, Layout.total, Layout.height, Layout.local_address, Locations.is_method}
pub use Rattle.neutral_machine.specs.{Memory.memory_of, Memory.cell_field, Named.Named, NeutralReadings.local_named}
pub use Rattle.neutral_machine.specs.{NeutralReadings.content_value, WorldFits.WorldFits, Written.value_as, WrittenLaw.IsValue}
pub use Rattle.neutral_machine.proofs.Agree.{frames_agree, shows_more, frames_more, read_put, shown_in, slot_positive, Extends}
pub use Rattle.neutral_machine.proofs.Agree.{shows_in_more}
pub use Rattle.neutral_machine.proofs.Cells.{in_object_at, ObjectCell, object_cell, object_place, end_small, cell_lies}
pub use Rattle.neutral_machine.proofs.Placed.{lies, objects_off, off_thunk, off_code, stack_within, stack_holds}
pub use Rattle.neutral_machine.proofs.{Bounds.bounded, Numbers.minus-is, PlacedObjects.Lies, Stored.width_le, Words.width_word}
pub use Rattle.neutral_machine.proofs.{Words.if_some, WrittenShows.value_shows}
pub use Rattle.host_laws.specs.{PlanFits.StoreNames, PlanFits.CanEnter, PlanFits.PlanFits, ScriptGiven.ScriptGiven, ScriptGiven.StoreGiven}
pub use Rattle.host_laws.specs.{ScriptGiven.CallGiven, StartGiven.start_config}
unfoldable pub use Rattle.ebc_width.specs.{Bytes.little_endian, Bytes.put, Ranges.holds}
unfoldable pub use Rattle.note_types.specs.Concrete.{stored}
unfoldable pub use Rattle.host_model.specs.HostPlans.{field_at, host_plan, filling, site_of}
unfoldable pub use Rattle.host_model.specs.HostSteps.{with_objects, after_stores, performed, written_number, host_step, spot_of, host_view}
unfoldable pub use Rattle.host_model.specs.{Objects.made_objects, Objects.placed_objects, Placements.object_at, Placements.placed_ranges}
unfoldable pub use Rattle.host_model.specs.ScriptValues.{fits_each}
unfoldable pub use Rattle.neutral_machine.specs.NeutralHost.{param_slots, lent_there, writes_there, neutral_host_step}
unfoldable pub use Rattle.neutral_machine.specs.NeutralReadings.{neutral_arguments}
unfoldable pub use Rattle.host_laws.specs.PlanFits.{with_new}
