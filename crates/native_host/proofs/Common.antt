-- The names that several proofs of this crate cite, passed on from one place. Declares nothing.
pub use Rattle.std.specs.{List.flat_map, List.sum_by, Option.option_map_or, Option.option_and_then, Option.option_or, Option.option_map}
pub use Rattle.std.proofs.Common.{◌≡◌, ℕ, zero, suc, ◌+◌, ◌^◌, ◌<◌, ◌≤◌, List, [], ◌∷◌, ◌++◌, length, map, take, drop, Option, Some, None}
pub use Rattle.std.proofs.Common.{slice_get, refl, sym, ap, ◌∙◌, subst, arith, add-one, vec_capacity, append-nil, append_assoc}
pub use Rattle.std.proofs.Common.{length-append, Bool, true, false, if◌then◌else◌, nat_eq, ltb, get_or, ⊎_elim, ap₂, ltb-true, ◌*◌, ◌-◌}
pub use Rattle.std.proofs.Common.{slice_index, nat_lt, ◌&&◌, not, nat_le, true≢false, ◌%◌, le_refl, rules, option_copied}
pub use Rattle.std.proofs.{Math.Path.fun_ext, lemmas.Bool.and_parts, lemmas.List.map-append, lemmas.List.drop_all, lemmas.List.drop_more}
pub use Rattle.std.proofs.lemmas.{List.length-map, List.length_push, List.Sums.sum_by-cons, Nat.mul-le}
pub use Rattle.std.proofs.lemmas.Option.{none-some, same_Some, slice_get-get_or, slice_get_within}
pub use Rattle.ebc_width.specs.{Ranges.Range, Ranges.covers, Width.IsWidth, Width.cut_at}
pub use Rattle.ebc_width.proofs.{Laws.by_width, RangeLaws.covers-bounds}
pub use Rattle.frame_stack.specs.declared.Frame.{Frame}
pub use Rattle.note_types.specs.{Cells.cell_size, Concrete.Concrete, Concrete.register, Records.IsNotes, Shapes.size_at}
pub use Rattle.note_types.specs.declared.ending.Ending.{Ending, TheVariants.Mismatch, TheVariants.ScriptEnd}
pub use Rattle.note_types.specs.declared.{event.Event.Event, notes.FnNote.FnNote, notes.Notes.Notes, notes.Param.Param}
pub use Rattle.note_types.specs.declared.notes.{Signature.Signature, Site.Site, Static.Static, WantParam.WantParam}
pub use Rattle.note_types.specs.declared.script.{OutValue.OutValue, Script.Script, ScriptCall.ScriptCall}
pub use Rattle.note_types.specs.declared.{script.ScriptObject.ScriptObject, seen.Seen.Seen, shape.Field.Field, value.Value.Value}
pub use Rattle.object_memory.specs.Memory.{Memory, ranges, Object, first_base, next_base, padded, range_of, used}
pub use Rattle.object_memory.proofs.Laws.{used-placed, byte_at-placed, memory_after-absent, held_number-held}
pub use Rattle.ebc_machine.specs.States.{KeepsObjects}
pub use Rattle.host_model.specs.HostPlans.{signature_params, Asks, NoSite, signature_method, Asking, Ends, Store, call_event, Notifies}
pub use Rattle.host_model.specs.Placements.{Placement, image_range, native_range, stack_range, method_at, slot_bytes, all_ranges}
pub use Rattle.host_model.specs.Placements.{area_bytes, object_bytes, object_range, stack_bytes, frame_limit, shape_bytes, frame_bytes}
pub use Rattle.host_model.specs.HostPlans.{GoesOn, Enters, Replies, named_right, out_store, write_store, cell_store, object_stores}
pub use Rattle.host_model.specs.HostSteps.{asking_by, objects_at, slots_asked, slots_of, with_call, call_under_way, cell_address}
pub use Rattle.host_model.specs.Progress.{Asked, NativeCall, NoCall, Accepted, ScriptPlace, copied, one_callback}
pub use Rattle.host_model.specs.Objects.{objects_of, script_object, static_object, shape_of}
pub use Rattle.host_model.specs.{Placements.params_bytes, Readings.role_of, RunState.RunState, RunState.SavedFrame, Runs.world_of}
pub use Rattle.host_model.specs.{ScriptValues.given, Scripts.IsScript, Scripts.all_made, Scripts.callbacks_of, World.World}
pub use Rattle.host_model.specs.declared.object.TypedObject.{TypedObject}
pub use Rattle.callex_thunk.specs.Slots.{memory_state}
pub use Rattle.callex_thunk.specs.declared.TheConstants.{NO_ENTRY}
pub use Rattle.entry_thunk.specs.Cells.{with_memory}
pub use Rattle.entry_thunk.proofs.CellLaws.{stored-memory, keeps-more, keeps-none}
pub use Rattle.native_host.specs.{Bound.bound_step, Entering.can_enter, Hosts.host_world, Hosts.IsCalled, Hosts.shown, Hosts.top_count}
pub use Rattle.native_host.specs.{Hosts.all_events, Hosts.top_slots, Kept.IsOf, Kept.placement_of, Kept.instance_bytes, Kept.object_base}
pub use Rattle.native_host.specs.{Placing.AreComing, Sorts.sort_of, Starting.room_in, Steps.asked, Steps.entry_count, Steps.step_of}
pub use Rattle.native_host.specs.Stores.{are_mapped, after_number}
pub use Rattle.native_host.specs.declared.{host.Host.Host, places.Places.Places, step.HostStep.HostStep}
unfoldable pub use Rattle.ebc_width.specs.{Bytes.little_endian, Ranges.holds}
unfoldable pub use Rattle.pe_image.specs.Mapped.{mapped}
unfoldable pub use Rattle.frame_stack.specs.Frames.{with_mark}
unfoldable pub use Rattle.note_types.specs.Concrete.{stored}
unfoldable pub use Rattle.object_memory.specs.Memory.{byte_at, placed, memory_after, held_number}
unfoldable pub use Rattle.host_model.specs.HostPlans.{argument_refused, site_of, host_plan, filling, all_named_right, reply_fits}
unfoldable pub use Rattle.host_model.specs.HostSteps.{with_objects, asking_at, after_stores, performed, with_object, writes_mapped}
unfoldable pub use Rattle.host_model.specs.Placements.{own_placement, placed_ranges, script_ranges, bases_from, object_at, most_bytes}
unfoldable pub use Rattle.host_model.specs.Readings.{argument_read, arguments_read, slots_from, pointer_from, reading_of}
unfoldable pub use Rattle.host_model.specs.{HostPlans.reply_plan, HostPlans.reply_stores, HostPlans.field_at, HostSteps.written_number}
unfoldable pub use Rattle.host_model.specs.{Objects.made_objects, Objects.placed_objects, Start.bare_machine, Start.start_machine}
unfoldable pub use Rattle.callex_thunk.specs.{HostFrames.saved_of, Slots.with_arguments}
unfoldable pub use Rattle.pair_model.specs.Rules.{parameter_refused}
unfoldable pub use Rattle.native_host.specs.Starting.{rooms_in, bases_in, bases_made, rest_events, rest_made, rooms_made}
