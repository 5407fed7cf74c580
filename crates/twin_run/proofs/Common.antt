-- The names that several proofs of this crate cite, passed on from one place. Declares nothing.
pub use Rattle.std.specs.{List.AllByRecursion, List.list_all, List.sum_by, Option.option_map_or, Prelude.⊤}
pub use Rattle.std.proofs.Common.{◌≡◌, ℕ, suc, ◌%◌, ◌^◌, ◌<◌, ◌≤◌, Bool, true, false, List, [], ◌∷◌, length, map, Some, None, refl, sym, ap}
pub use Rattle.std.proofs.Common.{◌∙◌, subst, arith, if◌then◌else◌, vec_capacity, ◌+◌, Option, nat_eq, drop, take, IfNone, IfSome, Ok, Err}
pub use Rattle.std.proofs.Common.{slice_index, slice_set, inl, inr, ◌⊎◌, zero, ◌-◌, get_or, nat_le, nat_lt, slice_get, leb-true, ltb-true}
pub use Rattle.std.proofs.Common.{◌*◌, pos, codes, true≢false, ◌++◌, min, ◌≢◌, ◌↔◌, add-one, add-zero, IfOk, ⊎_elim, eqb-true, not, ◌&&◌}
pub use Rattle.std.proofs.{Common.eq-eqb, Common.Result, lemmas.Bool.cases_lt, lemmas.Bool.and_parts, lemmas.Bool.false≢true}
pub use Rattle.std.proofs.lemmas.{Bool.Decides.Decides-at, Option.same_Some, Option.none-some}
pub use Rattle.ebc_base.proofs.Lists.{length-map, within_some}
pub use Rattle.ebc_width.specs.{Ranges.Range, Ranges.covers, Width.IsWidth}
pub use Rattle.ebc_insn.specs.declared.Insn.{Insn}
pub use Rattle.pe_image.specs.{Images.IsImage, Mapped.AreBytes}
pub use Rattle.pe_image.specs.declared.image.Image.{Image}
pub use Rattle.frame_stack.specs.declared.Frame.{Frame}
pub use Rattle.note_types.specs.{Concrete.Concrete, Concrete.register, Known.IsState, Notes.entry_state, Records.IsNotes}
pub use Rattle.note_types.specs.declared.ending.Ending.TheVariants.{Running, Raised, Finished, Mismatch, ScriptEnd}
pub use Rattle.note_types.specs.declared.{cell.SlotKind.SlotKind, ending.Ending.Ending, event.Event.Event, exception.Exception.Exception}
pub use Rattle.note_types.specs.declared.notes.{FnNote.FnNote, Notes.Notes, Param.Param, Point.Point}
pub use Rattle.note_types.specs.declared.{reason.Reason.Reason, script.Notify.Notify, script.Script.Script, script.ScriptCall.ScriptCall}
pub use Rattle.note_types.specs.declared.{script.ScriptObject.ScriptObject, seen.Seen.Seen, shape.Field.Field, shape.Shape.Shape}
pub use Rattle.note_types.specs.declared.{spot.Spot.Spot, state.State.State, types.Ty.Ty, value.Value.Value}
pub use Rattle.object_memory.specs.Memory.{Memory}
pub use Rattle.ebc_machine.specs.States.{concrete_of, KeepsObjects}
pub use Rattle.ebc_machine.specs.declared.{Machine.Machine, StepEnd.StepEnd}
pub use Rattle.host_model.specs.HostPlans.{function_params, Calls, return_view, IsDue, GoesOn, View, ThunkView, NotMapped, NamesNone, Names}
pub use Rattle.host_model.specs.Progress.{script_start, NativeCall, NoCall, Asked, Accepted, ScriptPlace, is_empty, one_instruction}
pub use Rattle.host_model.specs.HostPlans.{Ends, Enters, Replies, Notifies, signature_result, host_turn}
pub use Rattle.host_model.specs.HostSteps.{entered, frame_for, call_seen, call_under_way, left, outside, return_seen, with_call, objects_at}
pub use Rattle.host_model.specs.{Objects.shape_of, Placements.Placement, Placements.code_at, Placements.stack_end, Placements.frame_limit}
pub use Rattle.host_model.specs.{Placements.IsPlacement, Progress.one_callback, Progress.one_notification, RunState.RunState}
pub use Rattle.host_model.specs.{RunState.SavedFrame, Runs.run_of, Runs.world_of, Runs.step_if, Scripts.IsScript, World.World}
pub use Rattle.host_model.specs.declared.object.TypedObject.{TypedObject}
pub use Rattle.rules_image.specs.Places.{IsPlaceOf}
pub use Rattle.callex_thunk.specs.declared.TheConstants.{NO_ENTRY}
pub use Rattle.neutral_machine.specs.{Config.Config, NeutralRun.config_after}
pub use Rattle.neutral_machine.proofs.{Driver.locate_call, Driver.register_call, Programs.driver_image}
pub use Rattle.width_checker.specs.{Rows.here_at, StatesAt.IsBefore, StatesAt.of_point, StatesAt.of_fall, Typed.Typed, Typed.MeetsRules}
pub use Rattle.entry_thunk.specs.Cells.{with_memory}
pub use Rattle.native_host.specs.{Hosts.IsHost, Hosts.IsMemoryOf, Hosts.IsServing, Hosts.host_world, Hosts.shown, Kept.placement_of}
pub use Rattle.native_host.specs.{Kept.IsOf, Steps.taken}
pub use Rattle.native_host.specs.declared.{host.Host.Host, step.HostStep.HostStep}
pub use Rattle.native_host.proofs.{AskingLaws.other-place, TopLaws.under-way}
pub use Rattle.step_sound.proofs.Items.{all_pairs, each_item}
pub use Rattle.twin_run.specs.{Differs.DifferAt, Differs.nowhere, Differs.first, OnItsWay.AreInStep, OnItsWay.IsOnItsWay, Reported.own_run}
pub use Rattle.twin_run.specs.{Room.AreInside, Room.HasEvents, Room.call_events, Runner.IsAt, Runner.IsQuiet, Runner.IsRunner}
pub use Rattle.twin_run.specs.{Runner.hosts_of, Runner.GoesOnFor, Runner.IsFree, Runner.Runs, StatesOf.states_of, TypedRuns.IsTypedWorld}
pub use Rattle.twin_run.specs.declared.runner.{AskedCall.AskedCall, Runner.Runner}
unfoldable pub use Rattle.ebc_width.specs.{Bytes.put, Bytes.little_endian, Ranges.holds}
unfoldable pub use Rattle.pe_image.specs.Mapped.{mapped, laid}
unfoldable pub use Rattle.machine_alu.specs.Alu.{computed, compared}
unfoldable pub use Rattle.note_types.specs.{BelowTests.state_below, Concrete.stored, Concrete.with_register, Records.function_at}
unfoldable pub use Rattle.ebc_machine.specs.Step.{machine_step}
unfoldable pub use Rattle.host_model.specs.HostSteps.{inside, written_number, asking_at, host_view, result_of, host_step, performed}
unfoldable pub use Rattle.host_model.specs.{HostPlans.is_due, HostPlans.host_plan, HostSteps.thunk_made, HostSteps.thunk_view}
unfoldable pub use Rattle.host_model.specs.{HostSteps.spot_of, Objects.made_objects, Objects.placed_objects, Placements.own_placement}
unfoldable pub use Rattle.host_model.specs.Runs.{run_after, after_instruction, instruction_step, run_step, running_step}
unfoldable pub use Rattle.rules_image.specs.{Images.reloc_at, Places.Leads}
unfoldable pub use Rattle.callex_thunk.specs.HostFrames.{call_of, saved_of}
unfoldable pub use Rattle.neutral_machine.specs.{NeutralImage.static_cells, NeutralImage.instruction_at, NeutralRuns.neutral_start}
unfoldable pub use Rattle.width_checker.specs.{Rows.row_of, StatesAt.Comes}
unfoldable pub use Rattle.twin_run.specs.{Room.events_left, Runner.steps_on}
