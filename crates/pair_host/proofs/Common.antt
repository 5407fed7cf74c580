-- The names that several proofs of this crate cite, passed on from one place. Declares nothing.
pub use Rattle.std.specs.Option.{option_map_or, option_or}
pub use Rattle.std.proofs.Common.{ℕ, ◌≤◌, Bool, true, false, if◌then◌else◌, nat_eq, List, [], ◌∷◌, ◌++◌, map, length, Option, Some, None}
pub use Rattle.std.proofs.Common.{arith, slice_get, ◌≡◌, suc, ◌<◌, zero, refl, sym, ap, ◌∙◌, subst, append-nil, inl, inr, ◌≢◌, ◌⊎◌, ◌-◌}
pub use Rattle.std.proofs.{Common.drop, Math.Seq.drop-append_seam, lemmas.Bool.cases_lt, lemmas.Bool.false≢true}
pub use Rattle.pe_image.specs.declared.image.Image.{Image}
pub use Rattle.note_types.specs.Concrete.{Concrete}
pub use Rattle.note_types.specs.declared.{ending.Ending.Ending, ending.Ending.TheVariants.Running, event.Event.Event, notes.Notes.Notes}
pub use Rattle.note_types.specs.declared.{seen.Seen.Seen, types.Ty.Ty, value.Value.Value}
pub use Rattle.ebc_machine.specs.declared.StepEnd.{StepEnd}
pub use Rattle.host_model.specs.HostPlans.{Plan, View, host_turn, function_params, Finishes, Leaves, Accepts, Enters, Replies, Resumes}
pub use Rattle.host_model.specs.HostPlans.{Notifies, Ends, Returns, Calls, GoesOn, IsDue, NotifiedReturns, ThunkView, Names, NamesNone}
pub use Rattle.host_model.specs.HostSteps.{call_under_way, entered, frame_for, left, objects_at, resumed, with_call, asking_by, slots_of}
pub use Rattle.host_model.specs.HostPlans.{NotMapped, asked_args, call_event, signature_params, signature_result, Asking, NoSite, is_error}
pub use Rattle.host_model.specs.Progress.{ScriptPlace, one_callback, one_instruction, one_notification, NativeCall, NoCall, Asked, Accepted}
pub use Rattle.host_model.specs.{HostSteps.call_seen, HostSteps.return_seen, Placements.Placement, Placements.code_at, RunState.RunState}
pub use Rattle.host_model.specs.{RunState.SavedFrame, Runs.step_if, ScriptValues.given, World.World}
pub use Rattle.host_model.specs.declared.object.TypedObject.{TypedObject}
pub use Rattle.pair_model.specs.Rules.{call_refused, call_told, caller_step_seen, plain_step, with_a, call_answered, function_entered}
pub use Rattle.pair_model.specs.{Binds.BoundCall, PairReports.own_placements, PairRuns.side_at, PairRuns.sides_at, Pairs.PairWorld}
pub use Rattle.pair_model.specs.{Pairs.PairState, Pairs.Both, Pairs.OfA, Pairs.SideOf, Pairs.running_side, Rules.with_b, Rules.stage_step}
pub use Rattle.pair_model.specs.Rules.{function_step_seen, provider_ended}
pub use Rattle.pair_model.specs.declared.event.PairEvent.{PairEvent}
pub use Rattle.native_host.specs.Bound.{bound_step, bound_call_of}
pub use Rattle.twin_run.specs.{Bound.Rests, Bound.IsNoFirstReturn, Runner.IsAt, Runner.IsQuiet, Runner.IsRunner}
pub use Rattle.twin_run.specs.declared.runner.Runner.{Runner}
pub use Rattle.pair_host.specs.PairRunner.{told, CanBeEntered, IsPair, IsProvider, SidesGoOn, own, stage_of, stepped, images_for}
pub use Rattle.pair_host.specs.{PairDiffers.OwnPairsSame, PairDiffers.PairsDifferAt, PairDiffers.nowhere, PairOnItsWay.ArePairsInStep}
pub use Rattle.pair_host.specs.{PairReported.IsPairReport, PairReported.own_pair_run, PairRunner.pair_world, PairRunner.listed}
pub use Rattle.pair_host.specs.declared.{pair_runner.PairRunner.PairRunner, reports.PairRun.PairRun}
unfoldable pub use Rattle.ebc_machine.specs.Step.{machine_step}
unfoldable pub use Rattle.host_model.specs.HostSteps.{host_step, host_view, inside, performed, thunk_made, thunk_view, written_number}
unfoldable pub use Rattle.host_model.specs.{HostPlans.host_plan, HostPlans.is_due, HostPlans.site_of, HostSteps.asking_at}
unfoldable pub use Rattle.host_model.specs.{Objects.made_objects, Placements.own_placement, Runs.after_instruction, Runs.instruction_step}
unfoldable pub use Rattle.host_model.specs.Runs.{run_step, running_step}
unfoldable pub use Rattle.pair_model.specs.Rules.{call_step, caller_step, reply_refused, enter_step, reply_step, function_step}
unfoldable pub use Rattle.pair_model.specs.{Binds.bound_at, PairRuns.bound_reply, PairRuns.pair_step_at, Rules.provider_step}
