-- The names that several proofs of this crate cite, passed on from one place. Declares nothing.
pub use Rattle.std.specs.{List.list_all, List.zip, List.AllByRecursion, Option.option_map_or, Option.option_or, Prelude.⊤, Prelude.IfSome}
pub use Rattle.std.proofs.Common.{◌≡◌, ℕ, zero, suc, Bool, true, false, ◌&&◌, if◌then◌else◌, nat_eq, List, [], ◌∷◌, length, Option, Some}
pub use Rattle.std.proofs.Common.{None, option_map, refl, sym, ap, ◌∙◌, subst, arith, slice_get, ◌≤◌, not, nat_lt, ◌++◌, map, ap₂, inl, inr}
pub use Rattle.std.proofs.Common.{◌<◌, ◌+◌, ◌^◌, nat_le, ◌*◌, get_or, pos, option_and_then}
pub use Rattle.std.proofs.{Common.◌-◌, lemmas.Bool.and_parts, lemmas.Bool.false≢true, lemmas.Bool.true≢false, lemmas.Bool.ltb-true}
pub use Rattle.std.proofs.lemmas.{Bool.leb-true, Option.none-some, Option.same_Some}
pub use Rattle.ebc_base.proofs.Given.{some_of_map}
pub use Rattle.ebc_width.specs.Width.{IsWidth}
pub use Rattle.ebc_insn.specs.declared.Insn.{Insn}
pub use Rattle.pe_image.specs.declared.image.Image.{Image}
pub use Rattle.note_types.specs.{BelowTests.same_kind, BelowTests.divides, Passing.IsHandedIn, Records.IsResultNote, Shapes.IsShape}
pub use Rattle.note_types.specs.declared.{ending.Ending.Ending, event.Event.Event, notes.FnNote.FnNote, notes.Notes.Notes}
pub use Rattle.note_types.specs.declared.notes.{Param.Param, Signature.Signature, Thunk.Thunk, Want.Want}
pub use Rattle.note_types.specs.declared.{notes.WantParam.WantParam, script.Notify.Notify, script.Script.Script, seen.Seen.Seen}
pub use Rattle.note_types.specs.declared.{shape.Field.Field, spot.Spot.Spot, types.Ty.Ty, value.Value.Value}
pub use Rattle.host_model.specs.HostPlans.{signature_method, Asking, View, Calls, Ends, asked_args, asking_refused, call_event}
pub use Rattle.host_model.specs.HostPlans.{function_params, signature_params, Enters, Asks, Returns, GoesOn, NotifiedReturns, IsDue}
pub use Rattle.host_model.specs.HostPlans.{return_view, Leaves, signature_result, is_error, host_turn}
pub use Rattle.host_model.specs.Progress.{Asked, ScriptPlace, is_empty, NativeCall, NoCall, Accepted, one_instruction}
pub use Rattle.host_model.specs.{Placements.Placement, Placements.stack_bytes, Readings.sort_of_type, RunState.RunState}
pub use Rattle.host_model.specs.{ScriptValues.fits_result, ScriptValues.is_handle, ScriptValues.given, Values.Neutral, World.World}
pub use Rattle.host_model.specs.declared.object.TypedObject.{TypedObject}
pub use Rattle.neutral_machine.specs.Config.{Config, call_under_way, FunctionFrame, Frame, Function, depth, with_call, Host, hosts}
pub use Rattle.neutral_machine.specs.{Layout.total, Memory.Memory, NeutralRun.instruction_left, NeutralRuns.step_if, NeutralRuns.is_gate}
pub use Rattle.neutral_machine.specs.{Stands.Stands, Written.result_value, WrittenLaw.IsValue}
pub use Rattle.pair_model.specs.Pairs.{PairWorld, Both, CallerRuns, PairState, SideOf, OfA, OfB, Stage, ProviderRuns, CallTaken, CallRuns}
pub use Rattle.pair_model.specs.Rules.{with_a, caller_step_seen, call_refused, call_told, plain_step, stage_step, with_b, provider_ended}
pub use Rattle.pair_model.specs.Binds.{AllAgree, BoundCall, takes_alike, param_agrees, signature_agrees}
pub use Rattle.pair_model.specs.{Pairs.CallReturned, Rules.function_entered, Rules.function_step_seen, Rules.call_answered}
pub use Rattle.pair_model.specs.declared.{bind.Bind.Bind, event.PairEvent.PairEvent}
pub use Rattle.host_laws.specs.PlanFits.{TopHost}
pub use Rattle.host_laws.proofs.{ViewAlike.and_then_some, Views.views_stand}
pub use Rattle.instruction_laws.proofs.Worlds.{world_meets}
pub use Rattle.invariant_laws.specs.{Asked.GivenByNative, Endings.RaisesOnlyDivideError, Holds.Holds, Holds.TopHolds, Hosted.RunWorld}
pub use Rattle.invariant_laws.specs.{Hosted.Turn, Hosted.of_host, Hosted.of_code, LaterLaws.StatesFitBelow, Live.live_memory}
pub use Rattle.invariant_laws.specs.{Sound.FramesKeep, Sound.SoundBelow, Waiting.States, Waiting.AsksWell}
pub use Rattle.invariant_laws.proofs.{Calling.at_place, Entering.ValuesFit, Turns.turn_holds}
pub use Rattle.typing_laws.proofs.Rooms.{sound_room}
pub use Rattle.step_sound.specs.StepLaw.{StepGoesWell}
pub use Rattle.step_sound.proofs.{Items.each_item, Items.passing, Steps.state_below, Worlds.run_world}
pub use Rattle.pair_laws.specs.Laws.{IsPairAt, PairStands, value_given, SideGoesWell, StageGoesWell}
pub use Rattle.pair_laws.specs.{NeutralPair.neutral_sides, PairLaw.TypedSide, PairLaw.TypedPair, SamePairs.ArePlaced}
pub use Rattle.pair_laws.specs.TypedPairs.{IsTypedPair}
unfoldable pub use Rattle.pe_image.specs.Mapped.{mapped}
unfoldable pub use Rattle.note_types.specs.BelowTests.{is_below}
unfoldable pub use Rattle.host_model.specs.{HostPlans.site_of, HostPlans.host_plan, HostPlans.is_due, Objects.made_objects}
unfoldable pub use Rattle.host_model.specs.{Readings.arguments_read, Readings.slots_from, ScriptValues.fits}
unfoldable pub use Rattle.neutral_machine.specs.{NeutralReadings.neutral_result, NeutralRun.neutral_instruction, NeutralRuns.neutral_step}
unfoldable pub use Rattle.neutral_machine.specs.Rows.{executed}
unfoldable pub use Rattle.pair_model.specs.Rules.{caller_step, provider_refused, call_step, parameter_refused, reply_refused, provider_step}
unfoldable pub use Rattle.pair_model.specs.{Binds.bound_to, Binds.bound_at, Binds.bind_agrees, PairRuns.bound_reply, PairRuns.pair_step_at}
unfoldable pub use Rattle.pair_model.specs.{PairRuns.pair_run, Rules.enter_step, Rules.function_step, Rules.reply_step, Rules.pair_step}
unfoldable pub use Rattle.pair_laws.specs.NeutralPair.{neutral_bound_reply, neutral_pair_run}
