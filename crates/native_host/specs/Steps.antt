-- For proofs: what steps of the host come to, for whoever runs the machine. docs/HOST.md, "Steps".
use Rattle.std.specs.Prelude.{ℕ, Bool, List, length, map, slice_get, Option, Some, None, ⊤}
use Rattle.std.specs.Option.{option_map_or}
use Rattle.note_types.specs.Concrete.{with_register}
use Rattle.host_model.specs.HostPlans.{Calls, IsDue, Plan, Accepts, Enters, Replies, Notifies, Ends, ThunkView, NotMapped, NamesNone}
use Rattle.host_model.specs.HostPlans.{Names, host_plan}
use Rattle.host_model.specs.HostSteps.{asking_at, entered, objects_at, with_call, written_number}
use Rattle.host_model.specs.Placements.{Placement}
use Rattle.host_model.specs.Progress.{Asked}
use Rattle.host_model.specs.RunState.{RunState}
use Rattle.host_model.specs.ScriptValues.{given}
use Rattle.host_model.specs.World.{World}
use Rattle.note_types.specs.declared.ending.Ending.{Ending}
use Rattle.note_types.specs.declared.ending.Ending.TheVariants as ending
use Rattle.note_types.specs.declared.exception.Exception.TheVariants as raises
use Rattle.note_types.specs.declared.reason.Reason.TheVariants as reason
use Rattle.note_types.specs.declared.script.Script.{Script}
use Rattle.note_types.specs.declared.script.ScriptCall.{ScriptCall}
use Rattle.note_types.specs.declared.seen.Seen.{Seen}
use Rattle.note_types.specs.declared.value.Value.{Value}
use Rattle.object_memory.specs.Memory.{Memory}
use Rattle.frame_stack.specs.declared.Frame.{Frame}
use Rattle.callex_thunk.specs.HostFrames.{saved_of}
use Rattle.native_host.specs.Hosts.{shown}
use Rattle.native_host.specs.declared.host.Host.{Host}
use Rattle.native_host.specs.declared.step.HostStep.{HostStep}
use Rattle.native_host.specs.declared.step.HostStep.TheVariants as step

-- ---- what a plan comes to

-- what the end of a run comes to
abbrev pub end_step : Ending → Option HostStep
end_step (ending.Mismatch r) = Some (step.Mismatch r)
end_step ending.ScriptEnd = Some step.ScriptEnd
end_step (ending.Raised e) = Some (step.Raised e)
end_step _ = None

-- what a plan comes to, where values have these numbers: none for one that leaves a function
abbrev pub step_of : (Value → ℕ) → Plan → Option HostStep
step_of number (Accepts e entry objects stores) = Some step.Accepted
step_of number (Enters e entry f values) = Some (step.Enter f (map given values))
step_of number (Replies e stores kind v) = Some (step.Reply (number v))
step_of number (Notifies e f values) = Some (step.Enter f (map given values))
step_of number (Ends es end) = end_step end
step_of number _ = None

-- what the host does where a notification is due, with so many frames of the host
abbrev pub due_plan : World → RunState → (frames : ℕ) → Plan
due_plan world r frames = host_plan world r.script (IsDue frames)

-- the state of a run with what a host tells, where a call instruction at a place asks for a native call with a target
abbrev pub asked : {w : ℕ} → Host w → Memory → List Frame → (place target : ℕ) → RunState → RunState
asked h m frames place target r = shown h m (with_call (Asked place target) (map saved_of frames)) r

-- what the host does there
abbrev pub asked_plan : ℕ → World → Placement → RunState → (place target : ℕ) → Plan
asked_plan w world P r place target = host_plan world r.script (Calls place (asking_at w world P r place target))

-- the state of a run with what a host tells after the call step: a call that isn't accepted stays asked for
abbrev pub settled : {w : ℕ} → Host w → Memory → List Frame → (place target : ℕ) → HostStep → RunState → RunState
settled h m frames place target step.Accepted r = shown h m (map saved_of frames) r
settled h m frames place target _ r = asked h m frames place target r

-- how many arguments the script's call of that number has
abbrev pub entry_count : Script → ℕ → ℕ
entry_count script entry = option_map_or (λ (c : ScriptCall). length c.args) (slice_get script.call entry) 0

-- The run once whoever runs the machine has done its part of a step: it enters the function, as a notification or not, with
-- the numbers of these values; it puts the number of a reply into R7; or the run ends.
abbrev pub taken : (notified : Bool) → ℕ → World → Placement → RunState → HostStep → RunState
taken notified w world P r (step.Enter f args) =
    entered notified w world P r f (map (λ (s : Seen). written_number w world.notes P (objects_at world r) s.value) args)
taken notified w world P r (step.Reply n) = record r { machine = with_register r.machine 7 n }
taken notified w world P r (step.Mismatch why) = record r { ending = ending.Mismatch why }
taken notified w world P r step.ScriptEnd = record r { ending = ending.ScriptEnd }
taken notified w world P r (step.Raised e) = record r { ending = ending.Raised e }
taken notified w world P r step.Accepted = r

-- ---- thunk cells

-- what serving a thunk cell at an address comes to
abbrev pub thunk_step : ℕ → ThunkView → HostStep
thunk_step address NotMapped = step.Raised raises.MemoryFault
thunk_step address NamesNone = step.Mismatch (reason.Thunk address)
thunk_step address (Names f) = step.Accepted

-- ---- by how a step ends

-- where a native call is accepted, or a thunk cell is served
abbrev pub OnAccepted : HostStep → Type 0 → Type 0
OnAccepted step.Accepted P = P
OnAccepted _ P = ⊤

-- where a function is to be entered
abbrev pub OnEnter : HostStep → ((func : ℕ) → (args : List Seen) → Type 0) → Type 0
OnEnter (step.Enter f args) P = P f args
OnEnter _ P = ⊤

-- The step neither enters a function nor gives a reply.
abbrev pub IsSettled : HostStep → Type 0
IsSettled (step.Enter f args) = ⊥
IsSettled (step.Reply n) = ⊥
IsSettled _ = ⊤

-- where the run ends
abbrev pub OnEnd : HostStep → Type 0 → Type 0
OnEnd (step.Mismatch r) P = P
OnEnd step.ScriptEnd P = P
OnEnd (step.Raised e) P = P
OnEnd _ P = ⊤
