-- For proofs: when a runner is at a state of a run. docs/HOST.md, "The state" and "Runs".
use Rattle.std.specs.Prelude.{◌≡◌, ◌≢◌, ℕ, zero, suc, ◌+◌, ◌-◌, ◌^◌, ◌<◌, false, List, length, map, min, Option, Some, None, vec_capacity}
use Rattle.note_types.specs.declared.ending.Ending.TheVariants.{Running}
use Rattle.note_types.specs.declared.notes.Notes.{Notes}
use Rattle.note_types.specs.declared.script.Script.{Script}
use Rattle.ebc_machine.specs.States.{concrete_of}
use Rattle.frame_stack.specs.declared.Frame.{Frame}
use Rattle.callex_thunk.specs.HostFrames.{saved_of}
use Rattle.host_model.specs.HostPlans.{is_due}
use Rattle.host_model.specs.HostSteps.{call_under_way, with_call}
use Rattle.host_model.specs.Placements.{own_placement}
use Rattle.host_model.specs.Progress.{Asked, NoCall, ScriptPlace}
use Rattle.host_model.specs.RunState.{RunState, SavedFrame}
use Rattle.host_model.specs.Runs.{run_step}
use Rattle.host_model.specs.World.{World}
use Rattle.native_host.specs.Hosts.{HasRoom, IsMemoryOf, IsServing, Tells, host_world}
use Rattle.native_host.specs.Kept.{placement_of}
use Rattle.twin_run.specs.Room.{HasEvents}
use Rattle.twin_run.specs.declared.runner.AskedCall.{AskedCall}
use Rattle.twin_run.specs.declared.runner.Runner.{Runner}

-- the frames of the host, where a native call is asked for above the top one or not
abbrev pub hosts_of : Option AskedCall → List Frame → List SavedFrame
hosts_of None frames = map saved_of frames
hosts_of (Some a) frames = with_call (Asked a.place a.target) (map saved_of frames)

-- What a runner holds is a state of a run: its host serves in the run's world, and its memory is the host's.
pub record IsAt (w : ℕ) (world : World) (x : Runner w) (r : RunState) : Type 0 where
  pub serving : IsServing w world.notes world.script x.host
  pub size : x.host.places.image_size ≡ world.image_size
  pub image_size : x.image_size ≡ world.image_size
  pub memory : IsMemoryOf w world (own_placement w world) x.host.entries x.mem
  pub machine : concrete_of x.machine x.mem ≡ r.machine
  pub hosts : hosts_of x.asked x.frames ≡ r.hosts
  pub tells : Tells x.host r
  pub done : x.done ≡ min r.script.instructions (2 ^ 64 - 1)
  pub ending : x.ending ≡ r.ending

-- While fewer instructions are done than a runner holds as quiet, no native call is under way and no notification is due.
abbrev pub IsQuiet : {w : ℕ} → Script → Runner w → Type 0
IsQuiet script x =
    (0 < x.quiet → call_under_way (hosts_of x.asked x.frames) ≡ NoCall)
    × ((at : ScriptPlace) → at.notifications ≡ x.host.notifications → at.instructions < x.quiet → is_due script at ≡ false)

-- No native call is under way, and no notification is due before so many more instructions are done.
abbrev pub IsFree : {w : ℕ} → Script → Runner w → ℕ → Type 0
IsFree script x n =
    (call_under_way (hosts_of x.asked x.frames) ≡ NoCall)
    × ((at : ScriptPlace) → at.notifications ≡ x.host.notifications → at.instructions < x.done + n → is_due script at ≡ false)

-- Inside a function so many steps, at least one, are the machine's, and the runner is as it was but for what it holds as quiet.
pub record IsMachines (w : ℕ) (script : Script) (old new : Runner w) (n : ℕ) : Type 0 where
  pub some : 0 < n
  pub inside : old.machine.ip ≢ old.machine.gate
  pub free : IsFree script new n
  pub same : new ≡ record old { quiet = new.quiet }

-- the run so many steps on
unfoldable pub steps_on : ℕ → World → ℕ → RunState → RunState
steps_on w world zero r = r
steps_on w world (suc n) r = run_step w world (own_placement w world) (steps_on w world n r)

-- The run goes on before each of so many steps.
abbrev pub GoesOnFor : ℕ → World → ℕ → RunState → Type 0
GoesOnFor w world n r = (j : ℕ) → j < n → (steps_on w world j r).ending ≡ Running

-- A runner is the runner of a run in this state: what it holds as quiet is, and there is room for all events that may still come.
pub record IsRunner (w : ℕ) (world : World) (x : Runner w) (r : RunState) : Type 0 where
  pub at : IsAt w world x r
  pub quiet : IsQuiet world.script x
  pub events : HasEvents world.script (vec_capacity x.host.trace) r

-- A runner is the runner of some run, under notes and with a script.
pub record Runs (w : ℕ) (notes : Notes) (script : Script) (x : Runner w) : Type 0 where
  pub world : World
  pub its_notes : world.notes ≡ notes
  pub its_script : world.script ≡ script
  pub state : RunState
  pub is : IsRunner w world x state

-- A runner has done so many instructions more, where so many were free: they tell nothing, and what it holds as quiet is.
pub record HasDone (w : ℕ) (notes : Notes) (most : ℕ) (old new : Runner w) (n : ℕ) : Type 0 where
  pub at : (world : World) (r : RunState) → world.notes ≡ notes → IsFree world.script old most → r.ending ≡ Running → IsAt w world old r
      → IsAt w world new (steps_on w world n r)
  pub goes_on : (world : World) (r : RunState) → world.notes ≡ notes → IsFree world.script old most → r.ending ≡ Running
      → IsAt w world old r → GoesOnFor w world n r
  pub trace : new.host.trace ≡ old.host.trace
  pub quiet : (script : Script) → IsQuiet script old → IsQuiet script new

-- A runner has taken so many steps more, before each of which the run goes on, and counted them.
pub record TakesSteps (w : ℕ) (notes : Notes) (script : Script) (old new : Runner w) (n : ℕ) : Type 0 where
  pub steps : (world : World) (r : RunState) → world.notes ≡ notes → world.script ≡ script → IsRunner w world old r
      → IsRunner w world new (steps_on w world n r)
  pub goes_on : (world : World) (r : RunState) → world.notes ≡ notes → world.script ≡ script → IsRunner w world old r
      → GoesOnFor w world n r
  pub counted : new.taken ≡ min (old.taken + n) (2 ^ 64 - 1)

-- What a step of the host needs of a runner: its host serves, its memory is the host's, there is room for an event, and the run is
-- inside a function that the host entered.
pub record IsReady (w : ℕ) (notes : Notes) (script : Script) (x : Runner w) : Type 0 where
  pub serving : IsServing w notes script x.host
  pub memory : IsMemoryOf w (host_world notes script x.host) (placement_of x.host.places) x.host.entries x.mem
  pub room : HasRoom x.host 1
  pub inside : 0 < length x.frames
