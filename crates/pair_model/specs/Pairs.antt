-- Meaning: the state of two images on one host, whatever the state of one image's run is: that of a run at a width, or a
-- configuration of the neutral machine. And what the rules of a pair use of a side. docs/PAIRS.md, "The state".
use Rattle.std.specs.Prelude.{ℕ, List, Option}
use Rattle.host_model.specs.HostPlans.{View, Plan}
use Rattle.host_model.specs.Progress.{ScriptPlace}
use Rattle.host_model.specs.World.{World}
use Rattle.note_types.specs.declared.ending.Ending.{Ending}
use Rattle.note_types.specs.declared.event.Event.{Event}
use Rattle.note_types.specs.declared.types.Ty.{Ty}
use Rattle.note_types.specs.declared.value.Value.{Value}
use Rattle.pair_model.specs.declared.bind.Bind.{Bind}
use Rattle.pair_model.specs.declared.event.PairEvent.{PairEvent}

-- ---- what it is about

-- One thing of each image.
pub record Both (A : Type 0) : Type 0 where
  pub a : A
  pub b : A

-- What a run of a pair is about: what each image's run is about, and the binds.
pub record PairWorld : Type 0 where
  pub a : World
  pub b : World
  pub binds : List Bind

-- ---- how far it is

-- The images, of which A calls and B provides.
pub data Side : Type 0 where
  OfA : Side
  OfB : Side

-- How far a pair is: B's own run is under way; A runs; a bound call by a signature was taken, and the next step enters a function
-- of B with these values; that function is under way; or it returned a value, and the next step is the reply.
pub data Stage : Type 0 where
  ProviderRuns : Stage
  CallerRuns : Stage
  CallTaken : (signature function : ℕ) (values : List Value) → Stage
  CallRuns : (signature : ℕ) → Stage
  CallReturned : (signature : ℕ) (value : Value) → Stage

-- the side that runs: A, and B only while its own run or a function of it is under way
abbrev pub running_side : Stage → Side
running_side ProviderRuns = OfB
running_side (CallRuns g) = OfB
running_side _ = OfA

-- The state of a pair: that of each image's run, how far the pair is, the events of both, the first one first, and how it ended.
pub record PairState (S : Type 0) : Type 0 where
  pub a : S
  pub b : S
  pub stage : Stage
  pub trace : List PairEvent
  pub ending : Ending

-- ---- a side

-- What the rules use of an image's run: what its host sees, where it has a step to do; its step, where it isn't stuck; what a plan
-- of its host leaves; what the reply to a bound call leaves, by the type of the signature's result; its script place, its events
-- and its ending; and the run once it may go on after its end.
pub record SideOf (S : Type 0) : Type 0 where
  pub view : S → Option View
  pub step : S → Option S
  pub performed : S → Plan → S
  pub replied : S → Option Ty → Value → S
  pub script : S → ScriptPlace
  pub trace : S → List Event
  pub ending : S → Ending
  pub resting : S → S
