-- For proofs: what holds of each configuration of a typed program's neutral run. It takes the state at each place.
-- docs/SIMULATION.md, "The second half".
use Rattle.std.specs.Prelude.{◌≡◌, ℕ, ◌≤◌, List, [], ◌∷◌, length}
use Rattle.note_types.specs.declared.ending.Ending.TheVariants as ending
use Rattle.note_types.specs.declared.spot.Spot.{Spot}
use Rattle.note_types.specs.declared.spot.Spot.TheVariants as spot
use Rattle.note_types.specs.declared.state.State.{State}
use Rattle.neutral_machine.specs.Config.{Frame, Function, Host, FunctionFrame, Config, depth, call_under_way}
use Rattle.host_model.specs.Progress.{NativeCall, NoCall, Asked, Accepted}
use Rattle.neutral_machine.specs.FitsState.{FitsState}
use Rattle.host_model.specs.Values.{Neutral}
use Rattle.host_model.specs.World.{World}
use Rattle.invariant_laws.specs.Asked.{GivenByCall}
use Rattle.invariant_laws.specs.Endings.{RaisesOnlyDivideError}
use Rattle.invariant_laws.specs.Live.{live_memory}
use Rattle.invariant_laws.specs.Sound.{SoundBelow}
use Rattle.invariant_laws.specs.Waiting.{States, AsksWell, WaitsNative, Chain}

-- ---- the top frame

-- a function frame at a place fits the state there
pub record RunsAt (world : World) (states : States) (a : Config) (p : ℕ) (f : FunctionFrame) (fs : List Frame) : Type 0 where
  pub state : State
  pub here : states f.func p state
  pub fits : FitsState world.notes (live_memory world a) (depth fs) f state a.registers a.c a.made

-- at a place, by the native call that is under way in the function on top
abbrev pub TopHolds : World → States → Config → NativeCall Neutral → ℕ → List Frame → Type 0
TopHolds world states a NoCall p (Function f ∷ fs) = RunsAt world states a p f fs
TopHolds world states a (Asked q v) p (Function f ∷ fs) = AsksWell world states (live_memory world a) a.made (depth fs) f q p v a.registers
TopHolds world states a (Accepted e n vs) p (Function f ∷ fs) =
    WaitsNative world states (live_memory world a) a.made (depth fs) f e p vs a.registers
TopHolds world states a call p _ = ⊥

-- ---- the gate

-- at the gate the host frame on top is left next, nothing is under way in it, and R7 fits its function's result
abbrev pub GateHolds : World → Config → List Frame → Type 0
GateHolds world a [] = ⊥
GateHolds world a (Function f ∷ fs) = ⊥
GateHolds world a (Host h ∷ fs) = (h.call ≡ NoCall) × GivenByCall world.notes h.func (live_memory world a) (a.registers 7)

-- a run that goes on stands at a place or at the gate
abbrev pub SpotHolds : World → States → Config → Spot → Type 0
SpotHolds world states a (spot.Place p) = TopHolds world states a (call_under_way a.frames) p a.frames
SpotHolds world states a spot.Gate = GateHolds world a a.frames
SpotHolds world states a (spot.Wild x) = ⊥

-- ---- the whole

-- While it runs, a configuration's top frame fits the state at its place, or asks for a native call, or waits within one, or
-- gave its result at the gate; and each frame below waits.
pub record GoesOnWell (world : World) (states : States) (a : Config) : Type 0 where
  pub top : SpotHolds world states a a.spot
  pub waiting : Chain world states (live_memory world a) a.made a.frames

-- What holds of a configuration: each thunk that was made was served, and no more are made than there are; it is sound but for
-- its top frame; it goes on well while it runs; and it raised nothing but a division by zero.
pub record Holds (world : World) (states : States) (a : Config) : Type 0 where
  pub served : a.script.thunks ≡ a.made
  pub thunks : a.made ≤ length world.notes.thunk
  pub sound : SoundBelow world a
  pub well : a.ending ≡ ending.Running → GoesOnWell world states a
  pub raised : RaisesOnlyDivideError a.ending
