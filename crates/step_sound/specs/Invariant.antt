-- For proofs: what holds of each state of a typed program's run at a width, and of the neutral machine's configuration
-- beside it, in five parts. docs/SIMULATION.md, "The invariant".
use Rattle.std.specs.Prelude.{◌≡◌, ◌≢◌, ℕ, ◌≤◌, length}
use Rattle.ebc_width.specs.Width.{IsWidth}
use Rattle.neutral_machine.specs.Stands.{Stands}
use Rattle.note_types.specs.declared.ending.Ending.TheVariants.{Running}
use Rattle.note_types.specs.declared.spot.Spot.TheVariants.{Place, Gate}
use Rattle.pe_image.specs.Mapped.{mapped}
use Rattle.pe_image.specs.declared.image.Image.{Image}
use Rattle.neutral_machine.specs.Config.{Config, call_under_way}
use Rattle.host_model.specs.Placements.{Placement, IsPlacement}
use Rattle.host_model.specs.RunState.{RunState}
use Rattle.host_model.specs.World.{World}
use Rattle.invariant_laws.specs.Endings.{RaisesOnlyDivideError}
use Rattle.invariant_laws.specs.Holds.{TopHolds, GateHolds}
use Rattle.invariant_laws.specs.Live.{live_memory}
use Rattle.invariant_laws.specs.Sound.{SoundBelow}
use Rattle.invariant_laws.specs.Waiting.{States, Chain}
use Rattle.step_sound.specs.PlaceStates.{StatesHold}
use Rattle.step_sound.specs.ReadWorld.{IsReadWorld}

-- the state of the run stands for the configuration, and the script has served as many thunks as are made, no more than there are
pub record StandsServed (w : ℕ) (image : Image) (world : World) (P : Placement) (a : Config) (r : RunState) : Type 0 where
  pub stands : Stands w world P (mapped image P.image) a r
  pub served : a.script.thunks ≡ a.made
  pub thunks : a.made ≤ length world.notes.thunk

-- the run stands at a place, where the function on top fits the state there; or it asks for a native call, or waits within one, and
-- what that gives is left aside until the reply
pub record RunsAtPlace (world : World) (states : States) (a : Config) : Type 0 where
  pub place : ℕ
  pub spot : a.spot ≡ Place place
  pub top : TopHolds world states a (call_under_way a.frames) place a.frames

-- what is sound of a configuration without its top frame's state, and it raised nothing but a division by zero
pub record SoundAndQuiet (world : World) (a : Config) : Type 0 where
  pub sound : SoundBelow world a
  pub raised : RaisesOnlyDivideError a.ending

-- The invariant.
pub record Invariant (w : ℕ) (image : Image) (world : World) (P : Placement) (states : States) (a : Config) (r : RunState) : Type 0 where
  -- the state of the run stands for the configuration
  pub standing : StandsServed w image world P a r
  -- while it runs and isn't at the gate, the function on top fits the state at its place
  pub at_place : a.ending ≡ Running → a.spot ≢ Gate → RunsAtPlace world states a
  -- while it runs and is at the gate, no function is left upon the host's frame on top, and R7 fits the result of that frame's function
  pub at_gate : a.ending ≡ Running → a.spot ≡ Gate → GateHolds world a a.frames
  -- while it runs, each lower frame will fit the state where it goes on
  pub waiting : a.ending ≡ Running → Chain world states (live_memory world a) a.made a.frames
  -- at all times, also once it has ended
  pub sound : SoundAndQuiet world a

-- What a typed program's run at a width has: image, notes and script were read, the placement is valid, and the states at places meet
-- the typing rules.
pub record RunHolds (w : ℕ) (image : Image) (world : World) (P : Placement) (states : States) : Type 0 where
  pub width : IsWidth w
  pub read : IsReadWorld image world
  pub placement : IsPlacement w world P
  pub rules : StatesHold image world states
