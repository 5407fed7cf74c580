-- For proofs: what holds of the runs of a pair of typed images whose binds agree: both follow the neutral pair, and so they are the
-- same. docs/PAIRS.md, "Laws".
use Rattle.std.specs.Prelude.{◌≡◌, ℕ, Option, Some}
use Rattle.ebc_width.specs.Width.{IsWidth}
use Rattle.host_model.specs.Placements.{Placement}
use Rattle.host_model.specs.World.{World}
use Rattle.invariant_laws.specs.Laws.{states_by}
use Rattle.neutral_machine.specs.Config.{Config}
use Rattle.pair_laws.specs.NeutralPair.{neutral_pair_run}
use Rattle.note_types.specs.declared.state.State.{State}
use Rattle.pair_laws.specs.Laws.{PairStands}
use Rattle.pair_laws.specs.SamePairs.{ArePlaced, SamePairAfter}
use Rattle.pair_model.specs.Binds.{AllAgree}
use Rattle.pair_model.specs.PairRuns.{pair_run}
use Rattle.pair_model.specs.Pairs.{Both, PairWorld, PairState}
use Rattle.pe_image.specs.declared.image.Image.{Image}
use Rattle.step_sound.specs.PlaceStates.{StatesHold}
use Rattle.step_sound.specs.ReadWorld.{IsReadWorld}
use Rattle.invariant_laws.specs.Endings.{RaisesOnlyDivideError}
use Rattle.invariant_laws.specs.Waiting.{States}

-- A side: its image, notes and script were read, and the states at places meet the typing rules.
pub record TypedSide (image : Image) (world : World) (states : States) : Type 0 where
  pub read : IsReadWorld image world
  pub rules : StatesHold image world states

-- A pair: so it is of each side, and each bind agrees with the notes of both.
pub record TypedPair (images : Both Image) (world : PairWorld) (sa sb : States) : Type 0 where
  pub a : TypedSide images.a world.a sa
  pub b : TypedSide images.b world.b sb
  pub binds : AllAgree world.a.notes world.b.notes world.binds

-- After so many steps the neutral pair isn't stuck, the run of the pair at a width stands for it, and it raised nothing but a division
-- by zero.
pub record PairFollows (w : ℕ) (images : Both Image) (world : PairWorld) (P : Both Placement) (k : ℕ) : Type 0 where
  pub pair : PairState Config
  pub reached : neutral_pair_run world images k ≡ Some pair
  pub stands : PairStands w images world P pair (pair_run w world P images k)
  pub raised : RaisesOnlyDivideError pair.ending

-- So it is at either width, under valid placements.
abbrev pub PairsFollow : Type 0
PairsFollow =
    (w : ℕ) (images : Both Image) (world : PairWorld) (a b : (func place : ℕ) → Option State) (P : Both Placement) (k : ℕ)
    → IsWidth w → TypedPair images world (states_by a) (states_by b) → ArePlaced w world P → PairFollows w images world P k

-- So the runs of the pair are the same for all valid placements and every number of steps.
abbrev pub PairsAreSame : Type 0
PairsAreSame =
    (images : Both Image) (world : PairWorld) (a b : (func place : ℕ) → Option State) (P Q : Both Placement) (k : ℕ)
    → TypedPair images world (states_by a) (states_by b) → ArePlaced 4 world P → ArePlaced 8 world Q → SamePairAfter images world P Q k
