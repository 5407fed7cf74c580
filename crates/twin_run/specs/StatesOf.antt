-- For proofs: the states at the places of a typed image's functions. docs/SIMULATION.md, "The second half".
use Rattle.std.specs.Prelude.{◌≡◌, ℕ, Some, slice_get}
use Rattle.note_types.specs.declared.notes.FnNote.{FnNote}
use Rattle.note_types.specs.declared.notes.Notes.{Notes}
use Rattle.note_types.specs.declared.state.State.{State}
use Rattle.pe_image.specs.declared.image.Image.{Image}
use Rattle.width_checker.specs.StatesAt.{StateAt}
use Rattle.invariant_laws.specs.Waiting.{States}

-- at a place of the function of that number stands this state
pub record StandsIn (image : Image) (notes : Notes) (func place : ℕ) (s : State) : Type 0 where
  pub f : FnNote
  pub there : slice_get notes.function func ≡ Some f
  pub at : StateAt image notes func f place s

-- the states of an image under notes
abbrev pub states_of : Image → Notes → States
states_of image notes func place s = StandsIn image notes func place s
