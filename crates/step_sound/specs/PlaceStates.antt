-- For proofs: the states at the places of an image's functions, and what the typing rules ask of them. docs/RULES.md,
-- "Places and states" and "The verdict"; docs/SIMULATION.md, "The second half".
use Rattle.std.specs.Prelude.{◌≡◌, ℕ, Some, Ok, slice_get}
use Rattle.ebc_insn.specs.declared.Insn.{Insn}
use Rattle.note_types.specs.Known.{IsState}
use Rattle.note_types.specs.declared.notes.FnNote.{FnNote}
use Rattle.note_types.specs.declared.notes.Notes.{Notes}
use Rattle.note_types.specs.declared.state.State.{State}
use Rattle.pe_image.specs.declared.image.Image.{Image}
use Rattle.rules_image.specs.Images.{EndHolds, IsDecoded, PointHolds, RelocationHolds, reloc_at}
use Rattle.rules_flow.specs.declared.successors.Successors.{Successors}
use Rattle.host_model.specs.World.{World}
use Rattle.rules_image.specs.Places.{IsPlaceOf}
use Rattle.width_checker.specs.Rows.{here_at, row_of}
use Rattle.invariant_laws.specs.Waiting.{States}
use Rattle.invariant_laws.specs.Hosted.{EntersAs, HasStarts}

-- ---- places

-- an instruction stands at a place of a function, and no point lies inside it: the rules `decode` and `point` hold
pub record PlaceHolds (image : Image) (notes : Notes) (f : FnNote) (place : ℕ) : Type 0 where
  pub insn : Insn
  pub next : ℕ
  pub decoded : IsDecoded image f place insn next
  pub point : PointHolds notes place next

-- so it is at each place of each function
abbrev pub PlacesHold : Image → Notes → Type 0
PlacesHold image notes =
    (k : ℕ) (f : FnNote) → slice_get notes.function k ≡ Some f → (place : ℕ) → IsPlaceOf image f place → PlaceHolds image notes f place

-- ---- states

-- a state that leads to a place is the one that stands there, or below it
pub record Reached (states : States) (func place : ℕ) (s : State) : Type 0 where
  pub state : State
  pub here : states func place state
  pub from : EntersAs s state

-- the states to which an instruction leads stand there, or are below those that do
pub record LeadsTo (states : States) (func next : ℕ) (x : Successors) : Type 0 where
  pub fall : (s : State) → x.fall ≡ Some s → Reached states func next s
  pub jump : (p : ℕ) (s : State) → x.jump ≡ Some (p, s) → Reached states func p s

-- The instruction at a place of function `func` meets the rules in a state that stands there: those on decoding, relocations and
-- falls out of the function, and its row, whose successors stand there too, or are below states that do.
pub record InsnHolds (image : Image) (notes : Notes) (states : States) (func place : ℕ) (s : State) : Type 0 where
  pub f : FnNote
  pub there : slice_get notes.function func ≡ Some f
  pub place_of : IsPlaceOf image f place
  pub state : IsState notes f s
  pub insn : Insn
  pub next : ℕ
  pub decoded : IsDecoded image f place insn next
  pub relocation : RelocationHolds image notes place insn next (reloc_at image next)
  pub ends : EndHolds f insn next
  pub successors : Successors
  pub row : row_of notes (here_at image func place next) s insn ≡ Ok successors
  pub leads : LeadsTo states func next successors

-- ---- the whole

-- States at places meet the typing rules: each place has an instruction, a function's start has its entry state or one above it, and
-- where a state stands the instruction meets its rules in it.
pub record StatesHold (image : Image) (world : World) (states : States) : Type 0 where
  pub places : PlacesHold image world.notes
  pub starts : HasStarts world states
  pub insns : (func place : ℕ) (s : State) → states func place s → InsnHolds image world.notes states func place s
