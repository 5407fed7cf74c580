-- Meaning: the places of a function, and the state before each: docs/RULES.md, "Places and states", has the words. A place
-- is an offset from the image's base.
use Rattle.std.specs.Prelude.{◌≡◌, ℕ, ◌<◌, zero, suc, Option, Some, Ok, slice_get}
use Rattle.ebc_insn.specs.declared.Insn.{Insn}
use Rattle.note_types.specs.Notes.{entry_state}
use Rattle.note_types.specs.declared.notes.FnNote.{FnNote}
use Rattle.note_types.specs.declared.notes.Notes.{Notes}
use Rattle.note_types.specs.declared.notes.Point.{Point}
use Rattle.note_types.specs.declared.state.State.{State}
use Rattle.pe_image.specs.declared.image.Image.{Image}
use Rattle.rules_image.specs.Images.{IsDecoded}
use Rattle.rules_flow.specs.declared.successors.Successors.{Successors}
use Rattle.width_checker.specs.Rows.{here_at, row_of}

-- ---- the places of a function

-- ---- the state before each

-- a point of the notes stands at a place
pub record IsPointAt (notes : Notes) (place : ℕ) (p : Point) : Type 0 where
  pub number : ℕ
  pub there : slice_get notes.point number ≡ Some p
  pub at : p.place ≡ place

-- the state before the instruction at a place: that of the point there, or else what comes
pub data IsBefore (notes : Notes) (place : ℕ) (come : Option State) (s : State) : Type 0 where
  of_point : (p : Point) → IsPointAt notes place p → s ≡ p.state → IsBefore notes place come s
  of_fall : ((p : Point) → IsPointAt notes place p → ⊥) → come ≡ Some s → IsBefore notes place come s

-- what falls through to a place from the instruction at one of these places, if anything does
pub record Falls (image : Image) (notes : Notes) (func : ℕ) (f : FnNote) (before : ℕ → Option State → Type 0) (place : ℕ)
    (come : Option State) : Type 0 where
  pub last : ℕ
  pub came : Option State
  pub reached : before last came
  pub state : State
  pub has_state : IsBefore notes last came state
  pub insn : Insn
  pub decode : IsDecoded image f last insn place
  pub within : place < f.end
  pub successors : Successors
  pub row : row_of notes (here_at image func last place) state insn ≡ Ok successors
  pub falls : come ≡ successors.fall

-- what comes to the place to which so many instructions lead, without a jump: at the function's start its entry state, and
-- then what falls through from the instruction before
unfoldable pub Comes : Image → Notes → ℕ → FnNote → ℕ → ℕ → Option State → Type 0
Comes image notes func f zero place come = (place ≡ f.place) × (come ≡ Some (entry_state notes func))
Comes image notes func f (suc n) place come = Falls image notes func f (Comes image notes func f n) place come

-- the state before the instruction at a place of function `func`
pub record StateAt (image : Image) (notes : Notes) (func : ℕ) (f : FnNote) (place : ℕ) (s : State) : Type 0 where
  pub count : ℕ
  pub come : Option State
  pub comes : Comes image notes func f count place come
  pub before : IsBefore notes place come s
