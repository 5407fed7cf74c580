-- For proofs: how far the warnings of an image are gathered.
use Rattle.std.specs.Prelude.{◌≡◌, ℕ, ◌<◌, ◌≤◌, List, [], Option, None, Some, slice_get}
use Rattle.std.specs.List.{AllPairs, Contains}
use Rattle.ebc_insn.specs.declared.Insn.{Insn}
use Rattle.note_types.specs.declared.notes.FnNote.{FnNote}
use Rattle.note_types.specs.declared.notes.Notes.{Notes}
use Rattle.note_types.specs.declared.notes.Static.{Static}
use Rattle.note_types.specs.declared.state.State.{State}
use Rattle.pe_image.specs.declared.image.Image.{Image}
use Rattle.state_walk.specs.declared.preceding.Before.{Before}
use Rattle.image_warnings.specs.Around.{around_of}
use Rattle.image_warnings.specs.declared.effect.Effect.{Effect}
use Rattle.departures.specs.declared.above.Uncut.{Uncut}
use Rattle.image_warnings.specs.Warned.{IsWarned, IsWarnedIn, Precedes, warnings_at}
use Rattle.image_warnings.specs.declared.warning.Warning.{Warning}

-- the warnings of what stands at a place, where the image has these effects and texts, and this is around it
abbrev pub warnings_of : List Effect → List Static → ℕ → Notes → FnNote → Uncut → Option (Insn × ℕ) → Option State → Option (Insn × ℕ)
    → List Warning
warnings_of effects texts place notes f uncut behind (Some s) (Some (i, next)) =
    warnings_at place notes f s (around_of effects texts uncut behind notes f place s i) i
warnings_of effects texts place notes f uncut behind s insn = []

-- the instruction that stands before what comes next, if something does
abbrev pub following_insn : Option Before → Option (Insn × ℕ)
following_insn None = None
following_insn (Some b) = b.insn

-- Warnings are those of the functions before one.
pub record WarnedBefore (image : Image) (notes : Notes) (func : ℕ) (ws : List Warning) : Type 0 where
  pub sound : (w : Warning) → Contains ws w → IsWarned image notes w
  pub whole : (k : ℕ) (f : FnNote) → k < func → slice_get notes.function k ≡ Some f → (w : Warning) → IsWarnedIn image notes k f w
      → Contains ws w
  pub ordered : AllPairs Precedes ws
  pub below : (w : Warning) → Contains ws w → (k : ℕ) (f : FnNote) → func ≤ k → slice_get notes.function k ≡ Some f → w.place < f.place

-- They are those, and the function's before a place.
pub record WarnedTo (image : Image) (notes : Notes) (func : ℕ) (f : FnNote) (place : ℕ) (ws : List Warning) : Type 0 where
  pub sound : (w : Warning) → Contains ws w → IsWarned image notes w
  pub whole : (k : ℕ) (g : FnNote) → k < func → slice_get notes.function k ≡ Some g → (w : Warning) → IsWarnedIn image notes k g w
      → Contains ws w
  pub here : (w : Warning) → IsWarnedIn image notes func f w → w.place < place → Contains ws w
  pub ordered : AllPairs Precedes ws
  pub below : (w : Warning) → Contains ws w → w.place < place
