-- For proofs: where the walks of a round begin.
use Rattle.std.specs.Prelude.{◌≡◌, ℕ, ◌<◌, List, Some, slice_get}
use Rattle.note_types.specs.declared.notes.FnNote.{FnNote}
use Rattle.note_types.specs.declared.notes.Notes.{Notes}
use Rattle.note_infer.specs.Rounds.{Begins, States}
use Rattle.note_infer.specs.declared.rounds.Start.{Start}

-- a state begins at a start
pub record IsStart (notes : Notes) (leaders : List ℕ) (states : States) (x : Start) : Type 0 where
  pub f : FnNote
  pub there : slice_get notes.function x.func ≡ Some f
  pub begins : Begins notes leaders states x.func f x.place x.state

abbrev pub StartsAscend : List Start → Type 0
StartsAscend starts = (i j : ℕ) (x y : Start) → i < j → slice_get starts i ≡ Some x → slice_get starts j ≡ Some y → x.place < y.place

-- these are starts, in ascending order
pub record AreStarts (notes : Notes) (leaders : List ℕ) (states : States) (starts : List Start) : Type 0 where
  pub ascend : StartsAscend starts
  pub each : (j : ℕ) (x : Start) → slice_get starts j ≡ Some x → IsStart notes leaders states x
