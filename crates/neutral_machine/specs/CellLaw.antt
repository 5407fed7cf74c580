-- For proofs: the law of cells: a cell takes the values that fit what it holds, and no others. docs/HOST.md, "The neutral
-- machine".
use Rattle.std.specs.Prelude.{◌≡◌, ℕ, ◌^◌, ◌<◌, ◌≤◌, Decides, List, Some, slice_get, ⊤}
use Rattle.note_types.specs.Cells.{IsBoundedCell, content_type}
use Rattle.note_types.specs.Shapes.{size_at}
use Rattle.note_types.specs.declared.cell.Cell.{Cell}
use Rattle.note_types.specs.declared.notes.Notes.{Notes}
use Rattle.neutral_machine.specs.Fits.{FitsPlain}
use Rattle.neutral_machine.specs.Locations.{fits_cell}
use Rattle.host_model.specs.declared.object.TypedObject.{TypedObject}
use Rattle.host_model.specs.Objects.{shape_of}
use Rattle.host_model.specs.Placements.{object_bytes}
use Rattle.host_model.specs.Values.{Neutral, Num, At}

-- a value in its one form: the parts of pairs are below 2 ^ 64
abbrev pub IsReduced : Neutral → Type 0
IsReduced (Num n c) = (n < 2 ^ 64) × (c < 2 ^ 64)
IsReduced (At a n c) = (n < 2 ^ 64) × (c < 2 ^ 64)
IsReduced _ = ⊤

-- typed objects whose instances take bytes, and whose bytes at width 4 are few enough that no pair within them wraps
pub record AreSmall (notes : Notes) (objects : List TypedObject) : Type 0 where
  pub wide : (k : ℕ) (o : TypedObject) → slice_get objects k ≡ Some o → 0 < size_at 4 (shape_of notes o.shape)
  pub few : (k : ℕ) (o : TypedObject) → slice_get objects k ≡ Some o → object_bytes 4 notes o ≤ 2 ^ 64

-- Among such objects the test of a store says whether the value fits the cell's content type.
abbrev pub CellsTakeWhatFits : Type 0
CellsTakeWhatFits =
    (notes : Notes) (objects : List TypedObject) → AreSmall notes objects → (c : Cell) → IsBoundedCell c → (v : Neutral) → IsReduced v
    → Decides (fits_cell notes objects c v) (FitsPlain notes objects (content_type c) v)
