-- For proofs: where a walk through the code stands in the sorted lists of points and relocations.
use Rattle.std.specs.Prelude.{ℕ, ◌≡◌, ◌<◌, ◌≤◌, Some, slice_get, ◌+◌}
use Rattle.note_types.specs.declared.notes.Notes.{Notes}
use Rattle.note_types.specs.declared.notes.Point.{Point}
use Rattle.pe_image.specs.declared.image.Image.{Image}

-- the points before number n are before a place, and the others aren't
abbrev pub PointsFrom : Notes → ℕ → ℕ → Type 0
PointsFrom notes place n =
    (k : ℕ) (p : Point) → slice_get notes.point k ≡ Some p → (k < n → p.place < place) × (n ≤ k → place ≤ p.place)

-- the eight bytes of the relocations before number n end before a place or at it, and those of the others don't
abbrev pub RelocsFrom : Image → ℕ → ℕ → Type 0
RelocsFrom image place n =
    (k : ℕ) (r : ℕ) → slice_get image.relocs k ≡ Some r → (k < n → r + 8 ≤ place) × (n ≤ k → place < r + 8)
