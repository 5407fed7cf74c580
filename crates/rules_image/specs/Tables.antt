-- For proofs: the rules of shapes and functions, a list at a time.
use Rattle.std.specs.Prelude.{◌≡◌, ℕ, ◌^◌, ◌<◌, List, Some, length, slice_get, ◌+◌, ◌≤◌, ◌-◌, slice_index}
use Rattle.std.specs.List.{Contains}
use Rattle.note_types.specs.Shapes.{IsShape}
use Rattle.note_types.specs.declared.notes.FnNote.{FnNote}
use Rattle.note_types.specs.declared.shape.Shape.{Shape}
use Rattle.pe_image.specs.declared.image.Image.{Image}
use Rattle.pe_image.specs.declared.image.Section.{Section}
use Rattle.rules_image.specs.Images.{IsInside}
use Rattle.pe_image.specs.Mapped.{image_byte}

-- each shape has fewer than 2^32 fields
abbrev pub HaveFewFields : List Shape → Type 0
HaveFewFields shapes = (k : ℕ) (s : Shape) → slice_get shapes k ≡ Some s → length s.fields < 2 ^ 32

-- the shape of this number is well formed, where it is there
abbrev pub FitsAt : List Shape → ℕ → Type 0
FitsAt shapes k = (s : Shape) → slice_get shapes k ≡ Some s → IsShape s

-- a function lies inside the bytes of one section
abbrev pub HasHome : Image → FnNote → Type 0
HasHome image f = (s : Section) × Contains image.sections s × IsInside s f.place f.end

-- the bytes of a section, by its number, have all places from `from` up to `to`
pub record IsHome (sections : List Section) (from to k : ℕ) : Type 0 where
  pub s : Section
  pub there : slice_get sections k ≡ Some s
  pub inside : IsInside s from to

-- the function before this one ends before a place or at it
abbrev pub IsPast : List FnNote → ℕ → ℕ → Type 0
IsPast functions k place = (j : ℕ) (g : FnNote) → j + 1 ≡ k → slice_get functions j ≡ Some g → g.end ≤ place

-- bytes are those of a function
pub record IsCodeOf (image : Image) (f : FnNote) (code : List ℕ) : Type 0 where
  pub size : length code ≡ f.end - f.place
  pub bytes : (k : ℕ) → k < length code → slice_index code k ≡ image_byte image (f.place + k)
