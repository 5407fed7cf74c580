-- For proofs: the content of static objects, a part at a time.
use Rattle.std.specs.Prelude.{◌≡◌, ℕ, ◌+◌, ◌*◌, ◌^◌, ◌<◌, ◌≤◌, Bool, true, false, ◌&&◌, nat_eq, nat_le, List, Some, length, slice_get}
use Rattle.std.specs.Prelude.{slice_index}
use Rattle.std.specs.List.{Contains}
use Rattle.note_types.specs.Shapes.{size_at, start_at}
use Rattle.note_types.specs.declared.cell.Cell.{Cell}
use Rattle.note_types.specs.declared.cell.Cell.TheVariants as cell
use Rattle.note_types.specs.declared.notes.Notes.{Notes}
use Rattle.note_types.specs.declared.notes.Static.{Static}
use Rattle.note_types.specs.declared.shape.Field.{Field}
use Rattle.note_types.specs.declared.shape.Shape.{Shape}
use Rattle.pe_image.specs.declared.image.Image.{Image}
use Rattle.pe_image.specs.declared.image.Section.{Section}
use Rattle.rules_image.specs.Images.{CellHolds, MayBeZero, extent, field_place, touches}

-- ---- ranges of an image

-- the bytes of a section at the places from `from` up to `to` are zero
abbrev pub IsZeroIn : Section → ℕ → ℕ → Type 0
IsZeroIn s from to = (k : ℕ) → k < length s.bytes → from ≤ s.place + k → s.place + k < to → slice_index s.bytes k ≡ 0

-- so are those of each of these sections
abbrev pub AreZeroIn : List Section → ℕ → ℕ → Type 0
AreZeroIn sections from to = (k : ℕ) (s : Section) → slice_get sections k ≡ Some s → IsZeroIn s from to

-- the relocation at r is the first that doesn't end before a place or at it
pub record IsFirstReloc (image : Image) (from r : ℕ) : Type 0 where
  pub there : Contains image.relocs r
  pub late : from < r + 8
  pub first : (q : ℕ) → Contains image.relocs q → from < q + 8 → r ≤ q

-- each relocation ends before a place or at it
abbrev pub HasNoReloc : Image → ℕ → Type 0
HasNoReloc image from = (q : ℕ) → Contains image.relocs q → q + 8 ≤ from

-- ---- cells

-- the cells of these fields may be zero
abbrev pub MayAllBeZero : List Field → Type 0
MayAllBeZero fields = (f : ℕ) (y : Field) → slice_get fields f ≡ Some y → MayBeZero y.cell

-- these fields of an instance at a place begin within the greatest size of an image
abbrev pub AreNear : List Field → ℕ → Type 0
AreNear fields place = (f : ℕ) (y : Field) → slice_get fields f ≡ Some y → place + start_at 8 y ≤ 2 ^ 22

-- the cells of these fields, in an instance at a place, hold what they may
abbrev pub CellsHold : Image → Notes → List Field → ℕ → Type 0
CellsHold image notes fields place = (f : ℕ) (y : Field) → slice_get fields f ≡ Some y → CellHolds image notes (place + start_at 8 y) y.cell

-- those of all instances of a static object do
abbrev pub InstancesHold : Image → Notes → Static → Shape → Type 0
InstancesHold image notes x s = (j : ℕ) → j < x.count → CellsHold image notes s.fields (x.place + j * size_at 8 s)

-- a static object of a shape, with at least so many instances, starts at a place
abbrev pub is_static_of : ℕ → ℕ → ℕ → Static → Bool
is_static_of place shape count x = (nat_eq x.place place && nat_eq x.shape shape) && nat_le count x.count

-- ---- pointers of 64 bits

abbrev pub is_wide_pointer : Cell → Bool
is_wide_pointer (cell.P64 s k null) = true
is_wide_pointer _ = false

-- one that begins at this byte of an instance
abbrev pub is_pointer_at : ℕ → Field → Bool
is_pointer_at start y = is_wide_pointer y.cell && nat_eq (start_at 8 y) start

-- a static object has such a pointer at a place
abbrev pub HasPointer : Static → Shape → ℕ → Type 0
HasPointer x s place =
    (j f : ℕ) × (y : Field) × (t n : ℕ) × (null : Bool) × (j < x.count) × (slice_get s.fields f ≡ Some y)
    × (y.cell ≡ cell.P64 t n null) × (place ≡ field_place x s j y)

-- the relocations before number n that touch a static object begin at such pointers
abbrev pub RelocatesBelow : Image → Static → Shape → ℕ → Type 0
RelocatesBelow image x s n =
    (k r : ℕ) → k < n → slice_get image.relocs k ≡ Some r → touches x.place (x.place + extent x s) r → HasPointer x s r
