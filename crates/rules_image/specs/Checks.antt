-- For proofs: the rule of static objects and thunk cells, a thing at a time, and the ranges of all things of the notes that are
-- in the image.
use Rattle.std.specs.Prelude.{◌≡◌, ℕ, ◌+◌, ◌-◌, ◌%◌, ◌^◌, ◌<◌, ◌≤◌, true, List, Some, length, min, slice_get, slice_index}
use Rattle.ebc_width.specs.Bytes.{little_endian}
use Rattle.note_types.specs.declared.notes.FnNote.{FnNote}
use Rattle.note_types.specs.declared.notes.Notes.{Notes}
use Rattle.note_types.specs.declared.notes.Static.{Static}
use Rattle.note_types.specs.declared.notes.Thunk.{Thunk}
use Rattle.note_types.specs.declared.shape.Shape.{Shape}
use Rattle.pe_image.specs.declared.image.Image.{Image}
use Rattle.rules_image.specs.Images.{AreApart, IsStatic, IsUnrelocated, IsZero, extent}
use Rattle.pe_image.specs.Mapped.{image_byte}

-- the rule `static` holds of static object k, which is this one
abbrev pub StaticFits : Image → Notes → ℕ → Static → Type 0
StaticFits image notes k x = (s : Shape) → slice_get notes.shape x.shape ≡ Some s → IsStatic image notes k x s

-- a thunk cell has the bytes of one that enters a function, which may be entered
pub record EntersFunction (image : Image) (x : Thunk) (f : FnNote) : Type 0 where
  pub enter : f.enter ≡ true
  pub offset : (little_endian (image_byte image) x.place 4 + (x.place + 4)) % 2 ^ 32 ≡ f.place
  pub unrelocated : IsUnrelocated image x.place (x.place + 8)
  pub rest : IsZero image (x.place + 4) (x.place + 8)

-- that function is the one that the notes give
abbrev pub EntersItsFunction : Image → Notes → Thunk → Type 0
EntersItsFunction image notes x = (f : FnNote) × (slice_get notes.function x.function ≡ Some f) × EntersFunction image x f

-- ---- ranges that share no byte

-- a range shares no byte with one of these functions
abbrev pub IsApartFromFunctions : List FnNote → ℕ → ℕ → Type 0
IsApartFromFunctions functions place size = (j : ℕ) (f : FnNote) → slice_get functions j ≡ Some f
    → AreApart place size f.place (f.end - f.place)

-- it shares no byte with a static object, whatever its shape
abbrev pub IsApartFromStatic : Notes → ℕ → ℕ → Static → Type 0
IsApartFromStatic notes place size y = (t : Shape) → slice_get notes.shape y.shape ≡ Some t → AreApart place size y.place (extent y t)

-- it shares no byte with one of these static objects from number k on
abbrev pub IsApartFromStatics : Notes → List Static → ℕ → ℕ → ℕ → Type 0
IsApartFromStatics notes statics k place size = (j : ℕ) (y : Static) → slice_get statics j ≡ Some y → k ≤ j
    → IsApartFromStatic notes place size y

-- it shares no byte with one of these thunk cells from number k on
abbrev pub IsApartFromThunks : List Thunk → ℕ → ℕ → ℕ → Type 0
IsApartFromThunks thunks k place size = (j : ℕ) (y : Thunk) → slice_get thunks j ≡ Some y → k ≤ j → AreApart place size y.place 8

-- the range of static object k shares no byte with a function, a later static object or a thunk cell
pub record IsStaticApart (notes : Notes) (k place size : ℕ) : Type 0 where
  pub functions : IsApartFromFunctions notes.function place size
  pub statics : IsApartFromStatics notes notes.statics (k + 1) place size
  pub thunks : IsApartFromThunks notes.thunk 0 place size

-- that of thunk cell k shares no byte with a function or a later thunk cell
pub record IsThunkApart (notes : Notes) (k place : ℕ) : Type 0 where
  pub functions : IsApartFromFunctions notes.function place 8
  pub thunks : IsApartFromThunks notes.thunk (k + 1) place 8

-- ---- all things of the notes that are in the image, by one number each

-- how many there are
abbrev pub things : Notes → ℕ
things notes = length notes.statics + length notes.thunk + length notes.function

-- thing k begins at a place and has so many bytes: static objects come first, then thunk cells, then functions
pub data IsThing (notes : Notes) (k place size : ℕ) : Type 0 where
  of_static : (x : Static) (s : Shape) → slice_get notes.statics k ≡ Some x → slice_get notes.shape x.shape ≡ Some s → place ≡ x.place
      → size ≡ extent x s
      → IsThing notes k place size
  of_thunk : (j : ℕ) (x : Thunk) → k ≡ length notes.statics + j → slice_get notes.thunk j ≡ Some x → place ≡ x.place → size ≡ 8
      → IsThing notes k place size
  of_function : (j : ℕ) (f : FnNote) → k ≡ length notes.statics + length notes.thunk + j → slice_get notes.function j ≡ Some f
      → place ≡ f.place → size ≡ f.end - f.place
      → IsThing notes k place size

-- no two of them share a byte
abbrev pub AreAllApart : Notes → Type 0
AreAllApart notes = (j k p q n m : ℕ) → j < k → IsThing notes j p n → IsThing notes k q m → AreApart p n q m

-- a place and a size are those of thing k, where a size past 2^40 may be cut to that
abbrev pub IsRangeOf : Notes → ℕ → ℕ → ℕ → Type 0
IsRangeOf notes k place size = (p n : ℕ) → IsThing notes k p n → (place ≡ p) × (size ≡ min n (2 ^ 40))

-- a list holds the numbers from 0 on
abbrev pub AreNumbered : List ℕ → Type 0
AreNumbered order = (k : ℕ) → k < length order → slice_index order k ≡ k

-- each of these things ends before the later ones begin
abbrev pub AreInTurn : Notes → List ℕ → Type 0
AreInTurn notes order =
    (j k p q n m : ℕ) → j < k → k < length order → IsThing notes (slice_index order j) p n → IsThing notes (slice_index order k) q m
    → p + n ≤ q
