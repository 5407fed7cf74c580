-- Meaning: the rules that look at the image: its shapes, functions, static objects and thunk cells, and at each instruction
-- its bytes, the points and relocations in it, and whether control can leave the function past it. docs/RULES.md, "The
-- image", has the words. A place is an offset from the image's base.
use Rattle.std.specs.Prelude.{◌≡◌, ◌⊎◌, ℕ, ◌+◌, ◌-◌, ◌*◌, ◌%◌, ◌^◌, ◌<◌, ◌≤◌, Bool, true, false, not, ◌&&◌, ◌||◌, nat_eq, if◌then◌else◌}
use Rattle.std.specs.Prelude.{List, All, Option, Some, None, Ok, length, slice_get, is_some, pos, ⊤}
use Rattle.std.specs.List.{list_any, Contains}
use Rattle.ebc_width.specs.Bytes.{little_endian, window}
use Rattle.ebc_insn.specs.declared.Cond.TheVariants.{Always}
use Rattle.ebc_insn.specs.declared.Insn.{Insn}
use Rattle.ebc_insn.specs.declared.Insn.TheVariants.{Jump, Jump8, Call, Ret, MoveImm}
use Rattle.ebc_decode.specs.Reading.{read}
use Rattle.note_types.specs.Shapes.{IsShape, size_at, start_at}
use Rattle.note_types.specs.declared.cell.Cell.{Cell}
use Rattle.note_types.specs.declared.cell.Cell.TheVariants as cell
use Rattle.note_types.specs.declared.notes.FnNote.{FnNote}
use Rattle.note_types.specs.declared.notes.Notes.{Notes}
use Rattle.note_types.specs.declared.notes.Point.{Point}
use Rattle.note_types.specs.declared.notes.Static.{Static}
use Rattle.note_types.specs.declared.notes.Thunk.{Thunk}
use Rattle.note_types.specs.declared.shape.Field.{Field}
use Rattle.note_types.specs.declared.shape.Shape.{Shape}
use Rattle.pe_image.specs.declared.image.Image.{Image}
use Rattle.pe_image.specs.declared.image.Section.{Section}
use Rattle.pe_image.specs.Mapped.{image_byte, named_place}
use Rattle.rules_base.specs.Things.{takes_address, thing_at}

-- ---- the bytes of an image

-- a relocation at r has a byte among those from `from` up to `to`
abbrev pub touches : ℕ → ℕ → ℕ → Type 0
touches from to r = (r < to) × (from < r + 8)

-- no byte from `from` up to `to` is relocated
abbrev pub IsUnrelocated : Image → ℕ → ℕ → Type 0
IsUnrelocated image from to = (r : ℕ) → Contains image.relocs r → ¬ (touches from to r)

-- the bytes from `from` up to `to` are zero
abbrev pub IsZero : Image → ℕ → ℕ → Type 0
IsZero image from to = (p : ℕ) → from ≤ p → p < to → image_byte image p ≡ 0

-- ---- shapes

-- the rule `shape` holds of a shape
abbrev pub ShapeHolds : Notes → ℕ → Type 0
ShapeHolds notes k = (s : Shape) → slice_get notes.shape k ≡ Some s → IsShape s

-- ---- functions

abbrev pub IsEven : ℕ → Type 0
IsEven n = n % 2 ≡ 0

-- the bytes of a section have all places from `from` up to `to`
abbrev pub IsInside : Section → ℕ → ℕ → Type 0
IsInside s from to = (s.place ≤ from) × (to ≤ s.place + length s.bytes)

-- the rule `function` holds of function k: its range is not empty, even, inside the bytes of one section and past the
-- function before it, and the image's entry is the entry function's place
pub record IsFunction (image : Image) (notes : Notes) (k : ℕ) (f : FnNote) : Type 0 where
  pub range : f.place < f.end
  pub even : IsEven f.place × IsEven f.end
  pub inside : (s : Section) × Contains image.sections s × IsInside s f.place f.end
  pub past : (j : ℕ) (g : FnNote) → j + 1 ≡ k → slice_get notes.function j ≡ Some g → g.end ≤ f.place
  pub entry : k ≡ notes.entry → image.entry ≡ f.place

abbrev pub FunctionHolds : Image → Notes → ℕ → Type 0
FunctionHolds image notes k = (f : FnNote) → slice_get notes.function k ≡ Some f → IsFunction image notes k f

-- ---- static objects and thunk cells

-- the bytes of a static object of a shape at width 8
abbrev pub extent : Static → Shape → ℕ
extent x s = x.count * size_at 8 s

-- two ranges share no byte
abbrev pub AreApart : ℕ → ℕ → ℕ → ℕ → Type 0
AreApart a n b m = (a + n ≤ b) ⊎ (b + m ≤ a)

-- a range is inside the image and shares no byte with a function
pub record IsFree (image : Image) (notes : Notes) (p n : ℕ) : Type 0 where
  pub inside : p + n ≤ image.size
  pub functions : (k : ℕ) (f : FnNote) → slice_get notes.function k ≡ Some f → AreApart p n f.place (f.end - f.place)

-- a cell as wide as an address
abbrev pub is_natural : Cell → Bool
is_natural cell.N = true
is_natural cell.Stat = true
is_natural cell.Handle = true
is_natural cell.Entry = true
is_natural (cell.Ptr s k null) = true
is_natural (cell.Method m) = true
is_natural _ = false

abbrev pub has_natural : Field → Bool
has_natural x = not (nat_eq x.n 0) || is_natural x.cell

-- a shape of a size or with a field that depends on the width
abbrev pub depends : Shape → Bool
depends s = not (nat_eq s.n 0) || list_any has_natural s.fields

-- a static object of a shape with at least so many instances starts at a place
pub record IsStaticAt (notes : Notes) (place shape count : ℕ) : Type 0 where
  pub k : ℕ
  pub x : Static
  pub there : slice_get notes.statics k ≡ Some x
  pub place_is : x.place ≡ place
  pub shape_is : x.shape ≡ shape
  pub enough : count ≤ x.count

-- a pointer of 64 bits holds the relocated address of such a static object
pub record IsLinked (image : Image) (notes : Notes) (p shape count : ℕ) : Type 0 where
  pub relocated : Contains image.relocs p
  pub named : IsStaticAt notes (named_place image p) shape count

-- the static content of a cell at a place, in a shape of one layout for both widths: no byte is relocated but those of a
-- pointer of 64 bits, which may be zero where it may be null
abbrev pub CellHolds : Image → Notes → ℕ → Cell → Type 0
CellHolds image notes p cell.I8 = IsUnrelocated image p (p + 1)
CellHolds image notes p cell.I16 = IsUnrelocated image p (p + 2)
CellHolds image notes p cell.I32 = IsUnrelocated image p (p + 4)
CellHolds image notes p cell.I64 = IsUnrelocated image p (p + 8)
CellHolds image notes p (cell.P64 s k true) = (IsUnrelocated image p (p + 8) × IsZero image p (p + 8)) ⊎ IsLinked image notes p s k
CellHolds image notes p (cell.P64 s k false) = IsLinked image notes p s k
CellHolds image notes p _ = ⊥

-- a cell may be zero
abbrev pub MayBeZero : Cell → Type 0
MayBeZero (cell.Method m) = ⊥
MayBeZero (cell.Ptr s k null) = null ≡ true
MayBeZero (cell.P64 s k null) = null ≡ true
MayBeZero _ = ⊤

-- the place of field x of instance j of a static object at width 8
abbrev pub field_place : Static → Shape → ℕ → Field → ℕ
field_place x s j y = x.place + j * size_at 8 s + start_at 8 y

-- a byte of a static object that isn't one of a pointer of 64 bits' own isn't relocated: each relocation in it begins at
-- such a pointer
abbrev pub RelocatesPointers : Image → Static → Shape → Type 0
RelocatesPointers image x s =
    (r : ℕ) → Contains image.relocs r → touches x.place (x.place + extent x s) r
    → (j f : ℕ) × (y : Field) × (t n : ℕ) × (null : Bool) × (j < x.count) × (slice_get s.fields f ≡ Some y)
    × (y.cell ≡ cell.P64 t n null) × (r ≡ field_place x s j y)

-- the content of a static object whose layout depends on the width: zero, not relocated, and no cell that can't be zero
pub record IsBlank (image : Image) (x : Static) (s : Shape) : Type 0 where
  pub zero_bytes : IsZero image x.place (x.place + extent x s)
  pub unrelocated : IsUnrelocated image x.place (x.place + extent x s)
  pub cells : (f : ℕ) (y : Field) → slice_get s.fields f ≡ Some y → MayBeZero y.cell

-- the content of one whose layout doesn't
pub record IsFilled (image : Image) (notes : Notes) (x : Static) (s : Shape) : Type 0 where
  pub cells : (j f : ℕ) (y : Field) → j < x.count → slice_get s.fields f ≡ Some y → CellHolds image notes (field_place x s j y) y.cell
  pub relocations : RelocatesPointers image x s

abbrev pub HasContentBy : Image → Notes → Static → Shape → Bool → Type 0
HasContentBy image notes x s true = IsBlank image x s
HasContentBy image notes x s false = IsFilled image notes x s

abbrev pub HasContent : Image → Notes → Static → Shape → Type 0
HasContent image notes x s = HasContentBy image notes x s (depends s)

-- a static object shares no byte with a later one, nor with a thunk cell
abbrev pub IsApartFromLater : Notes → ℕ → Static → Shape → Type 0
IsApartFromLater notes k x s =
    ((j : ℕ) (y : Static) (t : Shape) → k < j → slice_get notes.statics j ≡ Some y → slice_get notes.shape y.shape ≡ Some t
    → AreApart x.place (extent x s) y.place (extent y t))
    × ((j : ℕ) (y : Thunk) → slice_get notes.thunk j ≡ Some y → AreApart x.place (extent x s) y.place 8)

-- the rule `static` holds of static object k
pub record IsStatic (image : Image) (notes : Notes) (k : ℕ) (x : Static) (s : Shape) : Type 0 where
  pub free : IsFree image notes x.place (extent x s)
  pub apart : IsApartFromLater notes k x s
  pub content : HasContent image notes x s

abbrev pub StaticHolds : Image → Notes → ℕ → Type 0
StaticHolds image notes k =
    (x : Static) (s : Shape) → slice_get notes.statics k ≡ Some x → slice_get notes.shape x.shape ≡ Some s → IsStatic image notes k x s

-- the rule `static` holds of thunk cell k: its first four bytes are the function's place less the place past them, the
-- others are zero, and the function may be entered
pub record IsThunk (image : Image) (notes : Notes) (k : ℕ) (x : Thunk) : Type 0 where
  pub free : IsFree image notes x.place 8
  pub apart : (j : ℕ) (y : Thunk) → k < j → slice_get notes.thunk j ≡ Some y → AreApart x.place 8 y.place 8
  pub unrelocated : IsUnrelocated image x.place (x.place + 8)
  pub f : FnNote
  pub there : slice_get notes.function x.function ≡ Some f
  pub enter : f.enter ≡ true
  pub offset : (little_endian (image_byte image) x.place 4 + (x.place + 4)) % 2 ^ 32 ≡ f.place
  pub rest : IsZero image (x.place + 4) (x.place + 8)

abbrev pub ThunkHolds : Image → Notes → ℕ → Type 0
ThunkHolds image notes k = (x : Thunk) → slice_get notes.thunk k ≡ Some x → IsThunk image notes k x

-- ---- instructions

-- the bytes of a function from a place on
abbrev pub rest_of : Image → FnNote → ℕ → List ℕ
rest_of image f place = window (image_byte image) place (f.end - place)

-- the rule `decode` holds at a place of a function: its bytes from there on are read as this instruction, which ends before
-- `next`, within the function
pub record IsDecoded (image : Image) (f : FnNote) (place : ℕ) (i : Insn) (next : ℕ) : Type 0 where
  pub size : ℕ
  pub bytes : All (λ b. b < 256) (rest_of image f place)
  pub reading : read (rest_of image f place) ≡ Ok (i, size)
  pub next_is : next ≡ place + size
  pub within : next ≤ f.end

-- the rule `point` holds of the bytes from a place up to `next`: no point lies inside
abbrev pub PointHolds : Notes → ℕ → ℕ → Type 0
PointHolds notes place next = (k : ℕ) (p : Point) → slice_get notes.point k ≡ Some p → (p.place ≤ place) ⊎ (next ≤ p.place)

-- an absolute jump, or call of byte code, by an immediate of 64 bits
abbrev pub is_absolute : Insn → Bool
is_absolute (Jump cond far rel op extra) = far && not rel
is_absolute (Call far native rel op extra) = far && (not native && not rel)
is_absolute i = false

-- the move of an address to a register
abbrev pub is_address_move : Insn → Bool
is_address_move (MoveImm size bits left lidx imm) = takes_address size bits left.indirect
is_address_move i = false

-- the place that the relocated immediate of an instruction names, where it has one: its last eight bytes
abbrev pub named_at : Image → ℕ → Bool → Option ℕ
named_at image next has = if has then Some (named_place image (next - 8)) else None

abbrev pub is_relocated : Image → ℕ → Bool
is_relocated image next = list_any (nat_eq (next - 8)) image.relocs

-- a relocated address names the start of a static object or of a thunk cell
abbrev pub NamesThing : Notes → Insn → Option ℕ → Type 0
NamesThing notes i None = ⊤
NamesThing notes i (Some p) = is_address_move i ≡ true → is_some (thing_at notes (pos p)) ≡ true

-- the place that a relocated immediate names is in the image
abbrev pub NamesPlace : Image → Option ℕ → Type 0
NamesPlace image None = ⊤
NamesPlace image (Some p) = p < image.size

-- the rule `relocation` holds of an instruction from a place up to `next`, whose relocated immediate names `reloc`
pub record RelocationHolds (image : Image) (notes : Notes) (place : ℕ) (i : Insn) (next : ℕ) (reloc : Option ℕ) : Type 0 where
  pub only : (r : ℕ) → Contains image.relocs r → touches place next r → (r + 8 ≡ next) × ((is_absolute i || is_address_move i) ≡ true)
  pub absolute : is_absolute i ≡ true → is_some reloc ≡ true
  pub named : reloc ≡ named_at image next (is_relocated image next)
  pub inside : NamesPlace image reloc
  pub thing : NamesThing notes i reloc

-- control may go on at the next instruction
abbrev pub falls : Insn → Bool
falls Ret = false
falls (Jump Always far rel op extra) = false
falls (Jump8 Always words) = false
falls i = true

-- the rule `end` holds: no fall leaves the function
abbrev pub EndHolds : FnNote → Insn → ℕ → Type 0
EndHolds f i next = falls i ≡ true → next < f.end

-- the place that the relocated immediate of an instruction that ends before `next` names, where it has one
unfoldable pub reloc_at : Image → ℕ → Option ℕ
reloc_at image next = named_at image next (is_relocated image next)

-- the relocated eight bytes at a place name this place of the image, at which a static object or a thunk cell starts where the
-- instruction is the move of an address
pub record NamesAt (image : Image) (notes : Notes) (i : Insn) (place named : ℕ) : Type 0 where
  pub named_is : named ≡ named_place image place
  pub inside : named < image.size
  pub thing : is_address_move i ≡ true → is_some (thing_at notes (pos named)) ≡ true

-- thing k is the first of which a rule doesn't hold
pub record IsFirstFailing (Holds : ℕ → Type 0) (k : ℕ) : Type 0 where
  pub fails : ¬ Holds k
  pub before : (j : ℕ) → j < k → Holds j
