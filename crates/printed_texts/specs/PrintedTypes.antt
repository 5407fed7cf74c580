-- Meaning: the texts of cells and types as they are printed, things of the notes and fields of locals by their names:
-- docs/NOTES.md, "Shapes" and "Types". What may be left out is left out.
use Rattle.std.specs.Prelude.{ℕ, ◌-◌, ◌^◌, ◌==◌, ◌&&◌, ℤ, Bool, List, [], ◌++◌, codes, if◌then◌else◌, filter, map, slice_get}
use Rattle.std.specs.Fmt.{decimal}
use Rattle.std.specs.List.{range_with_len}
use Rattle.std.specs.Option.{option_map_or}
use Rattle.note_types.specs.Types.{is_start}
use Rattle.note_types.specs.declared.cell.Cell.{Cell}
use Rattle.note_types.specs.declared.cell.Cell.TheVariants as cell
use Rattle.note_types.specs.declared.notes.Notes.{Notes}
use Rattle.note_types.specs.declared.shape.Field.{Field}
use Rattle.note_types.specs.declared.shape.Shape.{Shape}
use Rattle.note_types.specs.declared.types.Ty.{Ty}
use Rattle.note_types.specs.declared.types.Ty.TheVariants as ty
use Rattle.note_texts.specs.Grammar.{mark_of}
use Rattle.note_texts.specs.TypeGrammar.{grants_text, pair_text, range_text}
use Rattle.rules_base.specs.Places.{has_field}

-- ---- names

-- the name of a shape, of a native method and of a field by its number; empty where there is no such thing
abbrev pub shape_name : Notes → ℕ → List ℕ
shape_name notes s = option_map_or (λ (x : Shape). x.name) (slice_get notes.shape s) []

abbrev pub method_name : Notes → ℕ → List ℕ
method_name notes m = option_map_or (λ name. name) (slice_get notes.methods m) []

abbrev pub field_name : List Field → ℕ → List ℕ
field_name fields f = option_map_or (λ (x : Field). x.name) (slice_get fields f) []

-- the names of those of the first n fields that a set has, in the fields' order
unfoldable pub names_below : List Field → ℕ → ℕ → List (List ℕ)
names_below fields set n = map (field_name fields) (filter (has_field set) (range_with_len 0 n))

-- the names of the fields of a set, in the fields' order
abbrev pub field_names : List Field → ℕ → List (List ℕ)
field_names fields set = names_below fields set 64

-- ---- cells

-- `S*K`, or `S` where K is 1
abbrev pub counted_text : List ℕ → ℕ → List ℕ
counted_text shape count = if count == 1 then shape else shape ++ (codes "*" ++ decimal count)

-- CELL
unfoldable pub cell_text : Notes → Cell → List ℕ
cell_text notes cell.I8 = codes "i8"
cell_text notes cell.I16 = codes "i16"
cell_text notes cell.I32 = codes "i32"
cell_text notes cell.I64 = codes "i64"
cell_text notes cell.N = codes "n"
cell_text notes cell.Stat = codes "stat"
cell_text notes cell.Handle = codes "handle"
cell_text notes cell.Entry = codes "entry"
cell_text notes (cell.Ptr s k null) = codes "ptr" ++ (mark_of null ++ counted_text (shape_name notes s) k)
cell_text notes (cell.P64 s k null) = codes "p64" ++ (mark_of null ++ counted_text (shape_name notes s) k)
cell_text notes (cell.Method m) = codes "method:" ++ method_name notes m

-- ---- types

-- `/DIV`, or nothing where DIV is 1
unfoldable pub divisor_text : ℕ → List ℕ
divisor_text div = if div == 1 then [] else codes "/" ++ decimal div

-- all 64-bit numbers
unfoldable pub is_every_number : ℕ → ℕ → ℕ → Bool
is_every_number lo hi div = lo == 0 && (hi == 2 ^ 64 - 1 && div == 1)

-- `int:LO..HI/DIV`
abbrev pub ranged_text : ℕ → ℕ → ℕ → List ℕ
ranged_text lo hi div = codes "int:" ++ (range_text lo hi ++ divisor_text div)

-- the same, or `int` for all 64-bit numbers
unfoldable pub int_text : ℕ → ℕ → ℕ → List ℕ
int_text lo hi div = if is_every_number lo hi div then codes "int" else ranged_text lo hi div

-- `+N,C`, or nothing for (0, 0)
unfoldable pub offset_text : ℤ → ℤ → List ℕ
offset_text n c = if is_start n c then [] else codes "+" ++ pair_text n c

-- `ptr:S*K+N,C`, or with `?`
abbrev pub pointer_text : List ℕ → ℕ → ℤ → ℤ → Bool → List ℕ
pointer_text shape count n c null = codes "ptr" ++ (mark_of null ++ (counted_text shape count ++ offset_text n c))

-- TYPE, where the locals have these fields
unfoldable pub type_text : Notes → List Field → Ty → List ℕ
type_text notes fields ty.Any = codes "any"
type_text notes fields (ty.Int lo hi div) = int_text lo hi div
type_text notes fields (ty.Lin n c) = codes "lin:" ++ pair_text n c
type_text notes fields (ty.Scaled n c hi) = codes "scaled:" ++ (decimal n ++ (codes "," ++ (decimal c ++ (codes "," ++ decimal hi))))
type_text notes fields (ty.Ptr s k n c null) = pointer_text (shape_name notes s) k n c null
type_text notes fields (ty.Local f) = codes "local:" ++ field_name fields f
type_text notes fields (ty.Lent cell) = codes "lent:" ++ cell_text notes cell
type_text notes fields (ty.Status set) = codes "status" ++ grants_text (field_names fields set)
type_text notes fields (ty.SignedStatus set) = codes "sstatus" ++ grants_text (field_names fields set)
type_text notes fields ty.Mask = codes "mask"
type_text notes fields ty.Handle = codes "handle"
type_text notes fields ty.Entry = codes "entry"
type_text notes fields (ty.Method m) = codes "method:" ++ method_name notes m
type_text notes fields (ty.ThunkAt i) = codes "thunk:" ++ decimal i
type_text notes fields (ty.Saved r) = codes "saved:" ++ decimal r
