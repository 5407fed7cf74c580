-- Meaning: the grammar of small texts: what each text is made of, by its value. docs/NOTES.md has it in words.
use Rattle.std.specs.Prelude.{◌≡◌, ◌↔◌, ◌⊎◌, ℕ, ◌^◌, ◌<◌, ◌≤◌, List, ◌++◌, Option, Some, Bool, true, false, IsTrue, codes}
use Rattle.std.specs.Fmt.{decimal}
use Rattle.ebc_base.specs.Names.{is_name}
use Rattle.note_texts.specs.declared.cell.CellText.{CellText}
use Rattle.note_texts.specs.declared.cell.CellText.TheVariants as cells
use Rattle.note_texts.specs.declared.cell.FieldText.{FieldText}

-- a value is read just where it is one that the text spells
abbrev pub ReadsJust : {X : Type 0} → Option X → (X → Type 0) → Type 0
ReadsJust read Spells = (x : _) → (read ≡ Some x) ↔ Spells x

-- NAME
abbrev pub IsName : List ℕ → Type 0
IsName name = IsTrue (is_name name)

-- the text of a NAME is the name
abbrev pub IsNameText : List ℕ → List ℕ → Type 0
IsNameText text name = (text ≡ name) × IsName name

-- NUMBER
abbrev pub IsNumber : List ℕ → ℕ → Type 0
IsNumber text n = (text ≡ decimal n) × (n < 2 ^ 64)

-- NUMBER from low to high
abbrev pub IsNumberIn : ℕ → ℕ → List ℕ → ℕ → Type 0
IsNumberIn low high text n = (text ≡ decimal n) × (low ≤ n) × (n ≤ high)

-- `S*K`, or `S` where K is 1
abbrev pub IsCounted : List ℕ → List ℕ → ℕ → Type 0
IsCounted text shape count =
    IsName shape × (1 ≤ count) × (count < 2 ^ 64)
    × (((text ≡ shape) × (count ≡ 1)) ⊎ (text ≡ shape ++ (codes "*" ++ decimal count)))

-- what stands between the word of a pointer and its `:`
abbrev pub mark_of : Bool → List ℕ
mark_of true = codes "?:"
mark_of false = codes ":"

-- CELL
abbrev pub IsCellText : List ℕ → CellText → Type 0
IsCellText text cells.I8 = text ≡ codes "i8"
IsCellText text cells.I16 = text ≡ codes "i16"
IsCellText text cells.I32 = text ≡ codes "i32"
IsCellText text cells.I64 = text ≡ codes "i64"
IsCellText text cells.N = text ≡ codes "n"
IsCellText text cells.Stat = text ≡ codes "stat"
IsCellText text cells.Handle = text ≡ codes "handle"
IsCellText text cells.Entry = text ≡ codes "entry"
IsCellText text (cells.Ptr shape count null) = (target : List ℕ) × (text ≡ codes "ptr" ++ (mark_of null ++ target))
    × IsCounted target shape count
IsCellText text (cells.P64 shape count null) = (target : List ℕ) × (text ≡ codes "p64" ++ (mark_of null ++ target))
    × IsCounted target shape count
IsCellText text (cells.Method name) = (text ≡ codes "method:" ++ name) × IsName name

-- `NAME N C CELL`
abbrev pub IsFieldText : List ℕ → FieldText → Type 0
IsFieldText text f =
    (cell : List ℕ) × (text ≡ f.name ++ (codes " " ++ (decimal f.n ++ (codes " " ++ (decimal f.c ++ (codes " " ++ cell))))))
    × IsName f.name × (f.n < 2 ^ 32) × (f.c < 2 ^ 32) × IsCellText cell f.cell
