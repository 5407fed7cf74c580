-- Meaning: the fields of a function's locals, by their names and numbers, and sets of them. docs/NOTES.md says what a
-- function's locals are.
use Rattle.std.specs.Prelude.{◌≡◌, ◌↔◌, ◌⊎◌, ℕ, ◌^◌, ◌<◌, List, [], ◌∷◌, Option, Some, None, Bool, bytes_eq, bit_or, nat_lt, if◌then◌else◌}
use Rattle.std.specs.List.{fold, list_any, position}
use Rattle.note_types.specs.FieldSets.{HasField}
use Rattle.note_texts.specs.declared.cell.FieldText.{FieldText}

-- whether a field has the name
abbrev pub is_field : List FieldText → List ℕ → Bool
is_field fields name = list_any (λ f. bytes_eq f.name name) fields

-- a number below 64, or else 64
abbrev pub below_64 : Option ℕ → ℕ
below_64 None = 64
below_64 (Some n) = if nat_lt n 64 then n else 64

-- the number of the field of that name; 64 where none of the first 64 has it
unfoldable pub field_number : List FieldText → List ℕ → ℕ
field_number fields name = below_64 (position (λ f. bytes_eq f.name name) fields)

-- the set of the field of that number; none for 64
abbrev pub field_bit : ℕ → ℕ
field_bit n = if nat_lt n 64 then 2 ^ n else 0

-- the set of the fields of these names
unfoldable pub field_set : List FieldText → List (List ℕ) → ℕ
field_set fields names = fold (λ set name. bit_or set (field_bit (field_number fields name))) 0 names

-- some name of the list is that of field f, the first field of that name
abbrev pub SomeNames : List FieldText → ℕ → List (List ℕ) → Type 0
SomeNames fields f [] = ⊥
SomeNames fields f (name ∷ names) = (position (λ x. bytes_eq x.name name) fields ≡ Some f) ⊎ SomeNames fields f names

-- bit f of the set is set exactly where f is below 64 and some name of the list is that of field f
abbrev pub IsFieldSet : List FieldText → List (List ℕ) → ℕ → Type 0
IsFieldSet fields names set = (f : ℕ) → HasField set f ↔ ((f < 64) × SomeNames fields f names)
