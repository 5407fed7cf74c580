-- Meaning: what the list at a key of a TOML table says, or the first fault in it. docs/NOTES.md has it in words.
use Rattle.std.specs.Prelude.{ℕ, ◌+◌, ◌-◌, List, [], ◌∷◌, ◌++◌, Option, Some, None, Result, Ok, nat_le, if◌then◌else◌, bytes_eq, Bool}
use Rattle.std.specs.Prelude.{false, ◌||◌}
use Rattle.toml.specs.Data.{Data, Items, no_items, item, Members, get_member, as_str, as_array, as_table}
use Rattle.note_types.specs.declared.fault.TomlFault.{TomlFault}
use Rattle.note_types.specs.declared.fault.TomlFault.TheVariants.{Kind, Range}
use Rattle.ebc_base.specs.Steps.{◌>>=◌, or_else, passes}
use Rattle.note_texts.specs.Keys.{text_of, item_path, row_prefix}

-- the items of an array that may be left out, and has then none
abbrev pub array_of : List ℕ → Option Data → Result Items TomlFault
array_of path None = Ok no_items
array_of path (Some d) = or_else (Kind path) (as_array d)

-- the items of the array at a key that may be left out
unfoldable pub array_at : List ℕ → List ℕ → Members → Result Items TomlFault
array_at prefix key table = array_of (prefix ++ key) (get_member key table)

-- how many items there are
abbrev pub count : Items → ℕ
count no_items = 0
count (item d ds) = count ds + 1

-- the items of the array at a key that may be left out, at most limit of them
unfoldable pub list_at : List ℕ → List ℕ → ℕ → Members → Result Items TomlFault
list_at prefix key limit table = do
  ds ← array_at prefix key table
  _ ← passes (nat_le (count ds) limit) (Range (prefix ++ key))
  Ok ds

-- what each item reads as, from the item of number i on
unfoldable pub each : {A : Type 0} → (ℕ → Data → Result A TomlFault) → ℕ → Items → Result (List A) TomlFault
each read i no_items = Ok []
each read i (item d ds) = do
  x ← read i d
  xs ← each read (i + 1) ds
  Ok (x ∷ xs)

-- what each item stands for as a text
unfoldable pub texts_of : {A : Type 0} → (List ℕ → Option A) → List ℕ → Items → Result (List A) TomlFault
texts_of reads path ds = each (λ i d. text_of reads path d) 0 ds

-- what the texts of the list at a key stand for, at most limit of them
unfoldable pub texts_at : {A : Type 0} → (List ℕ → Option A) → List ℕ → List ℕ → ℕ → Members → Result (List A) TomlFault
texts_at reads prefix key limit table = list_at prefix key limit table >>= texts_of reads (prefix ++ key)

-- a text, if there is one, is this one
abbrev pub same_text : List ℕ → Option (List ℕ) → Bool
same_text text None = false
same_text text (Some s) = bytes_eq s text

-- a value is this very text
abbrev pub is_text : List ℕ → Data → Bool
is_text text d = same_text text (as_str d)

-- some item is this very text
abbrev pub has_text : List ℕ → Items → Bool
has_text text no_items = false
has_text text (item d ds) = is_text text d || has_text text ds

-- how many items count against a limit: where some item is the text beside, one doesn't
abbrev pub count_beside : List ℕ → Items → ℕ
count_beside beside ds = if has_text beside ds then count ds - 1 else count ds

-- what the texts of the list at a key stand for, at most limit of them beside one that is the text beside
unfoldable pub texts_beside_at : {A : Type 0} → (List ℕ → Option A) → List ℕ → List ℕ → ℕ → List ℕ → Members → Result (List A) TomlFault
texts_beside_at reads prefix key limit beside table = do
  ds ← array_at prefix key table
  _ ← passes (nat_le (count_beside beside ds) limit) (Range (prefix ++ key))
  texts_of reads (prefix ++ key) ds

-- the table that an item of the list at a path is
abbrev pub table_of : List ℕ → ℕ → Data → Result Members TomlFault
table_of path i d = or_else (Kind (item_path path i)) (as_table d)

-- what a table that is an item of the list at a path stands for
abbrev pub row_of : {A : Type 0} → (List ℕ → Members → Result A TomlFault) → List ℕ → ℕ → Data → Result A TomlFault
row_of reads path i d = table_of path i d >>= reads (row_prefix path i)

-- what each item stands for as a table
unfoldable pub rows_of : {A : Type 0} → (List ℕ → Members → Result A TomlFault) → List ℕ → Items → Result (List A) TomlFault
rows_of reads path ds = each (row_of reads path) 0 ds

-- what the tables of the list at a key stand for, at most limit of them
unfoldable pub tables_at : {A : Type 0} → (List ℕ → Members → Result A TomlFault) → List ℕ → List ℕ → ℕ → Members
    → Result (List A) TomlFault
tables_at reads prefix key limit table = list_at prefix key limit table >>= rows_of reads (prefix ++ key)
