-- Meaning: the table that a text is, and what stands at one key of a table, or the fault with its path. docs/NOTES.md has it
-- in words.
use Rattle.std.specs.Prelude.{ℕ, ℤ, pos, negsuc, List, ◌++◌, Option, Some, None, Result, Ok, Err, nat_le, ◌&&◌, if◌then◌else◌, codes, Bool}
use Rattle.std.specs.Prelude.{false}
use Rattle.std.specs.Str.{is_utf8}
use Rattle.std.specs.Fmt.{decimal}
use Rattle.toml.specs.Data.{Data, Items, no_items, item, Members, no_members, member, get_member, as_str, as_integer, as_bool, as_array}
use Rattle.toml.specs.Parse.{parse_document}
use Rattle.note_types.specs.declared.fault.TomlFault.{TomlFault}
use Rattle.note_types.specs.declared.fault.TomlFault.TheVariants.{NotToml, Missing, Kind, Range}
use Rattle.note_types.specs.declared.notes.Pair.{Pair}
use Rattle.note_texts.specs.KeyTexts.{key_text}
use Rattle.ebc_base.specs.Steps.{◌>>=◌, or_else}
use Rattle.ebc_base.specs.Tables.{is_named}

-- the table that a text is: UTF-8, and a document of TOML
unfoldable pub document : List ℕ → Result Members TomlFault
document text = if is_utf8 text then or_else NotToml (parse_document text) else Err NotToml

-- what a key that may not be left out holds
abbrev pub field : List ℕ → List ℕ → Members → Result Data TomlFault
field prefix key table = or_else (Missing (prefix ++ key)) (get_member key table)

-- a whole number from low to high
abbrev pub natural_in : List ℕ → ℕ → ℕ → ℤ → Result ℕ TomlFault
natural_in path low high (pos n) = if nat_le low n && nat_le n high then Ok n else Err (Range path)
natural_in path low high (negsuc n) = Err (Range path)

-- a value that is a whole number from low to high
abbrev pub whole_number : List ℕ → ℕ → ℕ → Data → Result ℕ TomlFault
whole_number path low high d = or_else (Kind path) (as_integer d) >>= natural_in path low high

-- the number from low to high at a key
unfoldable pub number_at : List ℕ → List ℕ → ℕ → ℕ → Members → Result ℕ TomlFault
number_at prefix key low high table = field prefix key table >>= whole_number (prefix ++ key) low high

-- a value that is a text of a form: what the text stands for
abbrev pub text_of : {A : Type 0} → (List ℕ → Option A) → List ℕ → Data → Result A TomlFault
text_of reads path d = or_else (Kind path) (as_str d) >>= (λ s. or_else (Range path) (reads s))

-- what the text at a key stands for
unfoldable pub text_at : {A : Type 0} → (List ℕ → Option A) → List ℕ → List ℕ → Members → Result A TomlFault
text_at reads prefix key table = field prefix key table >>= text_of reads (prefix ++ key)

-- what a text that may be left out stands for
abbrev pub optional_text_of : {A : Type 0} → (List ℕ → Option A) → List ℕ → Option Data → Result (Option A) TomlFault
optional_text_of reads path None = Ok None
optional_text_of reads path (Some d) = text_of reads path d >>= (λ x. Ok (Some x))

-- what the text at a key that may be left out stands for
unfoldable pub optional_text_at : {A : Type 0} → (List ℕ → Option A) → List ℕ → List ℕ → Members → Result (Option A) TomlFault
optional_text_at reads prefix key table = optional_text_of reads (prefix ++ key) (get_member key table)

-- a flag that may be left out, and is then false
abbrev pub flag_of : List ℕ → Option Data → Result Bool TomlFault
flag_of path None = Ok false
flag_of path (Some d) = or_else (Kind path) (as_bool d)

-- the flag at a key that may be left out
unfoldable pub flag_at : List ℕ → List ℕ → Members → Result Bool TomlFault
flag_at prefix key table = flag_of (prefix ++ key) (get_member key table)

-- the items of an array that has exactly two
abbrev pub two_items : Items → Option (Data × Data)
two_items (item a (item b no_items)) = Some (a, b)
two_items ds = None

-- the pair of natural units and bytes at a key, each from 0 to high
unfoldable pub pair_at : List ℕ → List ℕ → ℕ → Members → Result Pair TomlFault
pair_at prefix key high table = do
  d ← field prefix key table
  ds ← or_else (Kind (prefix ++ key)) (as_array d)
  two ← or_else (Range (prefix ++ key)) (two_items ds)
  n ← whole_number (prefix ++ key) 0 high two.0
  c ← whole_number (prefix ++ key) 0 high two.1
  Ok (record { n = n; c = c })

-- each key is one of these; of those that are not, the first in the order of their bytes is told
unfoldable pub only_keys : List ℕ → List (List ℕ) → Members → Result (Unit {0}) TomlFault
only_keys prefix known no_members = Ok tt
only_keys prefix known (member k d ms) = if is_named k known then only_keys prefix known ms else Err (Kind (prefix ++ key_text k))

-- the path of an item of the list at a path
abbrev pub item_path : List ℕ → ℕ → List ℕ
item_path path i = path ++ (codes "[" ++ (decimal i ++ codes "]"))

-- the path before the keys of a table that is an item of the list at a path
abbrev pub row_prefix : List ℕ → ℕ → List ℕ
row_prefix path i = path ++ (codes "[" ++ (decimal i ++ codes "]."))
