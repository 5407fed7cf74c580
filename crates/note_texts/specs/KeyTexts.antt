-- Meaning: how a key stands in a path. docs/NOTES.md has it in words.
use Rattle.std.specs.Prelude.{ℕ, ◌+◌, ◌/◌, ◌%◌, ◌||◌, ◌&&◌, ◌==◌, List, [], ◌∷◌, ◌++◌, length, Bool, codes, nat_lt, if◌then◌else◌}
use Rattle.std.specs.Char.{encode_utf8}
use Rattle.std.specs.List.{flat_map, list_all}
use Rattle.std.specs.Str.{chars}
use Rattle.ebc_base.specs.Names.{is_letter, is_digit}

-- a byte that a key has without quotes: a letter, a digit, `_` or `-`
abbrev pub is_bare_byte : ℕ → Bool
is_bare_byte b = is_letter b || (is_digit b || (b == 95 || b == 45))

-- a key without quotes: at least one byte, and all of these
abbrev pub is_bare_key : List ℕ → Bool
is_bare_key key = nat_lt 0 (length key) && list_all is_bare_byte key

-- a character that is escaped in quotes: a control, `"` or `\`
abbrev pub is_escaped : ℕ → Bool
is_escaped c = nat_lt c 32 || (c == 127 || (c == 34 || c == 92))

-- a hexadecimal digit, in lower case
abbrev pub hex_digit : ℕ → ℕ
hex_digit n = if nat_lt n 10 then 48 + n else 87 + n

-- `\u` and four hexadecimal digits
abbrev pub escape_of : ℕ → List ℕ
escape_of c = 92 ∷ (codes "u00" ++ (hex_digit (c / 16) ∷ hex_digit (c % 16) ∷ []))

-- a character in quotes
unfoldable pub quoted_char : ℕ → List ℕ
quoted_char c = if is_escaped c then escape_of c else encode_utf8 c

-- a text in quotes
abbrev pub quoted : List ℕ → List ℕ
quoted text = codes "\"" ++ (flat_map quoted_char (chars text) ++ codes "\"")

-- a key as it stands in a path: as it is, or in quotes
abbrev pub key_text : List ℕ → List ℕ
key_text key = if is_bare_key key then key else quoted key
