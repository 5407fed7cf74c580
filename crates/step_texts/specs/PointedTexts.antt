-- For proofs: what is printed of what an argument of a native call points to: docs/TRACE.md, "What arguments point to".
use Rattle.std.specs.Prelude.{ℕ, ◌+◌, ◌*◌, ◌/◌, List, [], ◌∷◌, ◌++◌, Bool, not, ◌&&◌, ◌==◌, Option, Some, None, codes, length, map, take}
use Rattle.std.specs.Prelude.{if◌then◌else◌, nat_le, nat_lt, slice_index}
use Rattle.std.specs.Fmt.{decimal}
use Rattle.std.specs.List.{flat_map, list_all, position_or_len, range_with_len}
use Rattle.std.specs.Option.{option_map_or}
use Rattle.asm_text.specs.Numbers.{hex_text}
use Rattle.step_texts.specs.declared.pointed.Cells.{Cells}
use Rattle.step_texts.specs.declared.pointed.Cells.TheVariants as kinds

-- ---- cells

-- cell k of two bytes, the low one first
abbrev pub two_byte_cell : List ℕ → ℕ → ℕ
two_byte_cell bytes k = slice_index bytes (2 * k) + 256 * slice_index bytes (2 * k + 1)

-- the first n cells of two bytes each
unfoldable pub first_words : List ℕ → ℕ → List ℕ
first_words bytes n = map (two_byte_cell bytes) (range_with_len 0 n)

-- all of them; an odd byte at the end is none
abbrev pub words : List ℕ → List ℕ
words bytes = first_words bytes (length bytes / 2)

-- the cells in front of the first that is zero, or all of them
abbrev pub before_zero : List ℕ → List ℕ
before_zero cells = take (position_or_len (λ c. c == 0) cells) cells

-- ---- characters

-- a character from the space to `~`
abbrev pub is_printable : ℕ → Bool
is_printable u = nat_le 32 u && nat_le u 126

-- one that stands as it is in quotes: all but `"` and `\`
abbrev pub is_unescaped : ℕ → Bool
is_unescaped u = is_printable u && (not (u == 34) && not (u == 92))

-- a cell in quotes: as it is, or `\u` and four hexadecimal digits
unfoldable pub unit_text : ℕ → List ℕ
unit_text u = if is_unescaped u then u ∷ [] else 92 ∷ (codes "u" ++ hex_text 4 u)

-- ---- texts and bytes

-- three dots behind a text of more than 64 cells
abbrev pub dots : ℕ → List ℕ
dots n = if nat_lt 64 n then codes "..." else []

-- a text in quotes, of its first 64 cells
abbrev pub shown_text : List ℕ → List ℕ
shown_text cells = codes "\"" ++ (flat_map unit_text (take 64 cells) ++ (codes "\"" ++ dots (length cells)))

-- the text that bytes begin with: at least one byte in front of the first zero, and all of these printable
unfoldable pub leading_text : List ℕ → Option (List ℕ)
leading_text bytes =
    let n = position_or_len (λ b. b == 0) bytes in
    if nat_lt n (length bytes) && (nat_lt 0 n && list_all is_printable (take n bytes)) then Some (take n bytes) else None

-- the first 16 bytes
abbrev pub shown_bytes : List ℕ → List ℕ
shown_bytes bytes = flat_map (hex_text 2) (take 16 bytes)

-- what lies there: by what the instances hold, a text, of which 65 cells say enough, or bytes
abbrev pub contents_text : Cells → List ℕ → List ℕ
contents_text kinds.Words bytes = shown_text (before_zero (words (take 130 bytes)))
contents_text kinds.Bytes bytes = option_map_or (λ text. shown_text (take 65 text)) (leading_text bytes) (shown_bytes bytes)
contents_text kinds.Others bytes = shown_bytes bytes

-- the line of the argument of that number, from 0
abbrev pub pointed_line : ℕ → Cells → List ℕ → List ℕ
pointed_line argument cells bytes = codes "  argument " ++ (decimal argument ++ (codes " " ++ (contents_text cells bytes ++ codes "\n")))
