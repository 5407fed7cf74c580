-- Meaning: where texts are split: docs/ASSEMBLY.md, "Lines" and "Operands".
use Rattle.std.specs.Prelude.{ℕ, ◌+◌, List, [], ◌∷◌, take, drop, length, Option, Some, None, option_map, option_and_then, is_some}
use Rattle.std.specs.Prelude.{unwrap_or, Bool, true, false, not, nat_lt, ◌==◌, ◌&&◌, ◌||◌, if◌then◌else◌}
use Rattle.std.specs.List.{position_or_len, list_all}

abbrev pub is_empty : List ℕ → Bool
is_empty [] = true
is_empty (b ∷ bs) = false

-- whether there is no such byte
unfoldable pub lacks : ℕ → List ℕ → Bool
lacks b xs = list_all (λ x. not (x == b)) xs

-- what stands before the first such byte, and behind it
unfoldable pub until : ℕ → List ℕ → Option (List ℕ × List ℕ)
until b text =
    if nat_lt (position_or_len (λ x. x == b) text) (length text)
    then Some (take (position_or_len (λ x. x == b) text) text, drop (position_or_len (λ x. x == b) text + 1) text)
    else None

-- what stands before the first space, and behind it
abbrev pub word_part : List ℕ → List ℕ × List ℕ
word_part text = unwrap_or (until 32 text) (text, [])

-- ---- between operands

abbrev pub starts_blank : List ℕ → Bool
starts_blank [] = false
starts_blank (b ∷ bs) = b == 32

abbrev pub starts_cut : List ℕ → Bool
starts_cut [] = false
starts_cut (b ∷ bs) = b == 44 && starts_blank bs

-- what stands before the first comma that a space follows, and behind the space
unfoldable pub cut : List ℕ → Option (List ℕ × List ℕ)
cut [] = None
cut (b ∷ bs) = if b == 44 && starts_blank bs then Some ([], drop 1 bs) else option_map (λ p. (b ∷ p.0, p.1)) (cut bs)

-- the text where it is one operand
unfoldable pub sole : List ℕ → Option (List ℕ)
sole text = if is_empty text || is_some (cut text) then None else Some text

abbrev pub if_last : List ℕ × List ℕ → Option (List ℕ × List ℕ)
if_last p = if is_some (cut p.1) then None else Some p

-- the two operands of a text
unfoldable pub halves : List ℕ → Option (List ℕ × List ℕ)
halves text = option_and_then if_last (cut text)

-- one more byte in front of the first text
abbrev pub longer : ℕ → List (List ℕ) → List (List ℕ)
longer b [] = (b ∷ []) ∷ []
longer b (x ∷ xs) = (b ∷ x) ∷ xs

-- the texts between commas that a space follows: one at least
unfoldable pub pieces : List ℕ → List (List ℕ)
pieces [] = [] ∷ []
pieces (b ∷ []) = (b ∷ []) ∷ []
pieces (b ∷ c ∷ bs) = if b == 44 && c == 32 then [] ∷ pieces bs else longer b (pieces (c ∷ bs))

-- ---- lines and their parts

-- the lines of a text, each ended by a line feed, which the last may lack
unfoldable pub lines_of : List ℕ → List (List ℕ)
lines_of [] = []
lines_of (b ∷ bs) = if b == 10 then [] ∷ lines_of bs else longer b (lines_of bs)

-- the first line, and what follows it
unfoldable pub line_cut : List ℕ → Option (List ℕ × List ℕ)
line_cut [] = None
line_cut (b ∷ bs) = Some (unwrap_or (until 10 (b ∷ bs)) (b ∷ bs, []))

-- a text without the spaces in front
unfoldable pub trim_front : List ℕ → List ℕ
trim_front text = drop (position_or_len (λ b. not (b == 32)) text) text

abbrev pub keep : ℕ → List ℕ → List ℕ
keep b [] = if b == 32 then [] else b ∷ []
keep b (c ∷ cs) = b ∷ c ∷ cs

-- a text without the spaces at its end
unfoldable pub trim_back : List ℕ → List ℕ
trim_back [] = []
trim_back (b ∷ bs) = keep b (trim_back bs)

-- a text without the spaces around it
abbrev pub trim : List ℕ → List ℕ
trim text = trim_back (trim_front text)

-- a line without its comment
abbrev pub without_comment : List ℕ → List ℕ
without_comment line = (unwrap_or (until 59 line) (line, [])).0
