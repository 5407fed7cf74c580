-- For proofs: how the lines of two texts, one of either width, stand side by side: docs/TRACE.md, "Both widths".
use Rattle.std.specs.Prelude.{ℕ, List, [], ◌∷◌, ◌++◌, Bool, not, ◌==◌, ◌&&◌, if◌then◌else◌, bytes_eq, codes, drop, take}
use Rattle.std.specs.List.{after_first, before_first, before_last, flat_map, list_any, position_or_len}
use Rattle.asm_text.specs.Splits.{lines_of}

-- ---- a line

-- how many blanks a line begins with
unfoldable pub margin : List ℕ → ℕ
margin line = position_or_len (λ b. not (b == 32)) line

-- what stands before the first blank of a text
unfoldable pub first_word : List ℕ → List ℕ
first_word text = before_first (λ b. b == 32) text

-- what a line is about: its first word
abbrev pub subject : List ℕ → List ℕ
subject line = first_word (drop (margin line) line)

-- what stands behind the first blank of a text
unfoldable pub past_word : List ℕ → List ℕ
past_word text = after_first (λ b. b == 32) text

-- what stands before the last blank of a text
unfoldable pub but_last_word : List ℕ → List ℕ
but_last_word text = before_last (λ b. b == 32) text

-- where the bytes of a row lie, in words: what stands between their address, which is its second word, and the bytes, its last one
abbrev pub row_place_words : List ℕ → List ℕ
row_place_words line = but_last_word (past_word (past_word (drop (margin line) line)))

-- nothing of a line that is no row of bytes
abbrev pub place : List ℕ → List ℕ
place line = if bytes_eq (subject line) (codes "bytes") then row_place_words line else []

-- whether two places are one of the image, of which each is a word, or are in one object: `ptr`, its number, and where in it
abbrev pub same_object : List ℕ → List ℕ → Bool
same_object p q = bytes_eq (first_word p) (first_word q) && bytes_eq (but_last_word p) (but_last_word q)

-- whether two lines are about the same: rows of bytes also have the same object
abbrev pub same_subject : List ℕ → List ℕ → Bool
same_subject a b = bytes_eq (subject a) (subject b) && same_object (place a) (place b)

-- a line of one width alone: a mark stands behind its blanks
abbrev pub marked_line : List ℕ → List ℕ → List ℕ
marked_line mark line = take (margin line) line ++ (mark ++ (drop (margin line) line ++ codes "\n"))

abbrev pub only32 : List ℕ → List ℕ
only32 line = marked_line (codes "32 ") line

abbrev pub only64 : List ℕ → List ℕ
only64 line = marked_line (codes "64 ") line

-- two lines that are about the same: once if they are one
abbrev pub paired : List ℕ → List ℕ → List ℕ
paired a b = if bytes_eq a b then a ++ codes "\n" else only32 a ++ only64 b

-- ---- all lines

-- A line a of width 32 beside the first of these of width 64 that is about the same. Those in front of this come first. `rest` has
-- what stands behind, by the lines that are left.
unfoldable pub until_beside : List ℕ → (List (List ℕ) → List ℕ) → List (List ℕ) → List ℕ
until_beside a rest [] = rest []
until_beside a rest (b ∷ bs) = if same_subject a b then paired a b ++ rest bs else only64 b ++ until_beside a rest bs

-- the same of a line of which it isn't known whether there is one about the same
unfoldable pub line_beside : List ℕ → (List (List ℕ) → List ℕ) → List (List ℕ) → List ℕ
line_beside a rest bs = if list_any (same_subject a) bs then until_beside a rest bs else only32 a ++ rest bs

-- the lines of width 32 beside those of width 64
unfoldable pub lines_beside : (at32 at64 : List (List ℕ)) → List ℕ
lines_beside [] bs = flat_map only64 bs
lines_beside (a ∷ more) bs = line_beside a (lines_beside more) bs

-- a text of width 32 beside one of width 64
unfoldable pub side_by_side : (at32 at64 : List ℕ) → List ℕ
side_by_side at32 at64 = lines_beside (lines_of at32) (lines_of at64)
