-- Meaning: the parts of small texts that are numbers in a row: ranges, pairs, and counts that may be left out. docs/NOTES.md
-- says where they stand.
use Rattle.std.specs.Prelude.{ℕ, ◌-◌, ◌^◌, ℤ, List, [], ◌∷◌, Option, Some, None, nat_le, ◌==◌, if◌then◌else◌}
use Rattle.note_texts.specs.Numbers.{near_of, number_in, number_of, units_of}
use Rattle.note_texts.specs.Splits.{◌>>=◌, split_at}

-- a NUMBER of at least 1, and 1 where it is left out
abbrev pub count_of : Option (List ℕ) → Option ℕ
count_of None = Some 1
count_of (Some text) = number_in 1 (2 ^ 64 - 1) text

-- what follows a `.`
abbrev pub after_dot : List ℕ → Option (List ℕ)
after_dot [] = None
after_dot (b ∷ bs) = if b == 46 then Some bs else None

-- `LO..HI`, LO at most HI
unfoldable pub range_of : List ℕ → Option (ℕ × ℕ)
range_of text = do
  parts ← split_at 46 text
  top ← after_dot parts.1
  lo ← number_of parts.0
  hi ← number_of top
  if nat_le lo hi then Some (lo, hi) else None

-- `N,C`, N from low to 2^20 and C from -2^20 to 2^20
unfoldable pub pair_of : ℕ → List ℕ → Option (ℤ × ℤ)
pair_of low text = do
  parts ← split_at 44 text
  n ← units_of low parts.0
  c ← near_of parts.1
  Some (n, c)

-- `N,C`, each from 0 to 2^20
unfoldable pub size_of : List ℕ → Option (ℕ × ℕ)
size_of text = do
  parts ← split_at 44 text
  n ← number_in 0 (2 ^ 20) parts.0
  c ← number_in 0 (2 ^ 20) parts.1
  Some (n, c)
