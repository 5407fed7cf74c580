-- Meaning: Counts of faults and of calls: numbers below 2 ^ 64 that never fall, and stay at the last of them. This project
-- defines it: docs/OUTSIDE.md.
use Rattle.std.specs.Prelude.{ℕ, ◌+◌, ◌-◌, ◌^◌, ◌<◌, ◌≤◌, min, List, Bool, ◌==◌}
use Rattle.std.specs.List.{list_any}

-- the count after one more
abbrev pub one_more : ℕ → ℕ
one_more count = min (count + 1) (2 ^ 64 - 1)

-- the count is greater than before, or stands at its last value
abbrev pub Rose : ℕ → ℕ → Type 0
Rose before now = one_more before ≤ now

-- the count has not fallen, and fits
pub record IsCount (before now : ℕ) : Type 0 where
  pub later : before ≤ now
  pub fits : now < 2 ^ 64

-- the number of the call that comes after so many calls, where the first is number 1
abbrev pub next_call : ℕ → ℕ
next_call calls = one_more calls

-- the list has the number
abbrev pub is_listed : ℕ → List ℕ → Bool
is_listed number numbers = list_any (λ n. n == number) numbers
