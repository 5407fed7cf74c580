-- Meaning: the numbers of small texts: decimal digits with no sign and no leading zero, and a number with a sign where the
-- grammar says so. docs/NOTES.md says where they stand.
use Rattle.std.specs.Prelude.{ℕ, ◌+◌, ◌-◌, ◌*◌, ◌^◌, ℤ, pos, neg_ℤ, List, [], ◌∷◌, Option, Some, None, nat_le, nat_lt, ◌==◌, ◌&&◌}
use Rattle.std.specs.Prelude.{if◌then◌else◌, option_and_then, option_map}
use Rattle.ebc_base.specs.Names.{is_digit}

-- the number with one more digit, below 2^64
abbrev pub with_digit : ℕ → ℕ → Option ℕ
with_digit n b = if is_digit b && nat_lt (10 * n + (b - 48)) (2 ^ 64) then Some (10 * n + (b - 48)) else None

-- the number that goes on with these digits
unfoldable pub number_from : ℕ → List ℕ → Option ℕ
number_from n [] = Some n
number_from n (b ∷ bs) = option_and_then (λ m. number_from m bs) (with_digit n b)

-- NUMBER: digits, the first of several no `0`
unfoldable pub number_of : List ℕ → Option ℕ
number_of [] = None
number_of (b ∷ []) = number_from 0 (b ∷ [])
number_of (b ∷ c ∷ bs) = if b == 48 then None else number_from 0 (b ∷ c ∷ bs)

-- the number, where it is from low to high
abbrev pub within : ℕ → ℕ → ℕ → Option ℕ
within low high n = if nat_le low n && nat_le n high then Some n else None

-- a NUMBER from low to high
abbrev pub number_in : ℕ → ℕ → List ℕ → Option ℕ
number_in low high text = option_and_then (within low high) (number_of text)

-- a NUMBER from low to 2^20
abbrev pub units_of : ℕ → List ℕ → Option ℤ
units_of low text = option_map (λ n. pos n) (number_in low (2 ^ 20) text)

-- SIGNED: a NUMBER up to 2^20, or `-` and a NUMBER from 1 to 2^20
unfoldable pub near_of : List ℕ → Option ℤ
near_of [] = None
near_of (b ∷ bs) =
    if b == 45
    then option_map (λ n. neg_ℤ (pos n)) (number_in 1 (2 ^ 20) bs)
    else option_map (λ n. pos n) (number_in 0 (2 ^ 20) (b ∷ bs))
