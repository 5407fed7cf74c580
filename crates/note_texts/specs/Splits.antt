-- Meaning: Small texts that are cut where a mark first stands in them.
use Rattle.std.specs.Prelude.{ℕ, List, Option, Some, None, ◌==◌, length, nat_lt, if◌then◌else◌, option_and_then}
use Rattle.std.specs.List.{position_or_len, before_first, after_first}

-- what o finds, and with that what f finds
infixl 10 ◌>>=◌
abbrev pub ◌>>=◌ : {A B : Type 0} → Option A → (A → Option B) → Option B
o >>= f = option_and_then f o

-- what stands before the first such byte and what follows it; None where there is none
unfoldable pub split_at : ℕ → List ℕ → Option (List ℕ × List ℕ)
split_at mark text =
    if nat_lt (position_or_len (λ b. b == mark) text) (length text)
    then Some (before_first (λ b. b == mark) text, after_first (λ b. b == mark) text)
    else None

-- what stands before the first such byte and what follows it; all, and nothing, where there is none
unfoldable pub parts_at : ℕ → List ℕ → List ℕ × Option (List ℕ)
parts_at mark text =
    if nat_lt (position_or_len (λ b. b == mark) text) (length text)
    then (before_first (λ b. b == mark) text, Some (after_first (λ b. b == mark) text))
    else (text, None)
