-- Meaning: what stands at a place of the code: the first of the points, functions or sites of the notes whose place it is.
use Rattle.std.specs.Prelude.{ℕ, Bool, nat_eq, List, Option, None, position, ℤ, pos, int_le, unsigned_abs, if◌then◌else◌}

-- the thing stands at this place
abbrev pub is_at : {A : Type 0} → (A → ℕ) → ℕ → A → Bool
is_at place_of place x = nat_eq (place_of x) place

-- the number of the first thing at a place
unfoldable pub number_at : {A : Type 0} → (A → ℕ) → List A → ℕ → Option ℕ
number_at place_of xs place = position (is_at place_of place) xs

-- the same of a place that may be negative, where nothing stands
abbrev pub number_from : {A : Type 0} → (A → ℕ) → List A → ℤ → Option ℕ
number_from place_of xs place = if int_le (pos 0) place then number_at place_of xs (unsigned_abs place) else None
