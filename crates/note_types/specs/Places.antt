-- For proofs: the map that a list of things at places has beside it, with the first of them at each place.
use Rattle.std.specs.Prelude.{◌≡◌, ℕ, ℤ, List, pos, drop}
use Rattle.std.specs.List.{position_from}
use Rattle.std.specs.Ordering.{int_eq, int_cmp}
use Rattle.std.specs.BTreeMap.{BTreeMap, get}

-- the map has the number of the first thing at each place, of the things from a number on
abbrev pub AreFirsts : {X : Type 0} → (X → ℕ) → List X → ℕ → BTreeMap ℤ ℕ → Type 0
AreFirsts place_of things from firsts = (place : ℤ)
    → get int_cmp firsts place ≡ position_from (λ x. int_eq (pos (place_of x)) place) from (drop from things)
