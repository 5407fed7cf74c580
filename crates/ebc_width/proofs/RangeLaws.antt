-- Laws of ranges of addresses, for the crates above.
use Rattle.std.proofs.Common.{◌≡◌, ℕ, ◌+◌, ◌≤◌, ⊎_elim, true, List, [], ◌∷◌, Some, sym, arith}
use Rattle.std.specs.Prelude.{slice_get}
use Rattle.std.specs.List.{list_any}
use Rattle.std.proofs.lemmas.List.Folds.{list_any_at}
use Rattle.std.proofs.lemmas.Option.{slice_get_within, get_or_from_slice_get}
use Rattle.std.proofs.lemmas.Bool.{or_cases, or_left, or_right, true≢false}
use Rattle.std.proofs.lemmas.Bool.Decides.{nat_tests}
use Rattle.ebc_width.specs.Ranges.{Range, covers, holds}

-- the bytes from the first to before the last are covered
pub covers-inside : (r : Range) (a k : ℕ) → r.base ≤ a → a + k ≤ r.base + r.size → covers a k r ≡ true
covers-inside r a k from to = grind (arith, nat_tests)

pub covers-bounds : (r : Range) (a k : ℕ) → covers a k r ≡ true → (r.base ≤ a) × (a + k ≤ r.base + r.size)
covers-bounds r a k covered = (grind (arith, nat_tests), grind (arith, nat_tests))

pub covers-within : (r : Range) (a n b k : ℕ) → covers a n r ≡ true → a ≤ b → b + k ≤ a + n → covers b k r ≡ true
covers-within r a n b k whole from to = grind (arith, nat_tests)

-- what a range of the list covers is held
pub holds-at : (ranges : List Range) (a k i : ℕ) (r : Range) → slice_get ranges i ≡ Some r → covers a k r ≡ true → holds ranges a k ≡ true
unfolding holds
holds-at ranges a k i r at covered =
    list_any_at (covers a k) ranges i r (slice_get_within ranges i r at) (rw (get_or_from_slice_get ranges i r r at) covered)

-- part of what one range holds is held by one
pub holds-within : (ranges : List Range) (a n b k : ℕ) → holds ranges a n ≡ true → a ≤ b → b + k ≤ a + n → holds ranges b k ≡ true
unfolding holds
holds-within [] a n b k some from to = absurd (true≢false (sym some))
holds-within (r ∷ ranges) a n b k some from to =
    ⊎_elim
    (λ here. or_left _ _ (covers-within r a n b k here from to))
    (λ there. or_right _ _ (holds-within ranges a n b k there from to))
    (or_cases (covers a n r) (list_any (covers a n) ranges) some)
