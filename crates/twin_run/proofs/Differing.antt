-- There is one least number of steps after which two runs aren't the same, or none.
use Rattle.twin_run.proofs.Common.{◌≡◌, ℕ, ◌<◌, Option, Some, inl, inr, refl, ap, arith, cases_lt, Image, World, DifferAt, nowhere, first}
use Rattle.twin_run.specs.Differs.{OwnRunsSame}

-- neither of two of them is below the other
same_first : (image : Image) (world : World) (k j : ℕ) → ¬ OwnRunsSame image world k → ((i : ℕ) → i < k → OwnRunsSame image world i)
    → ¬ OwnRunsSame image world j → ((i : ℕ) → i < j → OwnRunsSame image world i) → k ≡ j
same_first image world k j n before m earlier = elim (cases_lt k j) [
  | inl below ↦ absurd (n (earlier k below))
  | inr above ↦ elim (cases_lt j k) [
    | inl below ↦ absurd (m (before j below))
    | inr under ↦ omega (arith, above, under)
  ]
]

pub one_differs : (image : Image) (world : World) (limit : ℕ) (a b : Option ℕ) → DifferAt image world limit a → DifferAt image world limit b
    → a ≡ b
one_differs image world limit _ _ (nowhere all) (nowhere also) = refl
one_differs image world limit _ _ (nowhere all) (first k most n before) = absurd (n (all k most))
one_differs image world limit _ _ (first k most n before) (nowhere all) = absurd (n (all k most))
one_differs image world limit _ _ (first k most n before) (first j within m earlier) =
    ap Some (same_first image world k j n before m earlier)
