-- What holds of the items of a list, shown one by one; and numbers that a test compares.
use Rattle.step_sound.proofs.Common.{◌≡◌, ℕ, zero, suc, Bool, true, List, [], ◌∷◌, Some, subst, arith, slice_get, and_parts, same_Some}
use Rattle.step_sound.proofs.Common.{none-some}
use Rattle.std.proofs.Common.{All, AllPairs}
use Rattle.std.specs.{Prelude.⊤, List.AllByRecursion, List.list_all}

pub each_item : {A : Type 0} (P : A → Type 0) (xs : List A) → AllByRecursion P xs → (k : ℕ) (x : A) → slice_get xs k ≡ Some x → P x
each_item P [] all k x g = absurd (none-some x g)
each_item P (y ∷ ys) all zero x g = subst P (same_Some y x g) all.0
each_item P (y ∷ ys) all (suc k) x g = each_item P ys all.1 k x g

pub all_items : {A : Type 0} (P : A → Type 0) (xs : List A) → AllByRecursion P xs → All P xs
all_items P [] all k d l = absurd (omega (arith, l))
all_items P (y ∷ ys) all zero d l = all.0
all_items P (y ∷ ys) all (suc k) d l = all_items P ys all.1 k d (omega (arith, l))

-- a test that all items pass
pub passing : {A : Type 0} (test : A → Bool) (P : A → Type 0) → ((x : A) → test x ≡ true → P x) → (xs : List A) → list_all test xs ≡ true
    → AllByRecursion P xs
passing test P h [] e = tt
passing test P h (x ∷ xs) e = let b = and_parts (test x) (list_all test xs) e in (h x b.0, passing test P h xs b.1)

-- each item and each later one
abbrev pub EachPair : {A : Type 0} → (A → A → Type 0) → List A → Type 0
EachPair R [] = ⊤
EachPair R (x ∷ xs) = AllByRecursion (R x) xs × EachPair R xs

pub all_pairs : {A : Type 0} (R : A → A → Type 0) (xs : List A) → EachPair R xs → AllPairs R xs
all_pairs R [] each i j d l m = absurd (omega (arith, m))
all_pairs R (x ∷ xs) each zero zero d l m = absurd (omega (arith, l))
all_pairs R (x ∷ xs) each zero (suc j) d l m = all_items (R x) xs each.0 j d (omega (arith, m))
all_pairs R (x ∷ xs) each (suc i) zero d l m = absurd (omega (arith, l))
all_pairs R (x ∷ xs) each (suc i) (suc j) d l m = all_pairs R xs each.1 i j d (omega (arith, l)) (omega (arith, m))
