-- The first thing of which a rule doesn't hold, where all before it were tried.
use Rattle.std.proofs.Common.{◌≡◌, ℕ, ◌+◌, ◌<◌, ◌≤◌, List, length, get_or, refl, sym, subst, ◌∙◌, ⊎_elim, arith}
use Rattle.std.specs.Prelude.{Some, slice_get}
use Rattle.std.proofs.lemmas.Bool.{cases_lt}
use Rattle.std.proofs.lemmas.Option.{same_Some, slice_get_read, slice_get_within}
use Rattle.rules_image.specs.Images.{IsFirstFailing}

-- what holds of each thing of a list
abbrev pub HoldsOf : {A : Type 0} → (ℕ → A → Type 0) → List A → ℕ → Type 0
HoldsOf {A} P xs k = (x : A) → slice_get xs k ≡ Some x → P k x

module _ {A : Type 0} (P : ℕ → A → Type 0) (xs : List A) (n : ℕ) (x : A) (within : n < length xs) (at : x ≡ get_or xs n x) where
  pub item_there : slice_get xs n ≡ Some x
  item_there = slice_get_read xs (length xs) n x refl within at

  pub holds_there : P n x → HoldsOf P xs n
  holds_there h y there = subst (P n) (same_Some x y (sym item_there ∙ there)) h

  pub holds_more : ((k : ℕ) → k < n → HoldsOf P xs k) → P n x → (k : ℕ) → k < n + 1 → HoldsOf P xs k
  holds_more all h k below =
      ⊎_elim (λ before. all k before) (λ above. let same : n ≡ k = omega arith in subst (HoldsOf P xs) same (holds_there h)) (cases_lt k n)

  pub first_failing : ((k : ℕ) → k < n → HoldsOf P xs k) → (P n x → ⊥) → IsFirstFailing (HoldsOf P xs) n
  first_failing all bad = record { fails = λ h. bad (h x item_there); before = all }

pub holds_all : {A : Type 0} (P : ℕ → A → Type 0) (xs : List A) (n : ℕ) → length xs ≤ n → ((k : ℕ) → k < n → HoldsOf P xs k) → (k : ℕ)
    → HoldsOf P xs k
holds_all P xs n past all k x there = all k (let l = slice_get_within xs k x there in omega arith) x there
