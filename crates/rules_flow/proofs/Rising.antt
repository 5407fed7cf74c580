-- Numbers that ascend, one at a time.
use Rattle.std.proofs.Common.{◌≡◌, ℕ, zero, suc, ◌+◌, ◌<◌, List, [], ◌∷◌, length, arith, refl, subst, sym, ap, ◌-◌, ◌≤◌, ◌↔◌, take, drop}
use Rattle.std.proofs.Common.{get_or, map, Bool, false}
use Rattle.std.specs.Prelude.{slice_index, IsTrue}
use Rattle.std.proofs.lemmas.Bool.{false≢true}
use Rattle.std.proofs.lemmas.List.{take_all}
use Rattle.std.specs.List.Sorted.{IsStrictlyIncreasing}

further : (a : ℕ) (xs : List ℕ) (k : ℕ) → slice_index (a ∷ xs) (suc k + 1) ≡ slice_index xs (k + 1)
further a xs k = let e : suc k + 1 ≡ suc (k + 1) = omega arith in rw e refl

pub rising_more : (a b : ℕ) (xs : List ℕ) → a < b → IsStrictlyIncreasing (b ∷ xs) → IsStrictlyIncreasing (a ∷ b ∷ xs)
rising_more a b xs h g zero within = h
rising_more a b xs h g (suc k) within =
    let P : ℕ → Type 0 = λ z. slice_index (b ∷ xs) k < z in subst P (sym (further a (b ∷ xs) k)) (g k (omega arith))

pub rising_less : (a b : ℕ) (xs : List ℕ) → IsStrictlyIncreasing (a ∷ b ∷ xs) → IsStrictlyIncreasing (b ∷ xs)
rising_less a b xs h k within =
    let P : ℕ → Type 0 = λ z. slice_index (b ∷ xs) k < z in subst P (further a (b ∷ xs) k) (h (suc k) (omega arith))

-- ---- places that ascend

rest_is : {A : Type 0} (x : A) (xs : List A) → take (length (x ∷ xs) - 1) (drop 1 (x ∷ xs)) ≡ xs
rest_is x xs = take_all (length (x ∷ xs) - 1) xs (omega arith)

pub rise_step : {A : Type 0} (p : A → ℕ) (R : Type 0) (xs : List A) (x y : A) → 1 ≤ length xs
    → 1 ≤ length (take (length xs - 1) (drop 1 xs)) → x ≡ get_or xs 0 x → y ≡ get_or (take (length xs - 1) (drop 1 xs)) 0 y → p x < p y → R
    ↔ IsStrictlyIncreasing (map p (take (length xs - 1) (drop 1 xs))) → R ↔ IsStrictlyIncreasing (map p xs)
rise_step p R [] x y h i e f l r = absurd (omega arith)
rise_step {A} p R (a ∷ xs) x y h i e f l r =
    let same = rest_is a xs in
    step xs (subst (λ (zs : List A). 1 ≤ length zs) same i) (subst (λ (zs : List A). y ≡ get_or zs 0 y) same f)
    (subst (λ (zs : List A). R ↔ IsStrictlyIncreasing (map p zs)) same r) where
      step : (xs : List A) → 1 ≤ length xs → y ≡ get_or xs 0 y → R ↔ IsStrictlyIncreasing (map p xs) → R
          ↔ IsStrictlyIncreasing (map p (a ∷ xs))
      step [] i f r = absurd (omega arith)
      step (b ∷ xs) i f r =
          let less : p a < p b = let q : p x ≡ p a = ap p e in let s : p y ≡ p b = ap p f in omega arith in
          (λ k. rising_more (p a) (p b) (map p xs) less (r.0 k), λ k. r.1 (rising_less (p a) (p b) (map p xs) k))

-- ---- answers

-- a test that fails where something else needs it
pub fails_with : (A B : Type 0) (b : Bool) → IsTrue b ↔ B → (A → B) → b ≡ false → (IsTrue false → A) × (A → IsTrue false)
fails_with A B b i needs e = (λ t. absurd (false≢true t), λ a. subst IsTrue e (i.1 (needs a)))

-- a test for lists that are the same
pub same_list : {A : Type 0} (p : A → ℕ) (R : Type 0) (xs ys : List A) → xs ≡ ys → R ↔ IsStrictlyIncreasing (map p xs) → R
    ↔ IsStrictlyIncreasing (map p ys)
same_list p R xs ys e h = subst (λ zs. R ↔ IsStrictlyIncreasing (map p zs)) e h
