-- Where a binary search over ascending places ends, the thing at a place stands or none does.
use Rattle.std.proofs.Common.{◌≡◌, ℕ, ◌+◌, ◌<◌, ◌≤◌, Bool, true, false, nat_eq, List, [], ◌∷◌, length, map, None, Some, refl, arith, sym}
use Rattle.std.proofs.Common.{ap, ◌∙◌, ⊎_elim, cond, get_or, ltb}
use Rattle.std.specs.Prelude.{nat_lt}
use Rattle.std.specs.List.{position_or_len}
use Rattle.std.specs.List.Sorted.{IsNonDecreasingBy, IsPartitionPoint, IsPartitionedBy, IsStrictlyIncreasing}
use Rattle.std.proofs.lemmas.Bool.{cases_lt, ltb-false, ltb-true}
use Rattle.std.proofs.lemmas.List.{get_or-map, get_or_default, length-map}
use Rattle.std.proofs.lemmas.List.Sorted.{IsNonDecreasingBy-from_all_adjacent, IsPartitionedBy-ltb}
use Rattle.std.proofs.lemmas.List.Sums.{position_or_len_is}
use Rattle.rules_flow.specs.Found.{is_at, number_at}

module _ {A : Type 0} (place_of : A → ℕ) (xs : List A) where
  places_rise : IsStrictlyIncreasing (map place_of xs) → IsNonDecreasingBy place_of xs
  places_rise up =
      IsNonDecreasingBy-from_all_adjacent place_of xs (λ k d within.
      let l = length-map xs place_of in
      let here = get_or-map place_of xs k d 0 (omega arith) in
      let there = get_or-map place_of xs (k + 1) d 0 within in
      let less = up k (omega arith) in omega arith)

  pub parts : (t : ℕ) → IsStrictlyIncreasing (map place_of xs) → IsPartitionedBy (λ x. ltb (place_of x) t) xs
  parts t up = IsPartitionedBy-ltb place_of xs t (places_rise up)

  -- the things before number k are before a place, and the others aren't
  abbrev pub Begins : ℕ → ℕ → Type 0
  Begins t k = IsPartitionPoint (λ x. ltb (place_of x) t ≡ true) (λ x. ltb (place_of x) t ≡ false) xs k

  other_place : (a t : ℕ) → (a ≡ t → ⊥) → nat_eq a t ≡ false
  other_place a t other = grind arith

  same_place : (a t : ℕ) → a ≡ t → nat_eq a t ≡ true
  same_place a t same = grind arith

  -- where the first thing at a place has number n, or n is past the last
  position_at : (t n : ℕ) (b : Bool) → position_or_len (is_at place_of t) xs ≡ n → nat_lt n (length xs) ≡ b
      → number_at place_of xs t ≡ cond b (Some n) None
  unfolding number_at
  position_at t n b e h = rw e (rw h refl)

  before_it : (t k j : ℕ) (d : A) → Begins t k → j < k → nat_eq (place_of (get_or xs j d)) t ≡ false
  before_it t k j d begins less =
      let below = ltb-true _ _ (begins.0 j d (omega arith) less) in
      other_place (place_of (get_or xs j d)) t (λ e. omega arith)

  -- no thing is at the place
  none_at : (t : ℕ) → ((j : ℕ) (d : A) → j < length xs → nat_eq (place_of (get_or xs j d)) t ≡ false) → (d : A)
      → None ≡ number_at place_of xs t
  none_at t each d =
      sym (position_at t (length xs) false
      (position_or_len_is (is_at place_of t) xs (length xs) d (omega arith) (λ j less. each j d less) (λ h. absurd (omega arith)))
      (grind arith))

  ends : (t k : ℕ) (d : A) → length xs ≤ k → Begins t k → None ≡ number_at place_of xs t
  ends t k d past begins = none_at t (λ j e less. before_it t k j e begins (omega arith)) d

  pub found : (t k : ℕ) (d : A) → k < length xs → Begins t k → place_of (get_or xs k d) ≡ t → Some k ≡ number_at place_of xs t
  found t k d within begins same =
      sym (position_at t k true
      (position_or_len_is (is_at place_of t) xs k d (omega arith) (λ j less. before_it t k j d begins less) (λ h. same_place _ t same))
      (grind arith))

  pub missed : (t k : ℕ) (d : A) → k < length xs → IsStrictlyIncreasing (map place_of xs) → Begins t k → (place_of (get_or xs k d) ≡ t → ⊥)
      → None ≡ number_at place_of xs t
  missed t k d within up begins other =
      let least = ltb-false _ _ (begins.1 k d (omega arith) within) in
      none_at t (λ j e less.
      ⊎_elim (λ h. before_it t k j e begins h) (λ h.
      let rise = places_rise up k j d h less in
      let here : get_or xs j e ≡ get_or xs j d = get_or_default xs j e d less in
      other_place (place_of (get_or xs j e)) t (λ same. other (let at : place_of (get_or xs j d) ≡ t = ap place_of (sym here) ∙ same in
      omega arith)))
      (cases_lt j k)) d

pub at_the_end : {A : Type 0} (place_of : A → ℕ) (xs : List A) (t k : ℕ) → length xs ≤ k → Begins place_of xs t k
    → None ≡ number_at place_of xs t
unfolding number_at
at_the_end place_of [] t k past begins = refl
at_the_end place_of (x ∷ xs) t k past begins = ends place_of (x ∷ xs) t k x past begins
