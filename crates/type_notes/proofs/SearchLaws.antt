-- Searches over the items of a list, one after the other.
use Rattle.std.proofs.Common.{◌≡◌, ℕ, ◌+◌, ◌≤◌, ◌<◌, List, [], ◌∷◌, length, get_or, Bool, true, false, Some, None, refl, ap, sym, subst}
use Rattle.std.proofs.Common.{◌∙◌, ⊎_elim, arith}
use Rattle.std.proofs.lemmas.Bool.{cases_lt, le-ltb, lt-ltb}
use Rattle.std.proofs.lemmas.List.Sums.{position_or_len_is}
use Rattle.std.proofs.lemmas.Option.{same_Some, slice_get-get_or}
use Rattle.std.specs.Prelude.{slice_get}
use Rattle.std.specs.List.{position, position_or_len}

-- a search whose first place that passes is i
pub position-some : {X : Type 0} (p : X → Bool) (xs : List X) (i : ℕ) (x : X) → i < length xs
    → ((k : ℕ) → k < i → p (get_or xs k x) ≡ false) → p (get_or xs i x) ≡ true → position p xs ≡ Some i
position-some p xs i x within before here =
    let e : position_or_len p xs ≡ i = position_or_len_is p xs i x (omega arith) before (λ _. here) in
    rw (e, lt-ltb i (length xs) within) refl

-- a search where none passes
pub position-none : {X : Type 0} (p : X → Bool) (xs : List X) → ((k : ℕ) (x : X) → k < length xs → p (get_or xs k x) ≡ false)
    → position p xs ≡ None
position-none p [] fails = refl
position-none p (y ∷ ys) fails =
    let xs = y ∷ ys in
    let e : position_or_len p xs ≡ length xs = position_or_len_is p xs (length xs) y (omega arith) (λ k h. fails k y h)
    (λ h. absurd (omega arith)) in
    rw (e, le-ltb (length xs) (length xs) (omega arith)) refl

-- no item below number i passes
abbrev pub NoneBelow : {X : Type 0} → (X → Bool) → List X → ℕ → Type 0
NoneBelow {X} p xs i = (k : ℕ) (x : X) → k < i → slice_get xs k ≡ Some x → p x ≡ false

pub NoneBelow-more : {X : Type 0} (p : X → Bool) (xs : List X) (i : ℕ) (x : X) → i < length xs → x ≡ get_or xs i x → p x ≡ false
    → NoneBelow p xs i → NoneBelow p xs (i + 1)
NoneBelow-more p xs i x within is fails before = λ k y h e.
    ⊎_elim
    (λ below. before k y below e)
    (λ above.
    let same : i ≡ k = omega arith in
    let there : slice_get xs i ≡ Some x = slice_get-get_or xs i x within ∙ ap Some (sym is) in
    let one : x ≡ y = same_Some _ _ (sym there ∙ (ap (slice_get xs) same ∙ e)) in
    subst (λ z. p z ≡ false) one fails)
    (cases_lt k i)

-- the item of number i is the first that passes
pub position-here : {X : Type 0} (p : X → Bool) (xs : List X) (i : ℕ) (x : X) → i < length xs → x ≡ get_or xs i x → p x ≡ true
    → NoneBelow p xs i → position p xs ≡ Some i
position-here p xs i x within is passes before =
    position-some p xs i x within
    (λ k h. before k (get_or xs k x) h (slice_get-get_or xs k x (omega arith)))
    (ap p (sym is) ∙ passes)

-- no item passes
pub position-never : {X : Type 0} (p : X → Bool) (xs : List X) (i : ℕ) → length xs ≤ i → NoneBelow p xs i → position p xs ≡ None
position-never p xs i covers before = position-none p xs (λ k x h. before k (get_or xs k x) (omega arith) (slice_get-get_or xs k x h))
