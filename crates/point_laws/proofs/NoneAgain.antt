-- Lists: what holds of each item; and those in which a search finds nothing: no item fails a test, stands there again or descends.
use Rattle.point_laws.proofs.Common.{All, ap, map, not, suc, sym, take, true, zero, [], ℕ, ◌+◌, ◌-◌, ◌<◌, ◌∙◌, ◌∷◌, ◌≡◌, ◌≤◌}
use Rattle.point_laws.proofs.Common.{AllByRecursion, AllPairs, first_descent-none, first_repeat-none, IsStrictlyIncreasing, position_or_len}
use Rattle.point_laws.proofs.Common.{AllPairs-from_increasing, get_or-range_with_len, get_or_from_slice_get, length-range_with_len, repeats}
use Rattle.point_laws.proofs.Common.{and_parts, cond_both, each_first, each_rest, get_or-map, length-map, nat_tests, repeats-at, slice_get}
use Rattle.point_laws.proofs.Common.{arith, Bool, Each, false, filter, get_or, le-ltb, length, List, list_all, None, position, refl, Some}
use Rattle.point_laws.proofs.Common.{first_descent, first_repeat, get_or-take, length-take-le, list_any_none, range_with_len, within_some}

-- ---- each item

pub each_of : {A : Type 0} (P Q : A → Type 0) (xs : List A) → ((x : A) → P x → Q x) → AllByRecursion P xs → AllByRecursion Q xs
each_of P Q [] f h = tt
each_of P Q (x ∷ xs) f h = (f x h.0, each_of P Q xs f h.1)

pub all_map : {A B : Type 0} (P : B → Type 0) (f : A → B) (xs : List A) → AllByRecursion (λ x. P (f x)) xs → AllByRecursion P (map f xs)
all_map P f [] h = tt
all_map P f (x ∷ xs) h = (h.0, all_map P f xs h.1)

pub all_of : {A : Type 0} (P : A → Type 0) (xs : List A) → ((x : A) → P x) → AllByRecursion P xs
all_of P [] h = tt
all_of P (x ∷ xs) h = (h x, all_of P xs h)

-- what holds of each by its number
pub all_each : {A : Type 0} (P : A → Type 0) (xs : List A) → Each P xs → AllByRecursion P xs
all_each P [] h = tt
all_each P (x ∷ xs) h = (each_first P x xs h, all_each P xs (each_rest P x xs h))

-- what holds of each that passes
pub all_kept : (P : ℕ → Type 0) (p : ℕ → Bool) (xs : List ℕ) → AllByRecursion (λ x. p x ≡ true → P x) xs → AllByRecursion P (filter p xs)
all_kept P p [] h = tt
all_kept P p (x ∷ xs) h =
    let rest : AllByRecursion P (filter p xs) = all_kept P p xs h.1 in
    cond_both (p x) (x ∷ filter p xs) (filter p xs) (AllByRecursion P) (λ e. (h.0 e, rest)) (λ e. rest)

-- and of each of some numbers
pub all_range : (P : ℕ → Type 0) (a n : ℕ) → ((r : ℕ) → a ≤ r → r < a + n → P r) → AllByRecursion P (range_with_len a n)
all_range P a zero h = tt
all_range P a (suc n) h = (h a (omega arith) (omega arith), all_range P (a + 1) n (λ r low high. h r (omega arith) (omega arith)))

pub map_same : {A B : Type 0} (f g : A → B) (xs : List A) → AllByRecursion (λ x. f x ≡ g x) xs → map f xs ≡ map g xs
map_same f g [] h = refl
map_same f g (x ∷ xs) h = rw (h.0, map_same f g xs h.1) refl

-- ---- tests

-- the test passes for each item, seen by f
abbrev pub AllBy : {A B : Type 0} → (B → Bool) → (A → B) → List A → Type 0
AllBy p f xs = AllByRecursion (λ x. p (f x) ≡ true) xs

-- the test fails for each item, seen by f
abbrev pub NoneBy : {A B : Type 0} → (B → Bool) → (A → B) → List A → Type 0
NoneBy q f xs = AllByRecursion (λ x. q (f x) ≡ false) xs

nowhere : {A B : Type 0} (q : B → Bool) (f : A → B) (xs : List A) → NoneBy q f xs → position_or_len q (map f xs) ≡ length (map f xs)
nowhere q f [] h = refl
nowhere q f (x ∷ xs) h = rw (h.0, nowhere q f xs h.1) (omega arith)

pub none_passes : {A B : Type 0} (q : B → Bool) (f : A → B) (xs : List A) → NoneBy q f xs → position q (map f xs) ≡ None
none_passes q f xs h = rw (nowhere q f xs h, le-ltb (length (map f xs)) (length (map f xs)) (omega arith)) refl

pub none_fails : {A B : Type 0} (p : B → Bool) (f : A → B) (xs : List A) → AllBy p f xs → position (λ x. not (p x)) (map f xs) ≡ None
none_fails p f xs h = none_passes (λ x. not (p x)) f xs (each_of (λ x. p (f x) ≡ true) (λ x. not (p (f x)) ≡ false) xs (λ x e. ap not e) h)

-- a test that passes where another does passes for each item where that does
pub all_so : {A : Type 0} (p q : A → Bool) → ((x : A) → p x ≡ true → q x ≡ true) → (xs : List A) → list_all p xs ≡ true
    → list_all q xs ≡ true
all_so p q so [] h = refl
all_so p q so (x ∷ xs) h = let both = and_parts (p x) (list_all p xs) h in rw (so x both.0, all_so p q so xs both.1) refl

pub all_pass : {A B : Type 0} (p : B → Bool) (f : A → B) (xs : List A) → AllBy p f xs → list_all p (map f xs) ≡ true
all_pass p f [] h = refl
all_pass p f (x ∷ xs) h = rw (h.0, all_pass p f xs h.1) refl

-- ---- repeats

-- where the items' numbers ascend, none is the same as an earlier one
pub none_again : {A : Type 0} (key : A → ℕ) (same : A → A → Bool) (xs : List A) → ((x y : A) → same x y ≡ true → key x ≡ key y)
    → IsStrictlyIncreasing (map key xs) → first_repeat same xs ≡ None
none_again {A} key same xs alike up = first_repeat-none same xs new
  where
    pairs : AllPairs (λ x y. x < y) (map key xs)
    pairs = AllPairs-from_increasing (map key xs) up

    other : (k : ℕ) (x : A) → slice_get xs k ≡ Some x → k < length xs → All (λ y. same x y ≡ false) (take k xs)
    other k x at within i e low =
        let long : length (take k xs) ≡ k = length-take-le k xs (omega arith) in
        let y = get_or xs i e in
        let below = pairs i k (key x) (omega arith) (let n = length-map xs key in omega arith) in
        let first : get_or (map key xs) i (key x) ≡ key y = get_or-map key xs i e (key x) (omega arith) in
        let second : get_or (map key xs) k (key x) ≡ key x = get_or-map key xs k x (key x) within
        ∙ ap key (get_or_from_slice_get xs k x x at) in
        ap (same x) (get_or-take k xs i e (omega arith)) ∙ grind (arith, alike x y)

    new : (k : ℕ) → k < length xs → repeats same xs k ≡ false
    new k within =
        let x = within_some xs k within in
        repeats-at same xs k x.0 within (sym (get_or_from_slice_get xs k x.0 x.0 x.1))
        ∙ list_any_none (same x.0) (take k xs) (other k x.0 x.1 within)

-- where they ascend, none descends
pub none_descends : {A : Type 0} (key : A → ℕ) (xs : List A) → IsStrictlyIncreasing (map key xs) → first_descent (map key xs) ≡ None
none_descends key xs up =
    first_descent-none key xs (length xs) (omega arith)
    (λ k low high.
    let n = length-map xs key in
    let e : k - 1 + 1 ≡ k = omega arith in
    let below : get_or (map key xs) (k - 1) 0 < get_or (map key xs) (k - 1 + 1) 0 = up (k - 1) (omega arith) in
    let step : get_or (map key xs) (k - 1 + 1) 0 ≡ get_or (map key xs) k 0 = ap (λ i. get_or (map key xs) i 0) e in
    grind (arith, nat_tests))

-- numbers one after the other ascend
pub range_up : (a n : ℕ) → IsStrictlyIncreasing (range_with_len a n)
range_up a n k h =
    let long = length-range_with_len a n in
    let first : get_or (range_with_len a n) k 0 ≡ a + k = get_or-range_with_len a n k 0 (omega arith) in
    let second : get_or (range_with_len a n) (k + 1) 0 ≡ a + (k + 1) = get_or-range_with_len a n (k + 1) 0 (omega arith) in
    omega arith
