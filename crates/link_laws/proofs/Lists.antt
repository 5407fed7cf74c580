-- Lists: what holds of each element, and of a part.
use Rattle.link_laws.proofs.Common.{AllByRecursion, AllPairs, and_parts, cases_order, Contains, get_or_default, list_any-append, nat_tests}
use Rattle.link_laws.proofs.Common.{and_from, eqb-true, filter, get_or, list_all, list_any, nat_eq, or_cases, or_from, or_parts, subst₂, []}
use Rattle.link_laws.proofs.Common.{ap, ℕ, ◌∙◌, ◌∷◌, ◌≡◌, ◌⊎◌}
use Rattle.link_laws.proofs.Common.{arith, Bool, cond, false, find, inl, inr, List, map, None, refl, Some, subst, sym, true, ⊎_elim, ◌++◌}

-- what follows of each element
pub each_of : {A : Type 0} (P Q : A → Type 0) (xs : List A) → ((x : A) → P x → Q x) → AllByRecursion P xs → AllByRecursion Q xs
each_of P Q [] f h = tt
each_of P Q (x ∷ xs) f h = (f x h.0, each_of P Q xs f h.1)

-- what follows of each of two facts
pub each_of_both : {A : Type 0} (P Q R : A → Type 0) (xs : List A) → ((x : A) → P x → Q x → R x) → AllByRecursion P xs → AllByRecursion Q xs
    → AllByRecursion R xs
each_of_both P Q R [] f h g = tt
each_of_both P Q R (x ∷ xs) f h g = (f x h.0 g.0, each_of_both P Q R xs f h.1 g.1)

pub all_of : {A : Type 0} (P : A → Type 0) (xs : List A) → ((x : A) → P x) → AllByRecursion P xs
all_of P [] each = tt
all_of P (x ∷ xs) each = (each x, all_of P xs each)

pub all_map : {A B : Type 0} (P : B → Type 0) (f : A → B) (xs : List A) → AllByRecursion (λ x. P (f x)) xs → AllByRecursion P (map f xs)
all_map P f [] all = tt
all_map P f (x ∷ xs) all = (all.0, all_map P f xs all.1)

-- what holds of all elements holds of those in front and of those behind
pub all_front : {A : Type 0} (P : A → Type 0) (xs ys : List A) → AllByRecursion P (xs ++ ys) → AllByRecursion P xs
all_front P [] ys h = tt
all_front P (x ∷ xs) ys h = (h.0, all_front P xs ys h.1)

pub all_back : {A : Type 0} (P : A → Type 0) (xs ys : List A) → AllByRecursion P (xs ++ ys) → AllByRecursion P ys
all_back P [] ys h = h
all_back P (x ∷ xs) ys h = all_back P xs ys h.1

-- a number among numbers
pub all_at : (P : ℕ → Type 0) (rs : List ℕ) (r : ℕ) → AllByRecursion P rs → list_any (nat_eq r) rs ≡ true → P r
all_at P [] r all here = cc here
all_at P (q ∷ rs) r all here =
    ⊎_elim (λ e. subst P (sym (eqb-true r q e)) all.0) (λ later. all_at P rs r all.1 later) (or_cases (nat_eq r q) _ here)

-- ---- tests of each element

pub all_pass : {A : Type 0} (p : A → Bool) (xs : List A) → AllByRecursion (λ x. p x ≡ true) xs → list_all p xs ≡ true
all_pass p [] all = refl
all_pass p (x ∷ xs) all = and_from _ _ all.0 (all_pass p xs all.1)

pub passes_of : {A : Type 0} (p : A → Bool) (xs : List A) → list_all p xs ≡ true → AllByRecursion (λ x. p x ≡ true) xs
passes_of p [] h = tt
passes_of p (x ∷ xs) h = let q = and_parts (p x) (list_all p xs) h in (q.0, passes_of p xs q.1)

pub fails_of : {A : Type 0} (p : A → Bool) (xs : List A) → list_any p xs ≡ false → AllByRecursion (λ x. p x ≡ false) xs
fails_of p [] h = tt
fails_of p (x ∷ xs) h = let q = or_parts (p x) (list_any p xs) h in (q.0, fails_of p xs q.1)

pub none_passes : {A : Type 0} (p : A → Bool) (xs : List A) → AllByRecursion (λ x. p x ≡ false) xs → list_any p xs ≡ false
none_passes p [] all = refl
none_passes p (x ∷ xs) all = or_from _ _ all.0 (none_passes p xs all.1)

pub none_append : {A : Type 0} (p : A → Bool) (xs ys : List A) → list_any p xs ≡ false → list_any p ys ≡ false
    → list_any p (xs ++ ys) ≡ false
none_append p xs ys h g = list_any-append p xs ys ∙ or_from (list_any p xs) (list_any p ys) h g

pub find_none : {A : Type 0} (p : A → Bool) (xs : List A) → AllByRecursion (λ x. p x ≡ false) xs → find p xs ≡ None
find_none p [] all = refl
find_none p (x ∷ xs) all = ap (λ b. cond b (Some x) (find p xs)) all.0 ∙ find_none p xs all.1

-- what is found is there and passes
pub found_in : (p : ℕ → Bool) (rs : List ℕ) (r : ℕ) → find p rs ≡ Some r → (list_any (nat_eq r) rs ≡ true) × (p r ≡ true)
found_in p [] r e = cc e
found_in p (q ∷ rs) r e = grind (arith, nat_tests, found_in p rs r)

-- ---- what is kept

pub keep_none : {A : Type 0} (p : A → Bool) (xs : List A) → AllByRecursion (λ x. p x ≡ false) xs → filter p xs ≡ []
keep_none p [] all = refl
keep_none p (x ∷ xs) all = rw (all.0) (keep_none p xs all.1)

-- ---- images

pub map_twice : {A B C : Type 0} (f : B → C) (g : A → B) (xs : List A) → map f (map g xs) ≡ map (λ x. f (g x)) xs
map_twice f g [] = refl
map_twice f g (x ∷ xs) = ap (λ ys. f (g x) ∷ ys) (map_twice f g xs)

-- ---- pairs

-- two of a list are one, or stand one behind the other
pub one_or_apart : {A : Type 0} (R : A → A → Type 0) (xs : List A) (x y : A) → AllPairs R xs → Contains xs x → Contains xs y
    → (x ≡ y) ⊎ (R x y ⊎ R y x)
one_or_apart R xs x y pairs first second =
    let there : get_or xs second.0 x ≡ y = get_or_default xs second.0 x y second.1 ∙ second.2 in
    let here : get_or xs first.0 y ≡ x = get_or_default xs first.0 y x first.1 ∙ first.2 in
    ⊎_elim
    (λ same. inl (sym first.2 ∙ (ap (λ k. get_or xs k x) same ∙ there)))
    (λ other. inr (⊎_elim (λ less. inl (subst₂ R first.2 there (pairs first.0 second.0 x less second.1)))
    (λ more. inr (subst₂ R second.2 here (pairs second.0 first.0 y more first.1))) other))
    (cases_order first.0 second.0)
