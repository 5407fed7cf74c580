-- The first of ascending places that passes a test tells of all of them.
use Rattle.std.proofs.Common.{◌≡◌, ℕ, ◌+◌, ◌≤◌, suc, Bool, true, false, cond, List, [], ◌∷◌, get_or, Some, None, refl, ap, sym, subst}
use Rattle.std.proofs.Common.{◌∙◌, ⊎_elim, arith}
use Rattle.std.specs.Prelude.{◌&&◌, ◌||◌, not, is_some, nat_eq, nat_lt}
use Rattle.std.specs.List.{All, AllPairs, find, list_all, list_any}
use Rattle.std.proofs.lemmas.Bool.{cases_Bool, or_parts}
use Rattle.std.proofs.lemmas.Bool.Decides.{nat_tests}
use Rattle.std.proofs.lemmas.List.Elements.{All-head, All-tail}
use Rattle.std.proofs.lemmas.List.Folds.{list_any_none}
use Rattle.ebc_disasm.specs.Walks.{is_at, is_before, passes_before}

-- the first that passes one of two tests that agree
pub find-same : {X : Type 0} (p q : X → Bool) → ((x : X) → p x ≡ q x) → (xs : List X) → find p xs ≡ find q xs
find-same p q same [] = refl
find-same p q same (x ∷ xs) = rw (same x) (ap (λ r. cond (q x) (Some x) r) (find-same p q same xs))

-- there is a first one where there is any
pub is_some-find : {X : Type 0} (p : X → Bool) (xs : List X) → is_some (find p xs) ≡ list_any p xs
is_some-find p [] = refl
is_some-find p (x ∷ xs) =
    elim (p x) as (λ b. is_some (cond b (Some x) (find p xs)) ≡ (b || list_any p xs)) [ true ↦ refl | false ↦ is_some-find p xs ]

-- what holds of each holds of the first that passes, which passes
pub found : {X : Type 0} (P : X → Type 0) (p : X → Bool) (xs : List X) (x : X) → All P xs → find p xs ≡ Some x → P x × (p x ≡ true)
found P p [] x all e = cc
found P p (y ∷ ys) x all e =
    ⊎_elim
    (λ holds. let same : Some y ≡ Some x = rw holds at e in let xy : y ≡ x = cc in
    (subst P xy (All-head P y ys all), ap p (sym xy) ∙ holds))
    (λ fails_it. let later : find p ys ≡ Some x = rw fails_it at e in found P p ys x (All-tail P y ys all) later)
    (cases_Bool (p y))

-- ---- ascending lists

-- each later one is as the relation says of the first
pub pairs_head : (R : ℕ → ℕ → Type 0) (x : ℕ) (xs : List ℕ) → AllPairs R (x ∷ xs) → All (R x) xs
pairs_head R x xs pairs k d short = pairs 0 (suc k) d (omega arith) (omega arith)

pub pairs_tail : (R : ℕ → ℕ → Type 0) (x : ℕ) (xs : List ℕ) → AllPairs R (x ∷ xs) → AllPairs R xs
pairs_tail R x xs pairs i j d less short = pairs (suc i) (suc j) d (omega arith) (omega arith)

-- none of the later ones lies before an end that the first doesn't lie before
none_before : (p : ℕ → Bool) (end x : ℕ) (xs : List ℕ) → All (λ r. x ≤ r) xs → nat_lt x end ≡ false
    → list_any (λ r. p r && nat_lt r end) xs ≡ false
none_before p end x [] all fails_it = refl
none_before p end x (y ∷ ys) all fails_it =
    let up : x ≤ y = All-head (λ r. x ≤ r) y ys all in
    let past : nat_lt y end ≡ false = grind (arith, nat_tests) in
    let later : list_any (λ r. p r && nat_lt r end) ys ≡ false = none_before p end x ys (All-tail (λ r. x ≤ r) y ys all) fails_it in
    rw past (⊎_elim (λ e. rw e later) (λ e. rw e later) (cases_Bool (p y)))

-- A place that passes a test lies before an end, where the first that passes does.
pub first_before :
    (p : ℕ → Bool) (end : ℕ) (xs : List ℕ) → AllPairs (λ a b. a ≤ b) xs → list_any (λ r. p r && nat_lt r end) xs ≡ is_before end (find p xs)
first_before p end [] up = refl
first_before p end (x ∷ xs) up =
    ⊎_elim
    (λ holds. rw holds (⊎_elim (λ h. rw h refl) (λ h. rw h (none_before p end x xs (pairs_head (λ a b. a ≤ b) x xs up) h))
    (cases_Bool (nat_lt x end))))
    (λ fails_it. rw fails_it (first_before p end xs (pairs_tail (λ a b. a ≤ b) x xs up)))
    (cases_Bool (p x))

-- A place is one of some places, where it is the first that passes a test: one that fails the test is another place, and so is
-- each that follows a passing one which is another.
pub first_at :
    (R : ℕ → ℕ → Type 0) (p : ℕ → Bool) (x : ℕ) (xs : List ℕ) → AllPairs R xs →
    ((r : ℕ) → p r ≡ false → nat_eq x r ≡ false) →
    ((r s : ℕ) → p r ≡ true → nat_eq x r ≡ false → R r s → nat_eq x s ≡ false) →
    list_any (nat_eq x) xs ≡ is_at x (find p xs)
first_at R p x [] pairs fails follows = refl
first_at R p x (y ∷ ys) pairs fails follows =
    ⊎_elim
    (λ holds. rw holds (⊎_elim
    (λ h. rw h refl)
    (λ h. rw h (list_any_none (nat_eq x) ys (λ k d short. follows y (get_or ys k d) holds h (pairs_head R y ys pairs k d short))))
    (cases_Bool (nat_eq x y))))
    (λ fails_it. let other : nat_eq x y ≡ false = fails y fails_it in
    rw (fails_it, other) (first_at R p x ys (pairs_tail R y ys pairs) fails follows))
    (cases_Bool (p y))

-- none of the later ones lies before an end, and so each passes
all_past :
    (p own : ℕ → Bool) (end : ℕ) (xs : List ℕ) → All (λ r. end ≤ r) xs → list_all (λ r. not (p r && nat_lt r end) || own r) xs ≡ true
all_past p own end [] all = refl
all_past p own end (x ∷ xs) all =
    let up : end ≤ x = All-head (λ r. end ≤ r) x xs all in
    let past : nat_lt x end ≡ false = grind (arith, nat_tests) in
    let later : list_all (λ r. not (p r && nat_lt r end) || own r) xs ≡ true = all_past p own end xs (All-tail (λ r. end ≤ r) x xs all) in
    rw past (⊎_elim (λ e. rw e later) (λ e. rw e later) (cases_Bool (p x)))

-- Each place before an end passes a test of its own, where the first does: that test asks it to end there.
pub first_passes :
    (p own : ℕ → Bool) (end : ℕ) (xs : List ℕ) → AllPairs (λ a b. a + 8 ≤ b) xs → ((r : ℕ) → own r ≡ true → r + 8 ≡ end) →
    list_all (λ r. not (p r && nat_lt r end) || own r) xs ≡ passes_before own end (find p xs)
first_passes p own end [] up ends = refl
first_passes p own end (x ∷ xs) up ends =
    let next : All (λ b. x + 8 ≤ b) xs = pairs_head (λ a b. a + 8 ≤ b) x xs up in
    let rest : list_all (λ r. not (p r && nat_lt r end) || own r) xs ≡ passes_before own end (find p xs) =
    first_passes p own end xs (pairs_tail (λ a b. a + 8 ≤ b) x xs up) ends in
    ⊎_elim
    (λ holds. rw holds (⊎_elim
    (λ h. rw h (⊎_elim
    (λ is. let at : x + 8 ≡ end = ends x is in rw is (all_past p own end xs
    (λ k d short. let h : x + 8 ≤ get_or xs k d = next k d short in omega arith)))
    (λ is. rw is refl)
    (cases_Bool (own x))))
    (λ h. let past : end ≤ x = grind (arith, nat_tests) in rw h
    (all_past p own end xs (λ k d short. let g : x + 8 ≤ get_or xs k d = next k d short in omega arith)))
    (cases_Bool (nat_lt x end))))
    (λ fails_it. rw fails_it rest)
    (cases_Bool (p x))

-- The first that passes one test passes another, which no place passes that fails the one.
pub find-other :
    (p q : ℕ → Bool) (xs : List ℕ) (r : ℕ) → ((a : ℕ) → p a ≡ false → q a ≡ false) → find p xs ≡ Some r → q r ≡ true → find q xs ≡ Some r
find-other p q [] r fails e is = cc
find-other p q (x ∷ xs) r fails e is =
    ⊎_elim
    (λ holds. let same : Some x ≡ Some r = rw holds at e in let xr : x ≡ r = cc in let here : q x ≡ true = ap q xr ∙ is in rw here same)
    (λ fails_it. let later : find p xs ≡ Some r = rw fails_it at e in let not_here : q x ≡ false = fails x fails_it in
    rw not_here (find-other p q xs r fails later is))
    (cases_Bool (p x))

-- none passes a test where none passes a wider one
pub find-none : (p q : ℕ → Bool) (xs : List ℕ) → ((a : ℕ) → q a ≡ true → p a ≡ true) → list_any p xs ≡ false → find q xs ≡ None
find-none p q [] wider none = refl
find-none p q (x ∷ xs) wider none =
    let parts = or_parts (p x) (list_any p xs) none in
    ⊎_elim
    (λ holds. let is : p x ≡ true = wider x holds in let isnt : p x ≡ false = parts.0 in cc)
    (λ fails_it. rw fails_it (find-none p q xs wider parts.1))
    (cases_Bool (q x))

-- ---- what is left of places
