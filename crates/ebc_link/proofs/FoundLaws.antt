-- What is found is there.
use Rattle.ebc_link.proofs.Common.{◌<◌, ⊎_elim, nat_tests, ◌≡◌, ℕ, zero, suc, ◌%◌, Bool, true, List, [], ◌∷◌, length, Option, Some, None}
use Rattle.ebc_link.proofs.Common.{refl, sym, ap, ◌∙◌, arith, Contains, find, option_or, Symbol, Laid, place_in, first_in, is_definition}
use Rattle.ebc_link.proofs.Common.{entry_in, is_entry, IsEntry}
use Rattle.std.proofs.{lemmas.Bool.cases_Bool, lemmas.Option.same_Some}
use Rattle.ebc_base.proofs.{Given.some_of_map, TableLaws.same_name}

pub further : {X : Type 0} → (y : X) (xs : List X) (x : X) → Contains xs x → Contains (y ∷ xs) x
further y xs x (k, within, is) = (suc k, omega (arith, within), is)

pub first_of_all : {X : Type 0} → (xs : List X) (x : X) → Contains (x ∷ xs) x
first_of_all xs x = (0, omega arith, refl)

-- what a search finds is in the list, and passes the test
pub find_some : {X : Type 0} → (p : X → Bool) (xs : List X) (x : X) → find p xs ≡ Some x → Contains xs x × (p x ≡ true)
find_some p [] x e = absurd cc
find_some p (y ∷ ys) x e = ⊎_elim
    (λ yes. let same : y ≡ x = same_Some y x (rw yes at e) in ((0, omega arith, same), ap p (sym same) ∙ yes))
    (λ other. let there = find_some p ys x (rw other at e) in (further y ys x there.0, there.1))
    (cases_Bool (p y))

pub first_some : {A : Type 0} → (found : Laid → Option A) (ls : List Laid) (x : A) → first_in found ls ≡ Some x
    → (l : Laid) × Contains ls l × (found l ≡ Some x)
unfolding first_in
first_some found [] x e = absurd cc
first_some {A} found (l ∷ ls) x e = by_first (found l) refl e (first_some found ls x)
  where
    by_first : (o : Option A) → found l ≡ o → option_or o (first_in found ls) ≡ Some x
        → (first_in found ls ≡ Some x → (m : Laid) × Contains ls m × (found m ≡ Some x))
        → (m : Laid) × Contains (l ∷ ls) m × (found m ≡ Some x)
    by_first (Some y) has is later = (l, first_of_all ls l, has ∙ is)
    by_first None has is later = let there = later is in (there.0, further l ls there.0 there.1, there.2)

-- nothing found is nothing in any object
pub first_nowhere : {A : Type 0} → (found : Laid → Option A) (ls : List Laid) (l : Laid) → first_in found ls ≡ None → Contains ls l
    → found l ≡ None
unfolding first_in
first_nowhere found [] l e (k, within, is) = absurd (omega (arith, within))
first_nowhere found (m ∷ ls) l e (zero, within, is) = grind arith
first_nowhere found (m ∷ ls) l e (suc k, within, is) = first_nowhere found ls l (grind arith) (k, omega (arith, within), is)

-- the place that is found is that of an entry
entry_so : (name : List ℕ) (size : ℕ) (s : Symbol) → is_entry name size s ≡ true
    → (is_definition s ≡ true) × (s.name ≡ name) × (s.kind ≡ 1) × (s.offset % 2 ≡ 0) × (s.offset < size)
entry_so name size s e = grind (arith, nat_tests, same_name)

pub entry_is : (ls : List Laid) (name : List ℕ) (x : ℕ) → first_in (entry_in name) ls ≡ Some x → IsEntry ls name x
entry_is ls name x e =
    let object = first_some (entry_in name) ls x e in
    let l : Laid = object.0 in
    let passes : Symbol → Bool = is_entry name (length l.object.code) in
    let named = some_of_map (λ (s : Symbol). place_in l.home 1 s.offset) (find passes l.object.symbols) x object.2 in
    let there = find_some passes l.object.symbols named.0 named.1 in
    let so = entry_so name (length l.object.code) named.0 there.1 in
    (l, named.0, object.1, there.0, so.0, so.1, so.2, so.3, so.4, sym named.2)
