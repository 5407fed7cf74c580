-- Laws of the first function at a place, and of the first one there that the firmware enters.
use Rattle.native_host.proofs.Common.{◌≡◌, ℕ, zero, suc, List, [], ◌∷◌, Bool, true, false, ◌&&◌, None, Some, refl, sym, ap, ap₂}
use Rattle.native_host.proofs.Common.{◌∙◌, arith, nat_eq, get_or, FnNote}
use Rattle.std.proofs.Common.{ℤ, pos, position}
use Rattle.std.specs.{Ordering.int_eq}
use Rattle.std.proofs.lemmas.List.Quantifiers.{position-Some}
use Rattle.note_types.proofs.PlaceLaws.{same_place}

-- ---- a second test, which passes nothing that the first one fails

first_stays : {X : Type 0} (p q : X → Bool) (xs : List X) (n : ℕ) (d : X) → ((x : X) → p x ≡ false → q x ≡ false)
    → position p xs ≡ Some n → q (get_or xs n d) ≡ true → position q xs ≡ Some n
first_stays p q [] n d fails e passes = grind (arith, e)
first_stays p q (x ∷ xs) zero d fails e passes = grind (arith, e, passes, fails x)
first_stays p q (x ∷ xs) (suc n) d fails e passes = grind (arith, first_stays p q xs n d fails, e, passes, fails x)

nowhere_stays : {X : Type 0} (p q : X → Bool) (xs : List X) → ((x : X) → p x ≡ false → q x ≡ false)
    → position p xs ≡ None → position q xs ≡ None
nowhere_stays p q [] fails e = refl
nowhere_stays p q (x ∷ xs) fails e = grind (arith, nowhere_stays p q xs fails, e, fails x)

-- ---- places

elsewhere : (place : ℕ) (f : FnNote) → int_eq (pos f.place) (pos place) ≡ false → (nat_eq f.place place && f.enter) ≡ false
elsewhere place f e = grind (arith, e, same_place f.place place)

-- the first function at a place, where the firmware enters it
pub entered_first : (functions : List FnNote) (place n : ℕ) (at : ℤ) (d : FnNote)
    → Some n ≡ position (λ (f : FnNote). int_eq (pos f.place) at) functions → at ≡ pos place → (get_or functions n d).enter ≡ true
    → Some n ≡ position (λ (f : FnNote). nat_eq f.place place && f.enter) functions
entered_first functions place n at d e same enters =
    let first : position (λ (f : FnNote). int_eq (pos f.place) (pos place)) functions ≡ Some n =
    ap (λ z. position (λ (f : FnNote). int_eq (pos f.place) z) functions) (sym same) ∙ sym e in
    let there : int_eq (pos (get_or functions n d).place) (pos place) ≡ true =
    (position-Some (λ (f : FnNote). int_eq (pos f.place) (pos place)) functions n d first).1 in
    let named : nat_eq (get_or functions n d).place place ≡ true = sym (same_place (get_or functions n d).place place) ∙ there in
    sym (first_stays _ (λ (f : FnNote). nat_eq f.place place && f.enter) functions n d (elsewhere place) first
    (ap₂ (λ b c. b && c) named enters))

-- a place at which no function begins
pub entered_nowhere : (functions : List FnNote) (place : ℕ) (at : ℤ)
    → None ≡ position (λ (f : FnNote). int_eq (pos f.place) at) functions → at ≡ pos place
    → None ≡ position (λ (f : FnNote). nat_eq f.place place && f.enter) functions
entered_nowhere functions place at e same =
    sym (nowhere_stays _ (λ (f : FnNote). nat_eq f.place place && f.enter) functions (elsewhere place)
    (ap (λ z. position (λ (f : FnNote). int_eq (pos f.place) z) functions) (sym same) ∙ sym e))
