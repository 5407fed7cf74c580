-- The map of the first thing at each place, made from the last thing to the first; and places as numbers of either kind.
use Rattle.std.proofs.Common.{◌≡◌, ℕ, ℤ, List, ◌<◌, ◌+◌, length, pos, position, drop, get_or, cond, Option, None, Some, Bool, suc}
use Rattle.std.proofs.Common.{ap, sym, ◌∙◌, refl, arith, nat_eq, Decides}
use Rattle.std.specs.List.{position_from}
use Rattle.std.specs.Ordering.{int_eq, int_cmp}
use Rattle.std.specs.BTreeMap.{BTreeMap, get, Updates, IsEmpty}
use Rattle.std.specs.Prelude.{IfSome}
use Rattle.std.proofs.lemmas.Bool.Decides.{Decides-int_eq, Decides-eqb, same_from_decides}
use Rattle.std.proofs.lemmas.Iterator.Adapters.{position_from-zero}
use Rattle.std.proofs.Math.Seq.{drop-cons}
use Rattle.std.proofs.Math.Seq.{drop-length}
use Rattle.note_types.specs.Places.{AreFirsts}

-- two places are one exactly where they are as signed numbers
pub same_place : (a b : ℕ) → int_eq (pos a) (pos b) ≡ nat_eq a b
same_place a b = same_from_decides (int_eq (pos a) (pos b)) (nat_eq a b) (Decides-int_eq (pos a) (pos b)) numbers
  where
    same : pos a ≡ pos b → a ≡ b
    same e = cc

    numbers : Decides (nat_eq a b) (pos a ≡ pos b)
    numbers = (λ h. ap pos ((Decides-eqb a b).0 h), λ h. (Decides-eqb a b).1 (same h))

-- at the end of the list nothing is left
pub no_firsts : {X : Type 0} (place_of : X → ℕ) (things : List X) (firsts : BTreeMap ℤ ℕ)
    → IsEmpty firsts → AreFirsts place_of things (length things) firsts
no_firsts place_of things firsts empty place = rw (drop-length things, empty) refl

-- the thing before it comes first at its place
pub with_first : {X : Type 0} (place_of : X → ℕ) (things : List X) (from number : ℕ) (d : X) (key : ℤ) (old new : BTreeMap ℤ ℕ)
    → number < length things → from ≡ number + 1 → key ≡ pos (place_of (get_or things number d)) → AreFirsts place_of things from old
    → Updates int_cmp old new key (Some number) → AreFirsts place_of things number new
with_first place_of things from number d key old new within next at firsts updates place =
    let same : number + 1 ≡ suc number = omega arith in
    let later : get int_cmp old place ≡ position_from (λ x. int_eq (pos (place_of x)) place) (number + 1) (drop (suc number) things) =
    firsts place ∙ ap (λ k. position_from (λ x. int_eq (pos (place_of x)) place) k (drop k things)) next
    ∙ ap (λ k. position_from (λ x. int_eq (pos (place_of x)) place) (number + 1) (drop k things)) same in
    rw (drop-cons things number d within)
    (updates.0 place ∙ ap (λ k. cond (int_eq k place) (Some number) (get int_cmp old place)) at
    ∙ ap (λ w. cond (int_eq (pos (place_of (get_or things number d))) place) (Some number) w) later)

-- what the map has at a place is the number of the first thing there
pub first_number : {X : Type 0} (place_of : X → ℕ) (things : List X) (firsts : BTreeMap ℤ ℕ) (place : ℤ)
    → AreFirsts place_of things 0 firsts → get int_cmp firsts place ≡ position (λ x. int_eq (pos (place_of x)) place) things
first_number place_of things firsts place are = are place ∙ sym (position_from-zero (λ x. int_eq (pos (place_of x)) place) things)

-- and so it is a number of the list
pub number_within : {X : Type 0} (test : X → Bool) (things : List X) (number : Option ℕ)
    → number ≡ position test things → IfSome number (λ n. n < length things)
number_within test things None e = tt
number_within test things (Some n) e = grind (arith, e)
