-- The cells of a table that were seen, one more at a time, by what names them.
use Rattle.script_draft.proofs.Common.{◌≡◌, ℕ, ◌+◌, ◌<◌, ◌≤◌, List, [], ◌∷◌, ◌++◌, length, take, get_or, Bool, true, false, cond, refl, sym}
use Rattle.script_draft.proofs.Common.{ap, subst, ◌∙◌, arith, bytes_eq, Bor, has_repeat, same_cell, CellValueText}
use Rattle.std.proofs.{Common.map, lemmas.List.take_more, lemmas.List.map-append}
use Rattle.std.specs.{Prelude.◌&&◌, Prelude.nat_eq, Prelude.not, List.list_any}
use Rattle.note_draft.proofs.RepeatLaws.{AreNewBelow, AreNewBelow-next, has_repeat-some}

-- what names a cell
abbrev pub key_of : CellValueText → ℕ × List ℕ
key_of c = (c.instance, c.field)

-- what a key shows
abbrev pub shown_key : ℕ × Bor (List ℕ) → ℕ × List ℕ
shown_key k = (k.0, k.1.now)

-- what names cells that were seen
abbrev pub shown : List (ℕ × Bor (List ℕ)) → List (ℕ × List ℕ)
shown keys = map shown_key keys

-- the cells below a number were seen, each once
pub record AreSeen (cells : List CellValueText) (number : ℕ) (keys : List (ℕ × Bor (List ℕ))) : Type 0 where
  pub so_far : shown keys ≡ map key_of (take number cells)
  pub are_new : AreNewBelow same_cell cells number

from_not : (b : Bool) → not b ≡ true → b ≡ false
from_not true e = sym e
from_not false e = refl

to_not : (b : Bool) → not b ≡ false → b ≡ true
to_not true e = refl
to_not false e = sym e

module _ (eq : ℕ × Bor (List ℕ) → ℕ × Bor (List ℕ) → Bool) (is_eq : (k l : ℕ × Bor (List ℕ))
    → eq k l ≡ (nat_eq k.0 l.0 && bytes_eq k.1.now l.1.now)) (x : CellValueText) (y : ℕ × Bor (List ℕ))
    (shows : shown_key y ≡ key_of x) where
  seen-any : (keys : List (ℕ × Bor (List ℕ))) (cells : List CellValueText) → shown keys ≡ map key_of cells
      → list_any (eq y) keys ≡ list_any (same_cell x) cells
  seen-any [] [] h = refl
  seen-any [] (c ∷ cs) h = cc h
  seen-any (k ∷ ks) [] h = cc h
  seen-any (k ∷ ks) (c ∷ cs) h =
      let same : shown_key k ≡ key_of c = cc h in
      let a : k.0 ≡ c.instance = ap (λ (z : ℕ × List ℕ). z.0) same in
      let b : k.1.now ≡ c.field = ap (λ (z : ℕ × List ℕ). z.1) same in
      let d : y.0 ≡ x.instance = ap (λ (z : ℕ × List ℕ). z.0) shows in
      let e : y.1.now ≡ x.field = ap (λ (z : ℕ × List ℕ). z.1) shows in
      let t : shown ks ≡ map key_of cs = cc h in
      rw (is_eq y k, a, b, d, e, seen-any ks cs t) refl

  module _ (cells : List CellValueText) (number : ℕ) (keys : List (ℕ × Bor (List ℕ))) (within : number < length cells)
      (is : x ≡ get_or cells number x) (before : AreSeen cells number keys) (new : Bool) (tells : new ≡ not (list_any (eq y) keys)) where
    any-before : list_any (eq y) keys ≡ list_any (same_cell x) (take number cells)
    any-before = seen-any keys (take number cells) before.so_far

    pub AreSeen-repeat : new ≡ false → has_repeat same_cell cells ≡ true
    AreSeen-repeat not_new =
        let present : list_any (eq y) keys ≡ true = to_not _ (sym tells ∙ not_new) in
        has_repeat-some same_cell cells number x within is before.are_new (sym any-before ∙ present)

    pub AreSeen-more : (after : List (ℕ × Bor (List ℕ))) → new ≡ true → after ≡ cond (list_any (eq y) keys) keys (keys ++ y ∷ [])
        → AreSeen cells (number + 1) after
    AreSeen-more after is_new added =
        let absent : list_any (eq y) keys ≡ false = from_not _ (sym tells ∙ is_new) in
        let grown : after ≡ keys ++ y ∷ [] = subst (λ b. after ≡ cond b keys (keys ++ y ∷ [])) absent added in
        let one : take (number + 1) cells ≡ take number cells ++ x ∷ [] = take_more cells number x within
        ∙ ap (λ z. take number cells ++ z ∷ []) (sym is) in
        record {
          so_far = rw (
            grown,
            one,
            map-append shown_key keys (y ∷ []),
            map-append key_of (take number cells) (x ∷ []),
            before.so_far,
            shows,
          ) refl;
          are_new = AreNewBelow-next same_cell cells number x within is before.are_new (sym any-before ∙ absent);
        }
