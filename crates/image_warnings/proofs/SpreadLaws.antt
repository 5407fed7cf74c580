-- How the places are found at which R7 may be as a native call left it: lists of marks and of places that grow.
use Rattle.std.proofs.Common.{◌≡◌, ◌⊎◌, ℕ, zero, suc, ◌+◌, ◌-◌, ◌<◌, ◌≤◌, List, [], ◌∷◌, ◌++◌, length, replicate, refl, sym, ap, subst}
use Rattle.std.proofs.Common.{◌∙◌, inl, inr, ⊎_elim, arith, get_or, slice_get}
use Rattle.std.specs.Prelude.{Bool, true, false, IsTrue, Some, slice_set}
use Rattle.std.specs.List.{Contains}
use Rattle.std.proofs.lemmas.Bool.{cases_lt}
use Rattle.std.proofs.lemmas.List.{append-nil, append_assoc, length-append, length-replicate, length-set}
use Rattle.std.proofs.lemmas.List.Elements.{Contains-append_left, Contains-push, Contains-push_cases}
use Rattle.std.proofs.lemmas.Option.{get_or_from_slice_get, none-some, same_Some, slice_get_read, slice_get_within}
use Rattle.ebc_base.proofs.Lists.{slice_get-append_left, within_some}
use Rattle.note_types.specs.declared.notes.FnNote.{FnNote}
use Rattle.pe_image.specs.declared.image.Image.{Image}
use Rattle.image_warnings.specs.Spreading.{AreUncut, Extends, AreFollowed, IsSpread, IsFollowed, ReachesCalls, unmarked}
use Rattle.image_warnings.specs.Uncut.{UncutAt, Way}
use Rattle.image_warnings.specs.declared.spread.Spread.{Spread}
use Rattle.image_warnings.proofs.UncutLaws.{uncut_closed}

-- ---- places that are reached

pub extends_same : (xs : List ℕ) → Extends xs xs
extends_same xs = ([], sym (append-nil xs))

pub extends_more : (xs ys zs : List ℕ) → Extends xs ys → Extends ys zs → Extends xs zs
extends_more xs ys zs (us, e) (vs, g) = (us ++ vs, g ∙ (ap (λ ws. ws ++ vs) e ∙ append_assoc xs us vs))

pub still_reached : (xs ys : List ℕ) (p : ℕ) → Extends xs ys → Contains xs p → Contains ys p
still_reached xs ys p (zs, e) c = subst (λ ws. Contains ws p) (sym e) (Contains-append_left xs zs p c)

pub extends_length : (xs ys : List ℕ) → Extends xs ys → length xs ≤ length ys
extends_length xs ys (zs, e) = let long : length ys ≡ length xs + length zs = ap length e ∙ length-append xs zs in omega arith

-- what is followed stays so
pub followed_still : (image : Image) (f : FnNote) (way : Way) (count : ℕ) (xs ys : List ℕ) → count ≤ length xs → Extends xs ys
    → AreFollowed image f way count xs → AreFollowed image f way count ys
followed_still image f way count xs ys low (zs, e) followed k p less at q c =
    let within : k < length xs = omega arith in
    let before : slice_get xs k ≡ Some p =
    sym (slice_get-append_left xs zs k within) ∙ (ap (λ ws. slice_get ws k) (sym e) ∙ at) in
    still_reached xs ys q (zs, e) (followed k p less before q c)

-- and one more
pub followed_more : (image : Image) (f : FnNote) (way : Way) (count place : ℕ) (xs ys : List ℕ) → slice_get xs count ≡ Some place
    → Extends xs ys
    → AreFollowed image f way count xs → IsFollowed image f way place ys → AreFollowed image f way (count + 1) ys
followed_more image f way count place xs ys at (zs, e) followed follows k p less there =
    ⊎_elim
    (λ before.
    let inside : count < length xs = slice_get_within xs count place at in
    followed_still image f way count xs ys (omega arith) (zs, e) followed k p before there)
    (λ from.
    let same : k ≡ count = omega arith in
    let old : slice_get ys count ≡ Some place =
    ap (λ ws. slice_get ws count) e ∙ (slice_get-append_left xs zs count (slice_get_within xs count place at) ∙ at) in
    let one : place ≡ p = same_Some place p (sym old ∙ subst (λ j. slice_get ys j ≡ Some p) same there) in
    subst (λ x. IsFollowed image f way x ys) one follows)
    (cases_lt k count)

-- where all places that are reached are followed, all are reached
pub all_reached : (image : Image) (f : FnNote) (way : Way) (count : ℕ) (xs : List ℕ) → length xs ≤ count → ReachesCalls image f way xs
    → AreFollowed image f way count xs → (q : ℕ) → UncutAt image f way q → Contains xs q
all_reached image f way count xs all calls followed q (n, comes) =
    uncut_closed image f way (Contains xs) calls
    (λ p r has c.
    let within : has.0 < length xs = has.1 in
    let at : slice_get xs has.0 ≡ Some p = found xs p has in
    followed has.0 p (omega arith) at r c)
    n q comes
  where
    found : (ys : List ℕ) (p : ℕ) (has : Contains ys p) → slice_get ys has.0 ≡ Some p
    found ys p (k, less, is) =
        let some = within_some ys k less in
        some.1 ∙ ap (λ x. Some x) (sym (get_or_from_slice_get ys k some.0 p some.1) ∙ is)

-- ---- marks

unmarked_none : (n : ℕ) → unmarked (replicate n false) ≡ n
unfolding unmarked
unmarked_none zero = refl
unmarked_none (suc n) = ap suc (unmarked_none n)

-- one mark more
unmarked_set : (marks : List Bool) (k : ℕ) → slice_get marks k ≡ Some false → unmarked (slice_set marks k true) + 1 ≡ unmarked marks
unfolding unmarked
unmarked_set [] k at = absurd (none-some false at)
unmarked_set (true ∷ marks) zero at = absurd cc
unmarked_set (false ∷ marks) zero at = omega arith
unmarked_set (true ∷ marks) (suc k) at = unmarked_set marks k at
unmarked_set (false ∷ marks) (suc k) at = let rest = unmarked_set marks k at in omega arith

-- it is there, and the others are as they were
set_here : (marks : List Bool) (k : ℕ) → k < length marks → slice_get (slice_set marks k true) k ≡ Some true
set_here [] k less = absurd (omega arith)
set_here (b ∷ marks) zero less = refl
set_here (b ∷ marks) (suc k) less = set_here marks k (omega arith)

set_cases : (marks : List Bool) (k m : ℕ) → slice_get (slice_set marks k true) m ≡ Some true → (slice_get marks m ≡ Some true) ⊎ (m ≡ k)
set_cases [] k m at = inl at
set_cases (b ∷ marks) zero zero at = inr refl
set_cases (b ∷ marks) zero (suc m) at = inl at
set_cases (b ∷ marks) (suc k) zero at = inl at
set_cases (b ∷ marks) (suc k) (suc m) at = ⊎_elim (λ p. inl p) (λ e. inr (ap suc e)) (set_cases marks k m at)

set_still : (marks : List Bool) (k m : ℕ) → slice_get marks m ≡ Some true → slice_get (slice_set marks k true) m ≡ Some true
set_still [] k m at = at
set_still (b ∷ marks) zero zero at = refl
set_still (b ∷ marks) zero (suc m) at = at
set_still (b ∷ marks) (suc k) zero at = at
set_still (b ∷ marks) (suc k) (suc m) at = set_still marks k m at

-- ---- both

-- what the mark of a place says
module _ (image : Image) (f : FnNote) (way : Way) (s : Spread) (place : ℕ) (i : IsSpread image f way s) (low : f.place ≤ place)
    (high : place < f.end) where
  pub mark_at : (b : Bool) → b ≡ get_or s.marks.items (place - f.place) b → slice_get s.marks.items (place - f.place) ≡ Some b
  mark_at b e =
      slice_get_read s.marks.items (length s.marks.items) (place - f.place) b refl (let size = i.size in omega arith) e

  pub marked_reached : (b : Bool) → b ≡ get_or s.marks.items (place - f.place) b → b ≡ true → Contains s.reached.items place
  marked_reached b e is =
      let back : f.place + (place - f.place) ≡ place = omega arith in
      subst (Contains s.reached.items) back ((i.marked (place - f.place)).0 (mark_at b e ∙ ap (λ c. Some c) is))

-- nothing is reached
pub spread_none : (image : Image) (f : FnNote) (way : Way) (s : Spread) (n : ℕ) → s.marks.items ≡ replicate n false → n ≡ f.end - f.place
    → s.reached.items ≡ [] → IsSpread image f way s
spread_none image f way s n marks count none = record {
  size = ap length marks ∙ (length-replicate n false ∙ count);
  uncut = λ p c. absurd (no_element p (subst (λ xs. Contains xs p) none c));
  marked = λ k. (
    λ at. absurd (unmarked_all n k (subst (λ ms. slice_get ms k ≡ Some true) marks at)),
    λ c. absurd (no_element (f.place + k) (subst (λ xs. Contains xs (f.place + k)) none c)),
  );
  once = ap (λ ms. unmarked ms + length s.reached.items) marks
      ∙ (ap (λ xs. unmarked (replicate n false) + length xs) none
      ∙ (let all = unmarked_none n in let long : length (replicate n false) ≡ n = length-replicate n false in
      let same : unmarked (replicate n false) + 0 ≡ length (replicate n false) = omega arith in same ∙ ap length (sym marks)));
}
  where
    no_element : (p : ℕ) → Contains [] p → ⊥
    no_element p c = absurd (let h : c.0 < 0 = c.1 in omega arith)

    unmarked_all : (n k : ℕ) → slice_get (replicate n false) k ≡ Some true → ⊥
    unmarked_all zero k at = none-some true at
    unmarked_all (suc n) zero at = absurd cc
    unmarked_all (suc n) (suc k) at = unmarked_all n k at

-- a place is reached that wasn't marked
pub spread_more : (image : Image) (f : FnNote) (way : Way) (s t : Spread) (place : ℕ) → IsSpread image f way s → f.place ≤ place
    → UncutAt image f way place
    → slice_get s.marks.items (place - f.place) ≡ Some false → t.marks.items ≡ slice_set s.marks.items (place - f.place) true
    → t.reached.items ≡ s.reached.items ++ place ∷ [] → IsSpread image f way t
spread_more image f way s t place i low uncut at marks reached =
    let slot : ℕ = place - f.place in
    let within : slot < length s.marks.items = slice_get_within s.marks.items slot false at in
    let back : f.place + slot ≡ place = omega arith in
    let long : length t.marks.items ≡ length s.marks.items = ap length marks ∙ length-set s.marks.items slot true in
    record {
      size = long ∙ i.size;
      uncut = λ p c. ⊎_elim (i.uncut p) (λ e. subst (UncutAt image f way) e uncut)
          (Contains-push_cases s.reached.items place p (subst (λ xs. Contains xs p) reached c));
      marked = λ k. (
        λ is. ⊎_elim
            (λ before. subst (λ xs. Contains xs (f.place + k)) (sym reached)
            (Contains-append_left s.reached.items (place ∷ []) (f.place + k) ((i.marked k).0 before)))
            (λ same. let here : place ≡ f.place + k = omega arith in
            subst (λ xs. Contains xs (f.place + k)) (sym reached)
            (subst (Contains (s.reached.items ++ place ∷ [])) here (Contains-push s.reached.items place)))
            (set_cases s.marks.items slot k (subst (λ ms. slice_get ms k ≡ Some true) marks is)),
        λ c. subst (λ ms. slice_get ms k ≡ Some true) (sym marks)
            (⊎_elim (λ before. set_still s.marks.items slot k ((i.marked k).1 before))
            (λ e. let same : slot ≡ k = omega arith in
            subst (λ j. slice_get (slice_set s.marks.items slot true) j ≡ Some true) same (set_here s.marks.items slot within))
            (Contains-push_cases s.reached.items place (f.place + k) (subst (λ xs. Contains xs (f.place + k)) reached c))),
      );
      once =
          let less : unmarked (slice_set s.marks.items slot true) + 1 ≡ unmarked s.marks.items = unmarked_set s.marks.items slot at in
          let more : length t.reached.items ≡ length s.reached.items + 1 = ap length reached ∙ length-append s.reached.items (place ∷ []) in
          let left : unmarked t.marks.items ≡ unmarked (slice_set s.marks.items slot true) = ap unmarked marks in
          let before = i.once in
          omega arith;
    }

-- the marks say where R7 may be so
pub marks_found : (image : Image) (f : FnNote) (way : Way) (s : Spread) → IsSpread image f way s
    → ((q : ℕ) → UncutAt image f way q → Contains s.reached.items q) → AreUncut image f way s.marks.items
marks_found image f way s i whole = record {
  size = i.size;
  exact = λ k b at. (
    λ t. i.uncut (f.place + k) ((i.marked k).0 (at ∙ ap (λ c. Some c) (is_true b t))),
    λ u. truth b (same_Some b true (sym at ∙ (i.marked k).1 (whole (f.place + k) u))),
  );
}
  where
    is_true : (b : Bool) → IsTrue b → b ≡ true
    is_true b t = t

    truth : (b : Bool) → b ≡ true → IsTrue b
    truth b e = e
