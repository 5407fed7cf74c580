-- The first of a list that repeats, one item more at a time.
use Rattle.std.proofs.Common.{◌≡◌, ℕ, ◌+◌, ◌-◌, ◌≤◌, ◌<◌, zero, suc, List, [], ◌∷◌, ◌++◌, length, map, take, get_or, cond, true, false}
use Rattle.std.proofs.Common.{Bool, refl, ap, sym, subst, ◌∙◌, ⊎_elim, arith}
use Rattle.std.proofs.lemmas.Bool.{cases_lt}
use Rattle.std.proofs.lemmas.List.{get_or-map, length-map, take-map, take_all, take_more}
use Rattle.std.proofs.lemmas.Option.{slice_get-get_or}
use Rattle.std.specs.Prelude.{None, Some, is_some, if◌then◌else◌, nat_le, not, slice_get}
use Rattle.std.specs.List.{find, list_any, range_with_len}
use Rattle.note_draft.specs.Repeats.{repeats, first_repeat, has_repeat, descends, first_descent}

-- ---- a search over numbers

-- the least number that passes
pub find-least : (p : ℕ → Bool) (n a i : ℕ) → a ≤ i → i < a + n → p i ≡ true → ((k : ℕ) → a ≤ k → k < i → p k ≡ false)
    → find p (range_with_len a n) ≡ Some i
find-least p zero a i low high here before = absurd (omega arith)
find-least p (suc n) a i low high here before =
    ⊎_elim
    (λ below.
    let fails : p a ≡ false = before a (omega arith) below in
    let rest : find p (range_with_len (a + 1) n) ≡ Some i = find-least p n (a + 1) i (omega arith) (omega arith) here
    (λ k x y. before k (omega arith) y) in
    rw (fails, rest) refl)
    (λ above.
    let same : i ≡ a = omega arith in
    let passes : p a ≡ true = subst (λ z. p z ≡ true) same here in
    rw (passes, same) refl)
    (cases_lt a i)

-- none passes
pub find-none : (p : ℕ → Bool) (n a : ℕ) → ((k : ℕ) → a ≤ k → k < a + n → p k ≡ false) → find p (range_with_len a n) ≡ None
find-none p zero a fails = refl
find-none p (suc n) a fails =
    let here : p a ≡ false = fails a (omega arith) (omega arith) in
    let rest : find p (range_with_len (a + 1) n) ≡ None = find-none p n (a + 1) (λ k x y. fails k (omega arith) (omega arith)) in
    rw (here, rest) refl

-- ---- repeats

-- no item below number i repeats
abbrev pub AreNewBelow : {T : Type 0} → (T → T → Bool) → List T → ℕ → Type 0
AreNewBelow same xs i = (k : ℕ) → k < i → repeats same xs k ≡ false

pub AreNewBelow-more : {T : Type 0} (same : T → T → Bool) (xs : List T) (i : ℕ) → AreNewBelow same xs i → repeats same xs i ≡ false
    → AreNewBelow same xs (i + 1)
AreNewBelow-more same xs i before here = λ k h.
    ⊎_elim (λ below. before k below) (λ above. let e : i ≡ k = omega arith in subst (λ z. repeats same xs z ≡ false) e here) (cases_lt k i)

pub first_repeat-some : {T : Type 0} (same : T → T → Bool) (xs : List T) (i : ℕ) → i < length xs → AreNewBelow same xs i
    → repeats same xs i ≡ true → first_repeat same xs ≡ Some i
unfolding first_repeat
first_repeat-some same xs i within before here = find-least (repeats same xs) (length xs) 0 i (omega arith) (omega arith) here
    (λ k _ h. before k h)

pub first_repeat-none : {T : Type 0} (same : T → T → Bool) (xs : List T) → AreNewBelow same xs (length xs) → first_repeat same xs ≡ None
unfolding first_repeat
first_repeat-none same xs before = find-none (repeats same xs) (length xs) 0 (λ k _ h. before k (omega arith))

-- an item repeats where those before it have it
pub repeats-at : {T : Type 0} (same : T → T → Bool) (xs : List T) (i : ℕ) (x : T) → i < length xs → x ≡ get_or xs i x
    → repeats same xs i ≡ list_any (same x) (take i xs)
repeats-at same xs i x within is =
    let e : slice_get xs i ≡ Some x = slice_get-get_or xs i x within ∙ ap Some (sym is) in
    rw e refl

-- the same of the images of a list's items
pub repeats-map : {A T : Type 0} (same : T → T → Bool) (v : A → T) (items : List A) (i : ℕ) (x : A) → i < length items
    → x ≡ get_or items i x → repeats same (map v items) i ≡ list_any (same (v x)) (take i (map v items))
repeats-map same v items i x within is =
    let n : length (map v items) ≡ length items = length-map items v in
    repeats-at same (map v items) i (v x) (omega arith) (ap v is ∙ sym (get_or-map v items i x (v x) within))

-- a list of what was seen, and one item more
pub take-map-more : {A T : Type 0} (v : A → T) (items : List A) (i : ℕ) (x : A) → i < length items → x ≡ get_or items i x
    → take (i + 1) (map v items) ≡ take i (map v items) ++ v x ∷ []
take-map-more v items i x within is =
    let n : length (map v items) ≡ length items = length-map items v in
    let e : get_or (map v items) i (v x) ≡ v x = get_or-map v items i x (v x) within ∙ ap v (sym is) in
    take_more (map v items) i (v x) (omega arith) ∙ ap (λ z. take i (map v items) ++ z ∷ []) e

-- the images of what was seen so far are seen, each once
pub record IsSeen {A T : Type 0} (same : T → T → Bool) (v : A → T) (items : List A) (i : ℕ) (seen : List T) : Type 0 where
  pub so_far : seen ≡ take i (map v items)
  pub are_new : AreNewBelow same (map v items) i

from_not : (b : Bool) → not b ≡ true → b ≡ false
from_not true e = sym e
from_not false e = refl

to_not : (b : Bool) → not b ≡ false → b ≡ true
to_not true e = refl
to_not false e = sym e

module _ {A T : Type 0} (same : T → T → Bool) (v : A → T) (items : List A) (i : ℕ) (seen : List T) (x : A) (y : T)
    (within : i < length items) (is : x ≡ get_or items i x) (image : y ≡ v x) (before : IsSeen same v items i seen) (new : Bool)
    (tells : new ≡ not (list_any (same y) seen)) where
  repeats-seen : repeats same (map v items) i ≡ list_any (same y) seen
  repeats-seen = let e : list_any (same (v x)) (take i (map v items)) ≡ list_any (same y) seen = rw (image, before.so_far) refl in
      repeats-map same v items i x within is ∙ e

  -- an item is added that wasn't there
  pub IsSeen-more : (after : List T) → new ≡ true → after ≡ (if list_any (same y) seen then seen else seen ++ y ∷ [])
      → IsSeen same v items (i + 1) after
  IsSeen-more after is_new added =
      let absent : list_any (same y) seen ≡ false = from_not _ (sym tells ∙ is_new) in
      let grown : after ≡ seen ++ y ∷ [] = subst (λ b. after ≡ cond b seen (seen ++ y ∷ [])) absent added in
      let e : seen ++ y ∷ [] ≡ take i (map v items) ++ v x ∷ [] = rw (image, before.so_far) refl in
      record {
        so_far = grown ∙ (e ∙ sym (take-map-more v items i x within is));
        are_new = AreNewBelow-more same (map v items) i before.are_new (repeats-seen ∙ absent);
      }

  -- an item was there
  pub first_repeat-seen : new ≡ false → first_repeat same (map v items) ≡ Some i
  first_repeat-seen not_new =
      let present : list_any (same y) seen ≡ true = to_not _ (sym tells ∙ not_new) in
      let n : length (map v items) ≡ length items = length-map items v in
      first_repeat-some same (map v items) i (omega arith) before.are_new (repeats-seen ∙ present)

-- all were added
pub IsSeen-all : {A T : Type 0} (same : T → T → Bool) (v : A → T) (items : List A) (seen : List T) (i : ℕ) → length items ≤ i
    → IsSeen same v items i seen → (first_repeat same (map v items) ≡ None) × (seen ≡ map v items)
IsSeen-all same v items seen i covers all =
    let n : length (map v items) ≡ length items = length-map items v in
    (first_repeat-none same (map v items) (λ k h. all.are_new k (omega arith)), all.so_far ∙ take_all i (map v items) (omega arith))

-- ---- has_repeat

pub has_repeat-some : {A : Type 0} (same : A → A → Bool) (items : List A) (i : ℕ) (x : A) → i < length items → x ≡ get_or items i x
    → AreNewBelow same items i → list_any (same x) (take i items) ≡ true → has_repeat same items ≡ true
unfolding has_repeat
has_repeat-some same items i x within is before seen = ap is_some
    (first_repeat-some same items i within before (repeats-at same items i x within is ∙ seen))

pub AreNewBelow-next : {A : Type 0} (same : A → A → Bool) (items : List A) (i : ℕ) (x : A) → i < length items → x ≡ get_or items i x
    → AreNewBelow same items i → list_any (same x) (take i items) ≡ false → AreNewBelow same items (i + 1)
AreNewBelow-next same items i x within is before absent = AreNewBelow-more same items i before
    (repeats-at same items i x within is ∙ absent)

pub has_repeat-none : {A : Type 0} (same : A → A → Bool) (items : List A) (i : ℕ) → length items ≤ i → AreNewBelow same items i
    → has_repeat same items ≡ false
unfolding has_repeat
has_repeat-none same items i covers all = ap is_some (first_repeat-none same items (λ k h. all k (omega arith)))

-- ---- places that don't ascend

-- below number i each number is above the one before it
abbrev pub AscendsBelow : List ℕ → ℕ → Type 0
AscendsBelow xs i = (k : ℕ) → 1 ≤ k → k < i → descends xs k ≡ false

-- whether a number descends, of the images of a list's items
pub descends-map : {A : Type 0} (v : A → ℕ) (items : List A) (i : ℕ) (x y : A) (p q : ℕ) → 1 ≤ i → i < length items → x ≡ get_or items i x
    → y ≡ get_or items (i - 1) y → p ≡ v x → q ≡ v y → descends (map v items) i ≡ nat_le p q
descends-map v items i x y p q low within here before first second =
    let a : get_or (map v items) i 0 ≡ p = get_or-map v items i x 0 within ∙ (ap v (sym here) ∙ sym first) in
    let b : get_or (map v items) (i - 1) 0 ≡ q = get_or-map v items (i - 1) y 0 (omega arith) ∙ (ap v (sym before) ∙ sym second) in
    rw (a, b) refl

pub first_descent-some : {A : Type 0} (v : A → ℕ) (items : List A) (i : ℕ) → 1 ≤ i → i < length items → descends (map v items) i ≡ true
    → AscendsBelow (map v items) i → first_descent (map v items) ≡ Some i
unfolding first_descent
first_descent-some v items i low within here before =
    let n : length (map v items) ≡ length items = length-map items v in
    find-least (descends (map v items)) (length (map v items) - 1) 1 i low (omega arith) here before

pub first_descent-none : {A : Type 0} (v : A → ℕ) (items : List A) (n : ℕ) → length items ≤ n → AscendsBelow (map v items) n
    → first_descent (map v items) ≡ None
unfolding first_descent
first_descent-none v items m covers before =
    let n : length (map v items) ≡ length items = length-map items v in
    find-none (descends (map v items)) (length (map v items) - 1) 1 (λ k low high. before k low (omega arith))

pub AscendsBelow-more : (xs : List ℕ) (i : ℕ) → AscendsBelow xs i → descends xs i ≡ false → AscendsBelow xs (i + 1)
AscendsBelow-more xs i before here = λ k low h.
    ⊎_elim (λ below. before k low below) (λ above. let e : i ≡ k = omega arith in subst (λ z. descends xs z ≡ false) e here) (cases_lt k i)
