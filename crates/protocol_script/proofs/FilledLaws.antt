-- Which instances of an object are settled, one field and one instance more at a time.
use Rattle.protocol_script.proofs.Common.{◌≡◌, ℕ, ◌+◌, ◌≤◌, ◌<◌, zero, suc, List, [], ◌∷◌, length, Option, Some, None, Bool, true, false}
use Rattle.protocol_script.proofs.Common.{refl, sym, ap, subst, ◌∙◌, arith, ⊎_elim, slice_get, cases_lt, same_Some, list_all, list_any}
use Rattle.protocol_script.proofs.Common.{option_map_or, ◌||◌, ◌&&◌, not, CellValue, Field, all_settled, is_filled, is_needed}
use Rattle.std.proofs.lemmas.Bool.{or_parts}
use Rattle.std.specs.List.{range_with_len}

-- ---- tests of numbers

-- each number below one passes
abbrev pub AllBelow : (ℕ → Bool) → ℕ → Type 0
AllBelow p i = (k : ℕ) → k < i → p k ≡ true

pub AllBelow-more : (p : ℕ → Bool) (i : ℕ) → AllBelow p i → p i ≡ true → AllBelow p (i + 1)
AllBelow-more p i before here = λ k h.
    ⊎_elim (λ below. before k below) (λ above. let e : i ≡ k = omega (arith, above, h) in subst (λ z. p z ≡ true) e here) (cases_lt k i)

all-from : (p : ℕ → Bool) (n a : ℕ) → ((k : ℕ) → a ≤ k → k < a + n → p k ≡ true) → list_all p (range_with_len a n) ≡ true
all-from p zero a passes = refl
all-from p (suc n) a passes =
    let here : p a ≡ true = passes a (omega arith) (omega arith) in
    let rest : list_all p (range_with_len (a + 1) n) ≡ true = all-from p n (a + 1)
    (λ k low high. passes k (omega (arith, low)) (omega (arith, high))) in
    rw (here, rest) refl

and_false : (a b : Bool) → b ≡ false → (a && b) ≡ false
and_false true b e = e
and_false false b e = refl

fails-from : (p : ℕ → Bool) (n a i : ℕ) → a ≤ i → i < a + n → p i ≡ false → list_all p (range_with_len a n) ≡ false
fails-from p zero a i low high here = absurd (omega (arith, low, high))
fails-from p (suc n) a i low high here =
    ⊎_elim
    (λ below.
    let rest : list_all p (range_with_len (a + 1) n) ≡ false = fails-from p n (a + 1) i (omega (arith, below)) (omega (arith, high)) here in
    and_false (p a) _ rest)
    (λ above.
    let same : i ≡ a = omega (arith, low, above) in
    let first : p a ≡ false = subst (λ z. p z ≡ false) same here in
    rw first refl)
    (cases_lt a i)

pub all-numbers : (p : ℕ → Bool) (n i : ℕ) → n ≤ i → AllBelow p i → list_all p (range_with_len 0 n) ≡ true
all-numbers p n i past passes = all-from p n 0 (λ k low high. passes k (omega (arith, high, past)))

pub one-fails : (p : ℕ → Bool) (n i : ℕ) → i < n → p i ≡ false → list_all p (range_with_len 0 n) ≡ false
one-fails p n i within here = fails-from p n 0 i (omega arith) (omega (arith, within)) here

-- ---- where no field has to be given

none-at : {A : Type 0} (p : A → Bool) (xs : List A) (k : ℕ) (x : A) → list_any p xs ≡ false → slice_get xs k ≡ Some x → p x ≡ false
none-at p [] k x h at = cc at
none-at p (y ∷ ys) zero x h at = let same : y ≡ x = same_Some _ _ at in ap p (sym same) ∙ (or_parts (p y) (list_any p ys) h).0
none-at p (y ∷ ys) (suc k) x h at = none-at p ys k x (or_parts (p y) (list_any p ys) h).1 at

optional-at : (fields : List Field) (k : ℕ) (found : Option Field) → slice_get fields k ≡ found
    → list_any (λ (x : Field). is_needed x.cell) fields ≡ false → option_map_or (λ (x : Field). not (is_needed x.cell)) found true ≡ true
optional-at fields k None at none = refl
optional-at fields k (Some x) at none = let e : is_needed x.cell ≡ false = none-at (λ (v : Field). is_needed v.cell) fields k x none at in
    rw e refl

pub none-needed : (fields : List Field) (cells : List CellValue) (count : ℕ) → list_any (λ (x : Field). is_needed x.cell) fields ≡ false
    → is_filled fields count cells ≡ true
unfolding is_filled all_settled
none-needed fields cells count none =
    all-from _ count 0 (λ i low high. all-from _ (length fields) 0
    (λ k first last. rw (optional-at fields k (slice_get fields k) refl none) refl))
