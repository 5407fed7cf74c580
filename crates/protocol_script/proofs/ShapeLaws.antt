-- The test of a shape passes just where the shape is well formed.
use Rattle.protocol_script.proofs.Common.{◌≡◌, ℕ, ◌≤◌, ◌<◌, ◌^◌, zero, suc, List, [], ◌∷◌, length, Some, Bool, true, false, ◌&&◌, refl, sym}
use Rattle.protocol_script.proofs.Common.{ap, ◌∙◌, arith, inl, inr, ⊎_elim, slice_get, cases_Bool, cases_lt, and_parts, nat_tests}
use Rattle.protocol_script.proofs.Common.{same_Some, list_all, nat_le, nat_lt, Field, no_shape, fits_at, is_shape}
use Rattle.note_types.specs.Shapes.{AreApart, FitsAt, IsShape, end_at, size_at, start_at}
use Rattle.note_types.specs.declared.shape.Shape.{Shape}
use Rattle.protocol_script.specs.ShapeTests.{all_apart, is_apart}

-- ---- tests of all items

pub all-at : {A : Type 0} (p : A → Bool) (xs : List A) (k : ℕ) (x : A) → list_all p xs ≡ true → slice_get xs k ≡ Some x → p x ≡ true
all-at p [] k x h at = cc at
all-at p (y ∷ ys) zero x h at = let same : y ≡ x = same_Some _ _ at in ap p (sym same) ∙ (and_parts (p y) (list_all p ys) h).0
all-at p (y ∷ ys) (suc k) x h at = all-at p ys k x (and_parts (p y) (list_all p ys) h).1 at

pub at-all : {A : Type 0} (p : A → Bool) (xs : List A) → ((k : ℕ) (x : A) → slice_get xs k ≡ Some x → p x ≡ true) → list_all p xs ≡ true
at-all p [] h = refl
at-all p (y ∷ ys) h = rw (h 0 y refl, at-all p ys (λ k x at. h (suc k) x at)) refl

-- ---- two fields

apart-of : (w : ℕ) (x y : Field) → is_apart w x y ≡ true → AreApart w x y
apart-of w x y h = elim (cases_Bool (nat_le (end_at w x) (start_at w y))) [
  | inl first ↦ inl (grind (arith, nat_tests, first))
  | inr other ↦ let second : nat_le (end_at w y) (start_at w x) ≡ true = rw other at h in inr (grind (arith, nat_tests, second))
]

of-apart : (w : ℕ) (x y : Field) → AreApart w x y → is_apart w x y ≡ true
of-apart w x y (inl h) = let e : nat_le (end_at w x) (start_at w y) ≡ true = grind (arith, nat_tests) in rw e refl
of-apart w x y (inr h) = elim (cases_Bool (nat_le (end_at w x) (start_at w y))) [
  | inl first ↦ rw first refl
  | inr other ↦ let e : nat_le (end_at w y) (start_at w x) ≡ true = grind (arith, nat_tests) in rw (other, e) refl
]

swapped : (w : ℕ) (x y : Field) → AreApart w x y → AreApart w y x
swapped w x y (inl h) = inr h
swapped w x y (inr h) = inl h

-- ---- all fields

all-apart-at : (w : ℕ) (xs : List Field) (f g : ℕ) (x y : Field) → all_apart w xs ≡ true → f < g → slice_get xs f ≡ Some x
    → slice_get xs g ≡ Some y → is_apart w x y ≡ true
unfolding all_apart
all-apart-at w [] f g x y h below first second = cc first
all-apart-at w (z ∷ zs) f zero x y h below first second = absurd (omega (arith, below))
all-apart-at w (z ∷ zs) zero (suc g) x y h below first second =
    let same : z ≡ x = same_Some _ _ first in
    let e : is_apart w z y ≡ true = all-at (is_apart w z) zs g y (and_parts _ _ h).0 second in
    ap (λ (v : Field). is_apart w v y) (sym same) ∙ e
all-apart-at w (z ∷ zs) (suc f) (suc g) x y h below first second =
    all-apart-at w zs f g x y (and_parts _ _ h).1 (omega (arith, below)) first second

at-all-apart : (w : ℕ) (xs : List Field) → ((f g : ℕ) (x y : Field) → f < g → slice_get xs f ≡ Some x → slice_get xs g ≡ Some y
    → is_apart w x y ≡ true) → all_apart w xs ≡ true
unfolding all_apart
at-all-apart w [] h = refl
at-all-apart w (z ∷ zs) h =
    let here : list_all (is_apart w z) zs ≡ true = at-all (is_apart w z) zs (λ k y at. h 0 (suc k) z y (omega arith) refl at) in
    let there : all_apart w zs ≡ true = at-all-apart w zs (λ f g x y below first second. h (suc f) (suc g) x y
    (omega (arith, below)) first second) in
    rw (here, there) refl

-- ---- a shape at a width

pub fits-of : (w : ℕ) (s : Shape) → fits_at w s ≡ true → FitsAt w s
unfolding fits_at
fits-of w s h =
    let a = and_parts (nat_lt 0 (size_at w s)) _ h in
    let b = and_parts (list_all (λ (x : Field). nat_le (end_at w x) (size_at w s)) s.fields) (all_apart w s.fields) a.1 in
    record {
      positive = grind (arith, nat_tests, a.0);
      inside = λ f x at. let e : nat_le (end_at w x) (size_at w s) ≡ true =
          all-at (λ (v : Field). nat_le (end_at w v) (size_at w s)) s.fields f x b.0 at in grind (arith, nat_tests, e);
      apart = λ f g x y first second.
          ⊎_elim
          (λ below. inr (apart-of w x y (all-apart-at w s.fields f g x y b.1 below first second)))
          (λ above.
          ⊎_elim
          (λ later. inr (swapped w y x (apart-of w y x (all-apart-at w s.fields g f y x b.1 later second first))))
          (λ same. inl (omega (arith, above, same)))
          (cases_lt g f))
          (cases_lt f g);
    }

pub of-fits : (w : ℕ) (s : Shape) → FitsAt w s → fits_at w s ≡ true
unfolding fits_at
of-fits w s fits =
    let a : nat_lt 0 (size_at w s) ≡ true = grind (arith, nat_tests, fits.positive) in
    let b : list_all (λ (x : Field). nat_le (end_at w x) (size_at w s)) s.fields ≡ true
    = at-all (λ (x : Field). nat_le (end_at w x) (size_at w s)) s.fields
    (λ k x at. let h : end_at w x ≤ size_at w s = fits.inside k x at in grind (arith, nat_tests, h)) in
    let d : all_apart w s.fields ≡ true
    = at-all-apart w s.fields (λ f g x y below first second. ⊎_elim (λ same. absurd (omega (arith, same, below))) (of-apart w x y)
    (fits.apart f g x y first second)) in
    rw (a, b, d) refl

-- ---- both widths

pub shape-of : (s : Shape) → (fits_at 4 s && fits_at 8 s) ≡ true → IsShape s
shape-of s h = let p = and_parts (fits_at 4 s) (fits_at 8 s) h in record { at4 = fits-of 4 s p.0; at8 = fits-of 8 s p.1 }

-- ---- the answer of the test

pub passes-test : (s : Shape) → length s.fields < 2 ^ 32 → IsShape s → true ≡ is_shape s
unfolding is_shape
passes-test s few shape = let e : nat_lt (length s.fields) (2 ^ 32) ≡ true = grind (arith, nat_tests, few) in
    sym (rw (e, of-fits 4 s shape.at4, of-fits 8 s shape.at8) refl)

pub fails-test : (s : Shape) → (IsShape s → false ≡ true) → false ≡ is_shape s
unfolding is_shape
fails-test s none = elim (cases_Bool (is_shape s)) [
  | inl passes ↦ none (shape-of s (and_parts (nat_lt (length s.fields) (2 ^ 32)) (fits_at 4 s && fits_at 8 s) passes).1) ∙ sym passes
  | inr fails ↦ sym fails
]

pub many-fail : (s : Shape) → 2 ^ 32 ≤ length s.fields → false ≡ is_shape s
unfolding is_shape
many-fail s many = let e : nat_lt (length s.fields) (2 ^ 32) ≡ false = grind (arith, nat_tests, many) in sym (rw e refl)

pub no-shape : false ≡ is_shape no_shape
unfolding is_shape fits_at
no-shape = refl
