-- Ranges that share no byte, and what the sorted order of all things shows.
use Rattle.std.proofs.Common.{◌≡◌, ℕ, ◌+◌, ◌-◌, ◌^◌, ◌<◌, ◌≤◌, ◌↔◌, true, false, List, length, get_or, min, refl, sym, ap, subst, ◌∙◌, inl}
use Rattle.std.proofs.Common.{inr, ⊎_elim, arith}
use Rattle.std.specs.Prelude.{IsTrue, Some, slice_get}
use Rattle.std.specs.List.{Contains}
use Rattle.std.specs.List.Sorted.{IsPermutation}
use Rattle.std.proofs.lemmas.Bool.{cases_lt}
use Rattle.std.proofs.lemmas.List.{get_or_default}
use Rattle.std.proofs.lemmas.List.Sorted.{Contains-permutation}
use Rattle.std.proofs.lemmas.Option.{slice_get_within}
use Rattle.note_types.specs.declared.notes.Notes.{Notes}
use Rattle.note_types.specs.declared.notes.Static.{Static}
use Rattle.note_types.specs.declared.notes.Thunk.{Thunk}
use Rattle.note_types.specs.declared.shape.Shape.{Shape}
use Rattle.rules_image.specs.Images.{extent}
use Rattle.rules_image.specs.Checks.{AreAllApart, AreInTurn, AreNumbered, IsRangeOf, IsStaticApart, IsThing, IsThunkApart, of_function}
use Rattle.rules_image.specs.Checks.{of_static, of_thunk, things}

-- ---- answers of tests

pub shown : {X : Type 0} → X → IsTrue true ↔ X
shown x = (λ e. x, λ y. refl)

pub refuted : {X : Type 0} → (X → ⊥) → IsTrue false ↔ X
refuted n = (λ e. absurd cc, λ x. absurd (n x))

pub beyond : (a b : ℕ) → a < b → b ≤ a → ⊥
beyond a b h g = omega arith

-- ---- things by their numbers

thing_within : (notes : Notes) (k p n : ℕ) → IsThing notes k p n → k < things notes
thing_within notes k p n (of_static x s there shape a b) = let l = slice_get_within notes.statics k x there in omega arith
thing_within notes k p n (of_thunk j x is there a b) = let l = slice_get_within notes.thunk j x there in omega arith
thing_within notes k p n (of_function j x is there a b) = let l = slice_get_within notes.function j x there in omega arith

-- ---- things in turn

-- the things before number i of an order end within a reach
abbrev pub ReachTo : Notes → List ℕ → ℕ → ℕ → Type 0
ReachTo notes order i reach = (j p n : ℕ) → j < i → IsThing notes (get_or order j 0) p n → p + min n (2 ^ 40) ≤ reach

-- each of them ends before the later ones begin
abbrev pub InTurnTo : Notes → List ℕ → ℕ → Type 0
InTurnTo notes order i = (j k p q n m : ℕ) → j < k → k < i → IsThing notes (get_or order j 0) p n → IsThing notes (get_or order k 0) q m
    → p + n ≤ q

module _ (notes : Notes) (order : List ℕ) (i reach place size : ℕ) (range : IsRangeOf notes (get_or order i 0) place size)
    (after : reach ≤ place) where
  pub reach_more : ReachTo notes order i reach → ReachTo notes order (i + 1) (place + size)
  reach_more h j p n below t =
      ⊎_elim (λ less. let old = h j p n less t in omega arith)
      (λ from. let same : j ≡ i = omega arith in let is = range p n (subst (λ x. IsThing notes (get_or order x 0) p n) same t) in
      omega arith)
      (cases_lt j i)

  pub turn_more : place < 2 ^ 32 → ReachTo notes order i reach → InTurnTo notes order i → InTurnTo notes order (i + 1)
  turn_more small h all j k p q n m less below s t =
      ⊎_elim (λ before. all j k p q n m less before s t)
      (λ from.
      let same : k ≡ i = omega arith in
      let is = range q m (subst (λ x. IsThing notes (get_or order x 0) q m) same t) in
      let old = h j p n (omega arith) s in
      omega arith)
      (cases_lt k i)

-- ---- all things

-- where a thing stands in an order
place_in : (order sorted : List ℕ) → AreNumbered order → IsPermutation order sorted → (k : ℕ) → k < length order → (i : ℕ)
    × (i < length sorted) × (get_or sorted i 0 ≡ k)
place_in order sorted numbered moved k within =
    let first : Contains order k = (k, within, get_or_default order k k 0 within ∙ numbered k within) in
    let then = Contains-permutation order sorted k moved first in
    (then.0, then.1, get_or_default sorted then.0 0 k then.1 ∙ then.2)

pub all_in_turn : (notes : Notes) (order sorted : List ℕ) → AreNumbered order → IsPermutation order sorted → length order ≡ things notes
    → AreInTurn notes sorted → AreAllApart notes
all_in_turn notes order sorted numbered moved size turn j k p q n m less s t =
    let a = place_in order sorted numbered moved j (let l = thing_within notes j p n s in omega arith) in
    let b = place_in order sorted numbered moved k (let l = thing_within notes k q m t in omega arith) in
    let first : IsThing notes (get_or sorted a.0 0) p n = subst (λ x. IsThing notes x p n) (sym a.2) s in
    let second : IsThing notes (get_or sorted b.0 0) q m = subst (λ x. IsThing notes x q m) (sym b.2) t in
    ⊎_elim (λ before. inl (turn a.0 b.0 p q n m before b.1 first second))
    (λ from.
    ⊎_elim (λ behind. inr (turn b.0 a.0 q p m n behind a.1 second first))
    (λ back. let same : a.0 ≡ b.0 = omega arith in let equal : j ≡ k = sym a.2 ∙ ap (λ x. get_or sorted x 0) same ∙ b.2 in
    absurd (omega arith))
    (cases_lt b.0 a.0))
    (cases_lt a.0 b.0)

-- ---- from all things to one

pub static_apart : (notes : Notes) (k : ℕ) (x : Static) (s : Shape) → AreAllApart notes → slice_get notes.statics k ≡ Some x
    → slice_get notes.shape x.shape ≡ Some s → IsStaticApart notes k x.place (extent x s)
static_apart notes k x s all here shape =
    let this : IsThing notes k x.place (extent x s) = of_static x s here shape refl refl in
    let within = slice_get_within notes.statics k x here in
    record {
      functions = λ j f there. all k (length notes.statics + length notes.thunk + j) x.place f.place (extent x s) (f.end - f.place)
          (omega arith) this (of_function j f refl there refl refl);
      statics = λ j y there past t shaped. all k j x.place y.place (extent x s) (extent y t) (omega arith) this
          (of_static y t there shaped refl refl);
      thunks = λ j y there past. all k (length notes.statics + j) x.place y.place (extent x s) 8 (omega arith) this
          (of_thunk j y refl there refl refl);
    }

pub thunk_apart : (notes : Notes) (k : ℕ) (x : Thunk) → AreAllApart notes → slice_get notes.thunk k ≡ Some x → IsThunkApart notes k x.place
thunk_apart notes k x all here =
    let this : IsThing notes (length notes.statics + k) x.place 8 = of_thunk k x refl here refl refl in
    let within = slice_get_within notes.thunk k x here in
    record {
      functions = λ j f there. all (length notes.statics + k) (length notes.statics + length notes.thunk + j) x.place f.place 8
          (f.end - f.place) (omega arith) this (of_function j f refl there refl refl);
      thunks = λ j y there past. all (length notes.statics + k) (length notes.statics + j) x.place y.place 8 8 (omega arith) this
          (of_thunk j y refl there refl refl);
    }
