-- The function that holds a place, where functions and points ascend by their places.
use Rattle.std.proofs.Common.{◌≡◌, ℕ, ◌+◌, ◌-◌, ◌≤◌, ◌<◌, zero, suc, List, [], ◌∷◌, ◌++◌, length, map, take, get_or, cond, true, false}
use Rattle.std.proofs.Common.{Bool, refl, ap, sym, subst, ◌∙◌, ⊎_elim, arith}
use Rattle.std.proofs.Math.Bool.{and-false}
use Rattle.std.proofs.lemmas.Bool.{cases_lt, leb-false, le-leb, lt-leb, le-ltb, lt-ltb}
use Rattle.std.proofs.lemmas.List.{get_or-map, get_or-take, length-map, length-take-le, map-append, take_all, map_more}
use Rattle.std.proofs.lemmas.Option.{none-some, same_Some, slice_get-get_or, get_or_from_slice_get, slice_get_within}
use Rattle.std.specs.Prelude.{Option, None, Some, is_none, nat_le, nat_lt, ◌&&◌, slice_get}
use Rattle.std.specs.List.{find, range_with_len}
use Rattle.note_draft.specs.declared.draft.FunctionDraft.{FunctionDraft}
use Rattle.note_draft.specs.declared.draft.PointDraft.{PointDraft}
use Rattle.type_notes.specs.Owners.{has_place, owner_of, first_stray, EndBy}
use Rattle.note_draft.specs.Repeats.{descends, first_descent}
use Rattle.type_notes.proofs.SearchLaws.{position-none, position-some}

-- ---- numbers that ascend

-- a search that finds none fails at the head, and in the rest
none-head : (b : Bool) (a : ℕ) (rest : Option ℕ) → cond b (Some a) rest ≡ None → b ≡ false
none-head true a rest e = absurd (none-some a (sym e))
none-head false a rest e = refl

none-rest : (b : Bool) (a : ℕ) (rest : Option ℕ) → cond b (Some a) rest ≡ None → rest ≡ None
none-rest true a rest e = absurd (none-some a (sym e))
none-rest false a rest e = e

-- where a search over numbers finds none, none passes
pub fails-from_none : (p : ℕ → Bool) (n a : ℕ) → find p (range_with_len a n) ≡ None → (k : ℕ) → a ≤ k → k < a + n → p k ≡ false
fails-from_none p zero a e k low high = absurd (omega arith)
fails-from_none p (suc n) a e k low high =
    ⊎_elim
    (λ above. fails-from_none p n (a + 1) (none-rest (p a) a _ e) k (omega arith) (omega arith))
    (λ below. let same : a ≡ k = omega arith in subst (λ z. p z ≡ false) same (none-head (p a) a _ e))
    (cases_lt a k)

-- numbers that ascend keep their order
ascending-by : (xs : List ℕ) → first_descent xs ≡ None → (d i j : ℕ) → j ≡ i + d → j < length xs → get_or xs i 0 ≤ get_or xs j 0
unfolding first_descent
ascending-by xs e zero i j is within = let same : i ≡ j = omega arith in subst (λ k. get_or xs i 0 ≤ get_or xs k 0) same (omega arith)
ascending-by xs e (suc d) i j is within =
    let before : get_or xs i 0 ≤ get_or xs (j - 1) 0 = ascending-by xs e d i (j - 1) (omega arith) (omega arith) in
    let step : get_or xs (j - 1) 0 < get_or xs j 0 = leb-false _ _
    (fails-from_none (descends xs) (length xs - 1) 1 e j (omega arith) (omega arith)) in
    omega arith

-- the same of the images of a list's items
pub ascending : {A : Type 0} (v : A → ℕ) (items : List A) (i j : ℕ) (x y : A) → first_descent (map v items) ≡ None → i ≤ j
    → slice_get items i ≡ Some x → slice_get items j ≡ Some y → v x ≤ v y
ascending v items i j x y e order first second =
    let n : length (map v items) ≡ length items = length-map items v in
    let within : j < length items = slice_get_within items j y second in
    let a : get_or (map v items) i 0 ≡ v x = get_or-map v items i x 0 (omega arith) ∙ ap v (get_or_from_slice_get items i x x first) in
    let b : get_or (map v items) j 0 ≡ v y = get_or-map v items j y 0 within ∙ ap v (get_or_from_slice_get items j y y second) in
    let le : get_or (map v items) i 0 ≤ get_or (map v items) j 0 = ascending-by (map v items) e (j - i) i j (omega arith) (omega arith) in
    omega arith

-- ---- the function that holds a place

-- a function that ends by a place doesn't hold it, nor one that begins after it
ended : (place : ℕ) (f : FunctionDraft) → f.end ≤ place → has_place place f ≡ false
ended place f h = ap (λ b. nat_le f.place place && b) (le-ltb place f.end h) ∙ and-false _

ahead : (place : ℕ) (f : FunctionDraft) → place < f.place → has_place place f ≡ false
ahead place f h = ap (λ b. b && nat_lt place f.end) (lt-leb f.place place h)

holding : (place : ℕ) (f : FunctionDraft) → f.place ≤ place → place < f.end → has_place place f ≡ true
holding place f low high = ap (λ b. b && nat_lt place f.end) (le-leb f.place place low) ∙ lt-ltb place f.end high

pub EndBy-more : (functions : List FunctionDraft) (i place : ℕ) (f : FunctionDraft) → i < length functions → f ≡ get_or functions i f
    → f.end ≤ place → EndBy functions i place → EndBy functions (i + 1) place
EndBy-more functions i place f within is here before = λ k g h e.
    ⊎_elim
    (λ below. before k g below e)
    (λ above.
    let same : i ≡ k = omega arith in
    let there : slice_get functions i ≡ Some f = slice_get-get_or functions i f within ∙ ap Some (sym is) in
    let x : f ≡ g = same_Some _ _ (sym there ∙ (ap (slice_get functions) same ∙ e)) in
    subst (λ z. z.end ≤ place) x here)
    (cases_lt k i)

-- the functions below number i end by the place, and function i holds it
pub owner_of-here : (functions : List FunctionDraft) (i place : ℕ) (f : FunctionDraft) → i < length functions → f ≡ get_or functions i f
    → EndBy functions i place → place < f.end → f.place ≤ place → Some i ≡ owner_of functions place
unfolding owner_of
owner_of-here functions i place f within is before high low =
    sym (position-some (has_place place) functions i f within
    (λ k h. ended place (get_or functions k f) (before k (get_or functions k f) h (slice_get-get_or functions k f (omega arith))))
    (ap (has_place place) (sym is) ∙ holding place f low high))

-- and function i begins after it
pub owner_of-ahead : (functions : List FunctionDraft) (i place : ℕ) (f : FunctionDraft)
    → first_descent (map (λ g. g.place) functions) ≡ None → i < length functions → f ≡ get_or functions i f → EndBy functions i place
    → place < f.place → None ≡ owner_of functions place
unfolding owner_of
owner_of-ahead functions i place f ascends within is before past =
    let there : slice_get functions i ≡ Some f = slice_get-get_or functions i f within ∙ ap Some (sym is) in
    sym (position-none (has_place place) functions (λ k d h.
    let g = get_or functions k d in
    let here : slice_get functions k ≡ Some g = slice_get-get_or functions k d h in
    ⊎_elim
    (λ below. ended place g (before k g below here))
    (λ above.
    let le : f.place ≤ g.place = ascending (λ z. z.place) functions i k f g ascends above there here in
    ahead place g (omega arith))
    (cases_lt k i)))

-- or there is no function i
pub owner_of-none : (functions : List FunctionDraft) (i place : ℕ) → length functions ≤ i → EndBy functions i place
    → None ≡ owner_of functions place
unfolding owner_of
owner_of-none functions i place covers before =
    sym (position-none (has_place place) functions (λ k d h. ended place (get_or functions k d)
    (before k (get_or functions k d) (omega arith) (slice_get-get_or functions k d h))))

-- ---- the functions that hold the points

-- the first so many points have their owners, and the functions below a number end by the places of the others
pub record AreFound (functions : List FunctionDraft) (points : List PointDraft) (number from : ℕ) (owners : List ℕ) : Type 0 where
  pub so_far : map Some owners ≡ map (λ p. owner_of functions p.place) (take number points)
  pub within : from ≤ length functions
  pub ready : (n : ℕ) (p : PointDraft) → number ≤ n → slice_get points n ≡ Some p → EndBy functions from p.place

-- where points have owners, none is astray
not_stray : (g : PointDraft → Option ℕ) (ps : List PointDraft) (owners : List ℕ) → map Some owners ≡ map g ps → (k : ℕ) (d : PointDraft)
    → k < length ps → is_none (g (get_or ps k d)) ≡ false
not_stray g [] owners e k d h = absurd (omega arith)
not_stray g (p ∷ ps) [] e k d h = cc
not_stray g (p ∷ ps) (o ∷ os) e zero d h = let x : g p ≡ Some o = cc in ap is_none x
not_stray g (p ∷ ps) (o ∷ os) e (suc k) d h = let rest : map Some os ≡ map g ps = cc in not_stray g ps os rest k d (omega arith)

module _ (functions : List FunctionDraft) (points : List PointDraft) where
  pub AreFound-more : (number from owner : ℕ) (owners : List ℕ) (p : PointDraft) → first_descent (map (λ q. q.place) points) ≡ None
      → number < length points → p ≡ get_or points number p → AreFound functions points number from owners
      → Some owner ≡ owner_of functions p.place → EndBy functions owner p.place → owner ≤ length functions
      → AreFound functions points (number + 1) owner (owners ++ owner ∷ [])
  AreFound-more number from owner owners p ascends within is before owned ends fits =
      let there : slice_get points number ≡ Some p = slice_get-get_or points number p within ∙ ap Some (sym is) in
      let v : PointDraft → Option ℕ = λ q. owner_of functions q.place in
      let last : Some owner ≡ v (get_or points number p) = owned ∙ ap v is in
      record {
        so_far = map-append Some owners (owner ∷ []) ∙ (ap (λ z. z ++ Some owner ∷ []) before.so_far
            ∙ (ap (λ z. map v (take number points) ++ z ∷ []) last ∙ sym (map_more v points number p within)));
        within = fits;
        ready = λ n q h e k f low is_f.
            let le : p.place ≤ q.place = ascending (λ z. z.place) points number n p q ascends (omega arith) there e in
            let by : f.end ≤ p.place = ends k f low is_f in
            omega arith;
      }

  pub first_stray-none : (number from : ℕ) (owners : List ℕ) → length points ≤ number → AreFound functions points number from owners
      → (first_stray functions points ≡ None) × (map Some owners ≡ map (λ p. owner_of functions p.place) points)
  unfolding first_stray
  first_stray-none number from owners covers before =
      let v : PointDraft → Option ℕ = λ q. owner_of functions q.place in
      let all : map Some owners ≡ map v points = before.so_far ∙ ap (map v) (take_all number points covers) in
      (position-none (λ p. is_none (v p)) points (λ k d h. not_stray v points owners all k d h), all)

  pub first_stray-some : (number from : ℕ) (owners : List ℕ) (p : PointDraft) → number < length points → p ≡ get_or points number p
      → AreFound functions points number from owners → None ≡ owner_of functions p.place → first_stray functions points ≡ Some number
  unfolding first_stray
  first_stray-some number from owners p within is before none =
      let v : PointDraft → Option ℕ = λ q. owner_of functions q.place in
      let n : length (take number points) ≡ number = length-take-le number points (omega arith) in
      position-some (λ q. is_none (v q)) points number p within
      (λ k h. subst (λ z. is_none (v z) ≡ false) (get_or-take number points k p h)
      (not_stray v (take number points) owners before.so_far k p (omega arith)))
      (ap (λ z. is_none (v z)) (sym is) ∙ ap is_none (sym none))
