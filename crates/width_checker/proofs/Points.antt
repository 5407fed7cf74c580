-- Where the checker stands in the list of points, which ascend.
use Rattle.width_checker.proofs.Common.{◌≡◌, ℕ, ◌+◌, ◌-◌, ◌<◌, ◌≤◌, ◌↔◌, List, length, get_or, refl, sym, ap, subst, ◌∙◌, inl, inr, ⊎_elim}
use Rattle.width_checker.proofs.Common.{arith, Bool, IsTrue, Option, None, Some, slice_get, cases_lt, none-some, same_Some, Notes, Point}
use Rattle.width_checker.proofs.Common.{State, PointHolds, IsBefore, IsPointAt, of_fall, of_point, IsBelowPoint, Arrives, PointsFrom}
use Rattle.std.proofs.lemmas.Option.{slice_get-get_or, slice_get_past, slice_get_read, slice_get_within}
use Rattle.note_types.specs.{Records.Ascends, States.StateBelow}
use Rattle.width_checker.proofs.Leading.{OnePoint}
use Rattle.rules_image.proofs.Ascending.{points_rise}

-- ---- the point at a place

module _ (notes : Notes) (up : Ascends notes) (place n : ℕ) (from : PointsFrom notes place n) where
  -- it is the one where the checker stands
  pub at_mark : (p : Point) → IsPointAt notes place p → slice_get notes.point n ≡ Some p
  at_mark p at =
      ⊎_elim (λ less. absurd (let h = (from at.number p at.there).0 less in let e = at.at in omega arith))
      (λ above. ⊎_elim (λ less. absurd (
      let inside : n < length notes.point = let l = slice_get_within notes.point at.number p at.there in omega arith in
      let q : Point = get_or notes.point n p in
      let here : slice_get notes.point n ≡ Some q = slice_get-get_or notes.point n p inside in
      let low = (from n q here).1 (omega arith) in
      let rise = points_rise notes up n at.number q p less here at.there in
      let e = at.at in omega arith))
      (λ back. subst (λ k. slice_get notes.point k ≡ Some p) (omega arith) at.there) (cases_lt n at.number))
      (cases_lt at.number n)

  abbrev NoneHere : Type 0
  NoneHere = (p : Point) → slice_get notes.point n ≡ Some p → p.place ≡ place → ⊥

  pub none_here : NoneHere → (p : Point) → IsPointAt notes place p → ⊥
  none_here none p at = none p (at_mark p at) at.at

  pub below_here : (s : State) (p : Point) (b : Bool) → slice_get notes.point n ≡ Some p → p.place ≡ place
      → (IsTrue b ↔ StateBelow s p.state) → IsTrue b ↔ IsBelowPoint notes place s
  below_here s p b there at h = (
    λ t q here. let same : p ≡ q = same_Some p q (sym there ∙ at_mark q here) in subst (λ (x : Point). StateBelow s x.state) same (h.0 t),
    λ all. h.1 (all p (record { number = n; there = there; at = at })),
  )

  pub below_none : NoneHere → (s : State) → IsBelowPoint notes place s
  below_none none s q here = absurd (none_here none q here)

  -- ---- the state that is taken there

  pub arrives_point : OnePoint notes → (c : Option State) (p : Point) → slice_get notes.point n ≡ Some p → p.place ≡ place
      → Arrives notes place c (Some p.state)
  arrives_point one c p there at s =
      let here : IsPointAt notes place p = record { number = n; there = there; at = at } in (
        λ e. of_point p here (sym (same_Some p.state s e)),
        λ b. before b here,
      )
    where
      before : {s : State} → IsBefore notes place c s → IsPointAt notes place p → Some p.state ≡ Some s
      before (of_point q at' e) here = ap (λ (x : Point). Some x.state) (one place p q here at') ∙ ap (λ x. Some x) (sym e)
      before (of_fall miss e) here = absurd (miss p here)

  pub arrives_none : NoneHere → (c : Option State) → Arrives notes place c c
  arrives_none none c s = (λ e. of_fall (none_here none) e, λ b. before b)
    where
      before : {s : State} → IsBefore notes place c s → c ≡ Some s
      before (of_point q at' e) = absurd (none_here none q at')
      before (of_fall miss e) = e

  -- ---- the next point

  pub points_more : (p : Point) → slice_get notes.point n ≡ Some p → p.place ≡ place → PointsFrom notes (place + 1) (n + 1)
  points_more p there at k q here = (
    λ less. ⊎_elim (λ before. let h = (from k q here).0 before in omega arith)
        (λ above. let e : k ≡ n = omega arith in let same : p ≡ q =
        same_Some p q (sym there ∙ subst (λ i. slice_get notes.point i ≡ Some q) e here) in
        let r : p.place ≡ q.place = ap (λ (x : Point). x.place) same in omega arith)
        (cases_lt k n),
    λ above. let h = points_rise notes up n k p q (omega arith) there here in omega arith,
  )

  pub points_same : NoneHere → PointsFrom notes (place + 1) n
  points_same none k q here = (
    λ less. let h = (from k q here).0 less in omega arith,
    λ above. let low = (from k q here).1 above in
        ⊎_elim (λ same. absurd (none_here none q (record { number = k; there = here; at = omega arith }))) (λ more. omega arith)
        (cases_lt q.place (place + 1)),
  )

-- ---- points inside an instruction

module _ (notes : Notes) (up : Ascends notes) (place next n : ℕ) (from : PointsFrom notes (place + 1) n) where
  pub no_point_some : (p : Point) → slice_get notes.point n ≡ Some p → next ≤ p.place → PointHolds notes place next
  no_point_some p there past k q here =
      ⊎_elim (λ less. let h = (from k q here).0 less in inl (omega arith))
      (λ above. ⊎_elim (λ more. let h = points_rise notes up n k p q more there here in inr (omega arith))
      (λ back. let e : k ≡ n = omega arith in let same : p ≡ q =
      same_Some p q (sym there ∙ subst (λ i. slice_get notes.point i ≡ Some q) e here) in
      let r : p.place ≡ q.place = ap (λ (x : Point). x.place) same in inr (omega arith))
      (cases_lt n k))
      (cases_lt k n)

  pub no_point_none : slice_get notes.point n ≡ None → PointHolds notes place next
  no_point_none past k q here =
      ⊎_elim (λ less. let h = (from k q here).0 less in inl (omega arith))
      (λ above. absurd (
      let inside : n < length notes.point = let l = slice_get_within notes.point k q here in omega arith in
      none-some _ (sym past ∙ slice_get-get_or notes.point n q inside)))
      (cases_lt k n)

  pub point_within : (p : Point) → slice_get notes.point n ≡ Some p → PointHolds notes place next → next ≤ p.place
  point_within p there holds =
      let low = (from n p there).1 (omega arith) in
      ⊎_elim (λ h. absurd (omega arith)) (λ h. h) (holds n p there)

  pub points_next : PointHolds notes place next → place < next → PointsFrom notes next n
  points_next holds later k q here = (
    λ less. let h = (from k q here).0 less in omega arith,
    λ above. let low = (from k q here).1 above in ⊎_elim (λ h. absurd (omega arith)) (λ h. h) (holds k q here),
  )

pub one_point : (notes : Notes) → Ascends notes → OnePoint notes
one_point notes up place p q a b =
    ⊎_elim (λ less. absurd (let h = points_rise notes up a.number b.number p q less a.there b.there in let e = a.at in let g = b.at in
    omega arith))
    (λ from. ⊎_elim (λ less. absurd (let h = points_rise notes up b.number a.number q p less b.there a.there in let e = a.at in
    let g = b.at in omega arith))
    (λ back. let same : b.number ≡ a.number = omega arith in same_Some p q
    (sym a.there ∙ subst (λ k. slice_get notes.point k ≡ Some q) same b.there))
    (cases_lt b.number a.number))
    (cases_lt a.number b.number)

-- ---- where a binary search ends

-- ---- what is looked up in the list

pub looked : (xs ys : List Point) (i : ℕ) (p : Point) → ys ≡ xs → i < length ys → p ≡ get_or ys i p → slice_get xs i ≡ Some p
looked xs ys i p same within at = subst (λ zs. slice_get zs i ≡ Some p) same (slice_get_read ys (length ys) i p refl within at)

pub looked_past : (xs ys : List Point) (i : ℕ) → ys ≡ xs → length ys ≤ i → slice_get xs i ≡ None
looked_past xs ys i same past = subst (λ zs. slice_get zs i ≡ None) same (slice_get_past ys i past)
