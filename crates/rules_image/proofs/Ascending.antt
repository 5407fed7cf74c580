-- The list of points ascends, and where a binary search in it ends.
use Rattle.std.proofs.Common.{ℕ, zero, suc, ◌+◌, ◌<◌, List, length, get_or, subst, arith, ◌≡◌, map, ap, ◌∙◌, ◌-◌, ⊎_elim, ltb}
use Rattle.std.specs.List.Sorted.{IsStrictlyIncreasing, IsNonDecreasingBy, IsPartitionedBy, IsPartitionPoint}
use Rattle.std.specs.Prelude.{Some, slice_get, true, false}
use Rattle.std.specs.Option.{option_map}
use Rattle.std.proofs.lemmas.Option.{get_or_from_slice_get, slice_get-map, slice_get_within, slice_get-get_or}
use Rattle.note_types.specs.declared.notes.Notes.{Notes}
use Rattle.note_types.specs.declared.notes.Point.{Point}
use Rattle.std.proofs.lemmas.List.{length-map}
use Rattle.note_types.specs.Records.{Ascends}
use Rattle.std.proofs.lemmas.Bool.{cases_lt, ltb-false, ltb-true}
use Rattle.std.proofs.lemmas.List.Sorted.{IsPartitionedBy-ltb}
use Rattle.rules_image.specs.Marks.{PointsFrom}

numbers_rise : (xs : List ℕ) → IsStrictlyIncreasing xs → (n j : ℕ) → j + suc n < length xs → get_or xs j 0 < get_or xs (j + suc n) 0
numbers_rise xs up zero j within = let h = up j (omega arith) in
    subst (λ k. get_or xs j 0 < get_or xs k 0) {x = j + 1} {y = j + 1} (omega arith) h
numbers_rise xs up (suc n) j within =
    let first = numbers_rise xs up n j (omega arith) in
    let last : get_or xs (j + suc n) 0 < get_or xs (j + suc (suc n)) 0 =
    subst (λ k. get_or xs (j + suc n) 0 < get_or xs k 0) {x = j + suc n + 1} {y = j + suc (suc n)} (omega arith)
    (up (j + suc n) (omega arith)) in
    omega arith

place_at : (notes : Notes) (k : ℕ) (p : Point) → slice_get notes.point k ≡ Some p
    → get_or (map (λ (x : Point). x.place) notes.point) k 0 ≡ p.place
place_at notes k p there =
    get_or_from_slice_get (map (λ (x : Point). x.place) notes.point) k p.place 0
    (slice_get-map (λ (x : Point). x.place) notes.point k ∙ ap (option_map (λ (x : Point). x.place)) there)

pub points_rise : (notes : Notes) → Ascends notes → (j k : ℕ) (p q : Point) → j < k → slice_get notes.point j ≡ Some p
    → slice_get notes.point k ≡ Some q → p.place < q.place
points_rise notes up j k p q less there here =
    let places : List ℕ = map (λ (x : Point). x.place) notes.point in
    let inside : k < length places = let l = slice_get_within notes.point k q here in
    let m = length-map notes.point (λ (x : Point). x.place) in omega arith in
    let n : ℕ = k - (j + 1) in
    let e : j + suc n ≡ k = omega arith in
    let h : get_or places j 0 < get_or places k 0 = subst (λ i. get_or places j 0 < get_or places i 0) e
    (numbers_rise places up.points n j (omega arith)) in
    let a = place_at notes j p there in
    let b = place_at notes k q here in
    omega arith

places_up : (notes : Notes) → Ascends notes → IsNonDecreasingBy (λ (p : Point). p.place) notes.point
places_up notes up i j d below within =
    ⊎_elim (λ less.
    let there = slice_get-get_or notes.point i d (omega arith) in
    let here = slice_get-get_or notes.point j d within in
    let rise = points_rise notes up i j _ _ less there here in omega arith)
    (λ back. let same : i ≡ j = omega arith in let e : (get_or notes.point i d).place ≡ (get_or notes.point j d).place =
    ap (λ k. (get_or notes.point k d).place) same in omega arith)
    (cases_lt i j)

pub points_parted : (notes : Notes) (place : ℕ) → Ascends notes → IsPartitionedBy (λ (p : Point). ltb p.place place) notes.point
points_parted notes place up = IsPartitionedBy-ltb (λ (p : Point). p.place) notes.point place (places_up notes up)

pub points_from : (notes : Notes) (place n : ℕ) → IsPartitionPoint (λ (p : Point). ltb p.place place ≡ true)
    (λ (p : Point). ltb p.place place ≡ false) notes.point n → PointsFrom notes place n
points_from notes place n parted k p there =
    let inside : k < length notes.point = slice_get_within notes.point k p there in
    let at : get_or notes.point k p ≡ p = get_or_from_slice_get notes.point k p p there in (
      λ less. ltb-true _ _ (subst (λ (q : Point). ltb q.place place ≡ true) at (parted.0 k p (omega arith) less)),
      λ above. ltb-false _ _ (subst (λ (q : Point). ltb q.place place ≡ false) at (parted.1 k p above inside)),
    )
