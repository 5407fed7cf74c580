-- Which function a place belongs to.
use Rattle.note_infer.proofs.Common.{◌≡◌, ℕ, true, false, get_or, ap, subst, ⊎_elim, arith, leb, Some, slice_get, IsPartitionPoint}
use Rattle.note_infer.proofs.Common.{IsPartitionedBy, cases_lt, leb-true, slice_get_within, FnNote, Notes, Image, FunctionHolds}
use Rattle.note_infer.proofs.Common.{function_before, IsWithin}
use Rattle.std.specs.List.Sorted.{IsNonDecreasingBy}
use Rattle.std.proofs.lemmas.{Bool.leb-false, List.Sorted.IsPartitionedBy-leb, Option.get_or_from_slice_get}
use Rattle.std.proofs.lemmas.Option.{slice_get-get_or}

module _ (image : Image) (notes : Notes) (all : (k : ℕ) → FunctionHolds image notes k) where
  ends_up : IsNonDecreasingBy (λ (f : FnNote). f.end) notes.function
  ends_up i j d low short =
      ⊎_elim (λ less.
      let there = slice_get-get_or notes.function i d (omega arith) in
      let here = slice_get-get_or notes.function j d short in
      let behind = function_before image notes all i j _ _ less there here in
      let range = (all j _ here).range in omega arith)
      (λ back.
      let same : i ≡ j = omega arith in
      let e : (get_or notes.function i d).end ≡ (get_or notes.function j d).end = ap (λ k. (get_or notes.function k d).end) same in
      omega arith)
      (cases_lt i j)

  pub ends_parted : (place : ℕ) → IsPartitionedBy (λ (f : FnNote). leb f.end place) notes.function
  ends_parted place = IsPartitionedBy-leb (λ (f : FnNote). f.end) notes.function place ends_up

  -- the first function that doesn't end before a place or at it is the one that has it
  pub owner_is : (place n : ℕ) → IsPartitionPoint (λ (f : FnNote). leb f.end place ≡ true) (λ (f : FnNote). leb f.end place ≡ false)
      notes.function n → (k : ℕ) (f : FnNote) → slice_get notes.function k ≡ Some f → IsWithin f place → n ≡ k
  owner_is place n parted k f there w =
      ⊎_elim (λ less.
      let inside = slice_get_within notes.function k f there in
      let g : FnNote = get_or notes.function n f in
      let here : slice_get notes.function n ≡ Some g = slice_get-get_or notes.function n f (omega arith) in
      let over = leb-false _ _ (parted.1 n f (omega arith) (omega arith)) in
      let behind = function_before image notes all n k g f less here there in
      let low = w.0 in absurd (omega arith))
      (λ from. ⊎_elim (λ less.
      let at : get_or notes.function k f ≡ f = get_or_from_slice_get notes.function k f f there in
      let past : leb f.end place ≡ true = subst (λ (g : FnNote). leb g.end place ≡ true) at (parted.0 k f (omega arith) less) in
      let end = leb-true _ _ past in
      let high = w.1 in absurd (omega arith))
      (λ back. omega arith)
      (cases_lt k n))
      (cases_lt n k)
