-- Where the checker stands in the list of relocations, which ascend.
use Rattle.std.proofs.Common.{◌≡◌, ℕ, zero, suc, ◌+◌, ◌-◌, ◌<◌, ◌≤◌, List, [], ◌∷◌, length, get_or, refl, sym, ap, subst, ◌∙◌, ⊎_elim}
use Rattle.std.proofs.Common.{arith, ltb, nat_eq, ◌||◌}
use Rattle.std.specs.Prelude.{Bool, true, false, Option, None, Some, is_some, slice_get}
use Rattle.std.specs.List.{Contains, list_any}
use Rattle.std.specs.List.Sorted.{IsNonDecreasingBy, IsPartitionPoint, IsPartitionedBy}
use Rattle.std.proofs.lemmas.Bool.{cases_lt, ltb-false, ltb-true}
use Rattle.std.proofs.lemmas.List.Sorted.{IsPartitionedBy-ltb}
use Rattle.std.proofs.lemmas.Bool.Decides.{nat_tests}
use Rattle.std.proofs.lemmas.Option.{get_or_from_slice_get, same_Some, slice_get-get_or, slice_get_within}
use Rattle.ebc_insn.specs.declared.Insn.{Insn}
use Rattle.note_types.specs.declared.notes.Notes.{Notes}
use Rattle.pe_image.specs.Images.{IsImage}
use Rattle.pe_image.specs.declared.image.Image.{Image}
use Rattle.rules_image.specs.Images.{IsUnrelocated, RelocationHolds, is_absolute, is_address_move, is_relocated, named_at, touches}
use Rattle.rules_image.specs.Images.{reloc_at, NamesAt}
use Rattle.rules_image.specs.Marks.{RelocsFrom}
use Rattle.pe_image.specs.Mapped.{named_place}

-- a relocation begins at the end of those before it, or later
pub relocs_ascend : (image : Image) → IsImage image → (j k r q : ℕ) → j < k → slice_get image.relocs j ≡ Some r
    → slice_get image.relocs k ≡ Some q → r + 8 ≤ q
relocs_ascend image sound j k r q less there here =
    let inside : k < length image.relocs = slice_get_within image.relocs k q here in
    let rise = sound.apart j k 0 less inside in
    let a : get_or image.relocs j 0 ≡ r = get_or_from_slice_get image.relocs j r 0 there in
    let b : get_or image.relocs k 0 ≡ q = get_or_from_slice_get image.relocs k q 0 here in
    omega arith

-- the relocation that a list has, at its number
pub there_at : (xs : List ℕ) (r : ℕ) (c : Contains xs r) → slice_get xs c.0 ≡ Some r
there_at xs r c = slice_get-get_or xs c.0 r c.1 ∙ ap (λ x. Some x) c.2

pub contains_at : (xs : List ℕ) (k r : ℕ) → slice_get xs k ≡ Some r → Contains xs r
contains_at xs k r e = (k, slice_get_within xs k r e, get_or_from_slice_get xs k r r e)

-- a test that some number is this one
any_one : (xs : List ℕ) (r k : ℕ) → slice_get xs k ≡ Some r → list_any (nat_eq r) xs ≡ true
any_one [] r k e = absurd cc
any_one (x ∷ xs) r zero e =
    let same : x ≡ r = same_Some x r e in
    let yes : nat_eq r x ≡ true = grind (arith, nat_tests) in rw yes refl
any_one (x ∷ xs) r (suc k) e = let rest = any_one xs r k e in or_right (nat_eq r x) _ rest
  where
    or_right : (a b : Bool) → b ≡ true → (a || b) ≡ true
    or_right true b e = refl
    or_right false b e = e

any_none : (xs : List ℕ) (r : ℕ) → ((k : ℕ) → slice_get xs k ≡ Some r → ⊥) → list_any (nat_eq r) xs ≡ false
any_none [] r none = refl
any_none (x ∷ xs) r none =
    let other : x ≡ r → ⊥ = λ e. none 0 (ap (λ y. Some y) e) in
    let other_is : nat_eq r x ≡ false = grind (arith, nat_tests) in
    let rest = any_none xs r (λ k. none (suc k)) in
    rw other_is rest

reloc_is : (image : Image) (next : ℕ) → reloc_at image next ≡ named_at image next (is_relocated image next)
unfolding reloc_at
reloc_is image next = refl

module _ (image : Image) (sound : IsImage image) (at next n : ℕ) (from : RelocsFrom image at n) (later : at < next) where
  abbrev NoneTouched : Type 0
  NoneTouched = (r : ℕ) → slice_get image.relocs n ≡ Some r → next ≤ r

  -- a relocation that touches the bytes is the one where the checker stands, or that one touches them too
  first_touched : (k r : ℕ) → slice_get image.relocs k ≡ Some r → touches at next r → n ≤ k
  first_touched k r there t = ⊎_elim (λ less. absurd (let h = (from k r there).0 less in omega (arith, t.1))) (λ h. h) (cases_lt k n)

  pub none_touched : NoneTouched → IsUnrelocated image at next
  none_touched none r c t =
      let there : slice_get image.relocs c.0 ≡ Some r = there_at image.relocs r c in
      let low = first_touched c.0 r there t in
      ⊎_elim (λ more.
      let inside : n < length image.relocs = let l = c.1 in omega arith in
      let q : ℕ = get_or image.relocs n r in
      let here : slice_get image.relocs n ≡ Some q = slice_get-get_or image.relocs n r inside in
      let high = none q here in
      let rise = relocs_ascend image sound n c.0 q r more here there in
      absurd (omega (arith, t.0)))
      (λ back. let same : c.0 ≡ n = omega arith in let high = none r (subst (λ k. slice_get image.relocs k ≡ Some r) same there) in
      absurd (omega (arith, t.0)))
      (cases_lt n c.0)

  not_there : IsUnrelocated image at next → is_relocated image next ≡ false
  not_there none =
      any_none image.relocs (next - 8) (λ k e. none (next - 8) (contains_at image.relocs k (next - 8) e) (omega arith, omega arith))

  pub reloc_none : IsUnrelocated image at next → reloc_at image next ≡ None
  unfolding reloc_at
  reloc_none none = rw (not_there none) refl

  module _ (r : ℕ) (there : slice_get image.relocs n ≡ Some r) where
    pub reloc_some : r + 8 ≡ next → reloc_at image next ≡ Some (named_place image r)
    unfolding reloc_at
    reloc_some ends =
        let back : next - 8 ≡ r = omega arith in
        let yes : is_relocated image next ≡ true = any_one image.relocs (next - 8) n (there ∙ ap (λ x. Some x) (sym back)) in
        rw yes (ap (λ x. Some (named_place image x)) back)

    is_touched : r < next → touches at next r
    is_touched less = let h = (from n r there).1 (omega arith) in (less, h)

  module _ (notes : Notes) (i : Insn) where
    -- ---- where no relocation touches the instruction

    pub holds_none : NoneTouched → is_absolute i ≡ false → RelocationHolds image notes at i next None
    holds_none none plain =
        let free = none_touched none in
        record {
          only = λ r c t. absurd (free r c t);
          absolute = λ e. absurd (let both : true ≡ false = sym e ∙ plain in cc);
          named = sym (reloc_none free) ∙ reloc_is image next;
          inside = tt;
          thing = tt;
        }

    pub fails_none : NoneTouched → is_absolute i ≡ true → RelocationHolds image notes at i next (reloc_at image next) → ⊥
    fails_none none absolute h =
        let given : is_some (reloc_at image next) ≡ true = h.absolute absolute in
        let is : reloc_at image next ≡ None = reloc_none (none_touched none) in
        let none_there : is_some (reloc_at image next) ≡ false = rw is refl in cc

    -- ---- where one does

    module _ (r : ℕ) (there : slice_get image.relocs n ≡ Some r) (less : r < next) where
      pub fails_form : (r + 8 ≡ next → (is_absolute i || is_address_move i) ≡ true → ⊥)
          → RelocationHolds image notes at i next (reloc_at image next) → ⊥
      fails_form bad h = let only = h.only r (contains_at image.relocs n r there) (is_touched r there less) in bad only.0 only.1

      pub fails_named : r + 8 ≡ next → ((p : ℕ) → NamesAt image notes i r p → ⊥)
          → RelocationHolds image notes at i next (reloc_at image next) → ⊥
      fails_named ends none h =
          let is : reloc_at image next ≡ Some (named_place image r) = reloc_some r there ends in
          let again : RelocationHolds image notes at i next (Some (named_place image r)) =
          subst (RelocationHolds image notes at i next) is h in
          none (named_place image r) (record { named_is = refl; inside = again.inside; thing = again.thing })

      pub holds_some : r + 8 ≡ next → (is_absolute i || is_address_move i) ≡ true → (p : ℕ) → NamesAt image notes i r p
          → RelocationHolds image notes at i next (Some p)
      holds_some ends form p names = record {
        only = only;
        absolute = λ e. refl;
        named = ap (λ x. Some x) names.named_is ∙ sym (reloc_some r there ends) ∙ reloc_is image next;
        inside = names.inside;
        thing = names.thing;
      }
        where
          only : (q : ℕ) → Contains image.relocs q → touches at next q → (q + 8 ≡ next) × ((is_absolute i || is_address_move i) ≡ true)
          only q c t =
              let here : slice_get image.relocs c.0 ≡ Some q = there_at image.relocs q c in
              let low = first_touched c.0 q here t in
              ⊎_elim (λ more. absurd (let rise = relocs_ascend image sound n c.0 r q more there here in omega (arith, t.0)))
              (λ back. let same : c.0 ≡ n = omega arith in
              let one : q ≡ r = same_Some q r (sym (subst (λ k. slice_get image.relocs k ≡ Some q) same here) ∙ there) in
              (omega arith, form))
              (cases_lt n c.0)

      pub is_named : r + 8 ≡ next → (p : ℕ) → NamesAt image notes i r p → Some p ≡ reloc_at image next
      is_named ends p names = ap (λ x. Some x) names.named_is ∙ sym (reloc_some r there ends)

  -- a relocation that touches the instruction ends with it, where the rule holds
  pub ends_with : (notes : Notes) (i : Insn) (reloc : Option ℕ) → RelocationHolds image notes at i next reloc → (r : ℕ)
      → slice_get image.relocs n ≡ Some r → r < next → r + 8 ≡ next
  ends_with notes i reloc h r there less = (h.only r (contains_at image.relocs n r there) (is_touched r there less)).0

  pub mark_behind : (r : ℕ) → slice_get image.relocs n ≡ Some r → r + 8 ≡ next → RelocsFrom image next (n + 1)
  mark_behind r there ends k q here = (
    λ before. ⊎_elim (λ below. let h = (from k q here).0 below in omega arith)
        (λ above. let e : k ≡ n = omega arith in let one : q ≡ r =
        same_Some q r (sym (subst (λ j. slice_get image.relocs j ≡ Some q) e here) ∙ there) in omega arith)
        (cases_lt k n),
    λ above. let rise = relocs_ascend image sound n k r q (omega arith) there here in omega arith,
  )

  pub mark_same : NoneTouched → RelocsFrom image next n
  mark_same none k q here = (
    λ less. let h = (from k q here).0 less in omega arith,
    λ above. ⊎_elim (λ more.
        let inside : n < length image.relocs = let l = slice_get_within image.relocs k q here in omega arith in
        let p : ℕ = get_or image.relocs n q in
        let there : slice_get image.relocs n ≡ Some p = slice_get-get_or image.relocs n q inside in
        let high = none p there in
        let rise = relocs_ascend image sound n k p q more there here in omega arith)
        (λ back. let e : k ≡ n = omega arith in let high = none q (subst (λ j. slice_get image.relocs j ≡ Some q) e here) in omega arith)
        (cases_lt n k),
  )

-- ---- where a binary search ends

relocs_up : (image : Image) → IsImage image → IsNonDecreasingBy (λ (r : ℕ). r) image.relocs
relocs_up image sound i j d below within =
    ⊎_elim (λ less. let rise = sound.apart i j d less within in omega arith)
    (λ back. let same : i ≡ j = omega arith in let e : get_or image.relocs i d ≡ get_or image.relocs j d =
    ap (λ k. get_or image.relocs k d) same in omega arith)
    (cases_lt i j)

pub relocs_parted : (image : Image) (bound : ℕ) → IsImage image → IsPartitionedBy (λ (r : ℕ). ltb r bound) image.relocs
relocs_parted image bound sound = IsPartitionedBy-ltb (λ (r : ℕ). r) image.relocs bound (relocs_up image sound)

pub relocs_from : (image : Image) (place n : ℕ) → IsPartitionPoint (λ (r : ℕ). ltb r (place - 7) ≡ true)
    (λ (r : ℕ). ltb r (place - 7) ≡ false) image.relocs n → RelocsFrom image place n
relocs_from image place n parted k r there =
    let inside : k < length image.relocs = slice_get_within image.relocs k r there in
    let at : get_or image.relocs k r ≡ r = get_or_from_slice_get image.relocs k r r there in (
      λ less. let h : r < place - 7 = ltb-true _ _ (subst (λ q. ltb q (place - 7) ≡ true) at (parted.0 k r (omega arith) less)) in
          omega arith,
      λ above. let h : place - 7 ≤ r = ltb-false _ _ (subst (λ q. ltb q (place - 7) ≡ false) at (parted.1 k r above inside)) in omega arith,
    )
