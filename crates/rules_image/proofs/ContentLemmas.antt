-- The content of static objects: the static object that a pointer is linked to, and the pointers at which relocations begin.
use Rattle.std.proofs.Common.{◌≡◌, ◌↔◌, ℕ, ◌+◌, ◌*◌, ◌/◌, ◌%◌, ◌<◌, ◌≤◌, Bool, true, false, ◌&&◌, List, get_or, length, refl, sym, ap}
use Rattle.std.proofs.Common.{subst, ◌∙◌, ⊎_elim, arith}
use Rattle.std.specs.Prelude.{IsTrue, Some, nat_eq, nat_le, slice_get}
use Rattle.std.specs.List.{Contains, list_any}
use Rattle.std.proofs.lemmas.Bool.{and_from, and_parts, cases_lt, eq-eqb, eqb-true, le-leb, leb-true}
use Rattle.std.proofs.lemmas.List.Folds.{Any-from_list_any, list_any_at}
use Rattle.std.proofs.lemmas.Nat.{div-add-mod', div-mul-add, mod-mul-add}
use Rattle.std.proofs.lemmas.Option.{get_or_from_slice_get, slice_get-get_or, slice_get_within}
use Rattle.note_types.specs.Cells.{cell_size}
use Rattle.note_types.specs.Shapes.{IsShape, end_at, size_at, start_at}
use Rattle.note_types.specs.declared.cell.Cell.{Cell}
use Rattle.note_types.specs.declared.cell.Cell.TheVariants as cell
use Rattle.note_types.specs.declared.notes.Notes.{Notes}
use Rattle.note_types.specs.declared.notes.Static.{Static}
use Rattle.note_types.specs.declared.shape.Field.{Field}
use Rattle.note_types.specs.declared.shape.Shape.{Shape}
use Rattle.pe_image.specs.Images.{IsImage}
use Rattle.pe_image.specs.declared.image.Image.{Image}
use Rattle.rules_image.specs.Images.{IsBlank, IsLinked, IsStaticAt, IsUnrelocated, IsZero, RelocatesPointers, extent, field_place}
use Rattle.rules_image.proofs.RangesLemmas.{same_number}
use Rattle.rules_image.proofs.Relocs.{contains_at, relocs_ascend, there_at}
use Rattle.rules_image.specs.Contents.{HasPointer, MayAllBeZero, RelocatesBelow, is_pointer_at, is_static_of, is_wide_pointer}
use Rattle.rules_image.specs.Marks.{RelocsFrom}
use Rattle.pe_image.specs.Mapped.{named_place}

-- ---- tests of the items of a list

any_item : {X : Type 0} (p : X → Bool) (xs : List X) → list_any p xs ≡ true → (k : ℕ) × (x : X) × (slice_get xs k ≡ Some x) × (p x ≡ true)
any_item p xs e =
    let a = Any-from_list_any p xs e in
    (a.0, a.1, slice_get-get_or xs a.0 a.1 a.2 ∙ ap (λ x. Some x) a.3, a.4)

item_any : {X : Type 0} (p : X → Bool) (xs : List X) (k : ℕ) (x : X) → slice_get xs k ≡ Some x → p x ≡ true → list_any p xs ≡ true
item_any p xs k x there passes = list_any_at p xs k x (slice_get_within xs k x there) (ap p (get_or_from_slice_get xs k x x there) ∙ passes)

-- ---- links

module _ (notes : Notes) (place shape count : ℕ) where
  pub static_found : list_any (is_static_of place shape count) notes.statics ≡ true → IsStaticAt notes place shape count
  static_found e =
      let a = any_item (is_static_of place shape count) notes.statics e in
      let parts = and_parts (nat_eq a.1.place place && nat_eq a.1.shape shape) (nat_le count a.1.count) a.3 in
      let same = and_parts (nat_eq a.1.place place) (nat_eq a.1.shape shape) parts.0 in
      record {
        k = a.0;
        x = a.1;
        there = a.2;
        place_is = eqb-true a.1.place place same.0;
        shape_is = eqb-true a.1.shape shape same.1;
        enough = leb-true count a.1.count parts.1;
      }

  pub found_static : IsStaticAt notes place shape count → list_any (is_static_of place shape count) notes.statics ≡ true
  found_static h =
      item_any (is_static_of place shape count) notes.statics h.k h.x h.there
      (and_from (nat_eq h.x.place place && nat_eq h.x.shape shape) (nat_le count h.x.count)
      (and_from (nat_eq h.x.place place) (nat_eq h.x.shape shape) (eq-eqb h.x.place place h.place_is) (eq-eqb h.x.shape shape h.shape_is))
      (le-leb count h.x.count h.enough))

pub linked : (image : Image) (notes : Notes) (place shape count named : ℕ) (b : Bool) → Contains image.relocs place
    → named ≡ named_place image place
    → b ≡ list_any (is_static_of named shape count) notes.statics → IsTrue b ↔ IsLinked image notes place shape count
linked image notes place shape count named b c same is = (
  λ e. record {
    relocated = c;
    named = subst (λ q. IsStaticAt notes q shape count) same
        (static_found notes named shape count (sym is ∙ e));
  },
  λ h. is ∙ found_static notes named shape count (subst (λ q. IsStaticAt notes q shape count) (sym same) h.named),
)

-- ---- objects that depend on the width

pub blank : (image : Image) (x : Static) (s : Shape) (end : ℕ) (fields : List Field) (b : Bool) → end ≡ x.place + extent x s
    → fields ≡ s.fields
    → IsUnrelocated image x.place end × IsZero image x.place end → IsTrue b ↔ MayAllBeZero fields → IsTrue b ↔ IsBlank image x s
blank image x s end fields b end_is fields_are clear may =
    let same : IsTrue b ↔ MayAllBeZero s.fields = subst (λ (ys : List Field). IsTrue b ↔ MayAllBeZero ys) fields_are may in (
      λ e. record {
        zero_bytes = subst (λ z. IsZero image x.place z) end_is clear.1;
        unrelocated = subst (λ z. IsUnrelocated image x.place z) end_is clear.0;
        cells = same.0 e;
      },
      λ h. same.1 h.cells,
    )

pub blank_clear : (image : Image) (x : Static) (s : Shape) (end : ℕ) → end ≡ x.place + extent x s → IsBlank image x s
    → IsUnrelocated image x.place end × IsZero image x.place end
blank_clear image x s end end_is h = (
  subst (λ z. IsUnrelocated image x.place z) (sym end_is) h.unrelocated,
  subst (λ z. IsZero image x.place z) (sym end_is) h.zero_bytes,
)

-- ---- places of pointers

wide_is : (c : Cell) → is_wide_pointer c ≡ true → (t n : ℕ) × (null : Bool) × (c ≡ cell.P64 t n null)
wide_is (cell.P64 t n null) e = (t, n, null, refl)
wide_is c e = absurd (let bad : false ≡ true = e in cc)

is_wide : (c : Cell) (t n : ℕ) (null : Bool) → c ≡ cell.P64 t n null → is_wide_pointer c ≡ true
is_wide c t n null e = ap is_wide_pointer e

-- a byte of an object is one of an instance
quotient : (at size j start : ℕ) → at ≡ j * size + start → start < size → at / size ≡ j
quotient at size j start e less = ap (λ z. z / size) e ∙ div-mul-add j size start less

remainder : (at size j start : ℕ) → at ≡ j * size + start → start < size → at % size ≡ start
remainder at size j start e less = ap (λ z. z % size) e ∙ mod-mul-add j size start less

-- bytes of an object from its place on, by a size of its instances
module _ (x : Static) (s : Shape) (place at size : ℕ) (fits : IsShape s) (whole : x.place + at ≡ place) (size_is : size ≡ size_at 8 s) where
  starts_inside : (h : HasPointer x s place) → start_at 8 h.2 < size_at 8 s
  starts_inside h =
      let inside : end_at 8 h.2 ≤ size_at 8 s = fits.at8.inside h.1 h.2 h.7 in
      let wide : cell_size 8 h.2.cell ≡ 8 = ap (cell_size 8) h.8 in
      omega arith

  is_byte : (h : HasPointer x s place) → at ≡ h.0 * size + start_at 8 h.2
  is_byte h =
      let place_is : place ≡ field_place x s h.0 h.2 = h.9 in
      let byte : at ≡ h.0 * size_at 8 s + start_at 8 h.2 = omega arith in
      byte ∙ ap (λ z. h.0 * z + start_at 8 h.2) (sym size_is)

  instance_is : (h : HasPointer x s place) → at / size ≡ h.0
  instance_is h = quotient at size h.0 (start_at 8 h.2) (is_byte h) (subst (λ z. start_at 8 h.2 < z) (sym size_is) (starts_inside h))

  start_is : (h : HasPointer x s place) → at % size ≡ start_at 8 h.2
  start_is h = remainder at size h.0 (start_at 8 h.2) (is_byte h) (subst (λ z. start_at 8 h.2 < z) (sym size_is) (starts_inside h))

  pub no_instance : x.count ≤ at / size → HasPointer x s place → ⊥
  no_instance past h = let same = instance_is h in let within = h.6 in omega arith

  has_pointer : at / size < x.count → list_any (is_pointer_at (at % size)) s.fields ≡ true → HasPointer x s place
  has_pointer within e =
      let a = any_item (is_pointer_at (at % size)) s.fields e in
      let parts = and_parts (is_wide_pointer a.1.cell) (nat_eq (start_at 8 a.1) (at % size)) a.3 in
      let wide = wide_is a.1.cell parts.0 in
      let begins : start_at 8 a.1 ≡ at % size = eqb-true (start_at 8 a.1) (at % size) parts.1 in
      let byte : at / size * size + at % size ≡ at = div-add-mod' at size in
      let same : at / size * size + at % size ≡ at / size * size_at 8 s + start_at 8 a.1 = ap (λ z. at / size * z + at % size) size_is
      ∙ ap (λ z. at / size * size_at 8 s + z) (sym begins) in
      let there : at / size * size_at 8 s + start_at 8 a.1 ≡ at = sym same ∙ byte in (
        at / size,
        a.0,
        a.1,
        wide.0,
        wide.1,
        wide.2,
        within,
        a.2,
        wide.3,
        sum_is (x.place) at place (at / size * size_at 8 s) (start_at 8 a.1) whole there,
      )
    where
      sum_is : (p at place a b : ℕ) → p + at ≡ place → a + b ≡ at → place ≡ p + a + b
      sum_is p at place a b e f = omega arith

  pub pointer_found : (b : Bool) → at / size < x.count → b ≡ list_any (is_pointer_at (at % size)) s.fields → IsTrue b ↔ HasPointer x s place
  pointer_found b within is = (
    λ e. has_pointer within (sym is ∙ e),
    λ h. is ∙ item_any (is_pointer_at (at % size)) s.fields h.1 h.2 h.7
        (and_from (is_wide_pointer h.2.cell) (nat_eq (start_at 8 h.2) (at % size)) (is_wide h.2.cell h.3 h.4 h.5 h.8)
        (eq-eqb (start_at 8 h.2) (at % size) (sym (start_is h)))),
  )

-- ---- relocations, one more at a time

pub read_at : (xs ys : List ℕ) (n : ℕ) → ys ≡ xs → n < length ys → slice_get xs n ≡ Some (get_or ys n 0)
read_at xs ys n same within = subst (λ (zs : List ℕ). slice_get zs n ≡ Some (get_or ys n 0)) same (slice_get-get_or ys n 0 within)

module _ (image : Image) (x : Static) (s : Shape) where
  pub relocates_none : (n : ℕ) → RelocsFrom image x.place n → RelocatesBelow image x s n
  relocates_none n from k r less there t = absurd (let ends = (from k r there).0 less in omega (arith, t.1))

  pub relocates_more : (n r : ℕ) → slice_get image.relocs n ≡ Some r → HasPointer x s r → RelocatesBelow image x s n
      → RelocatesBelow image x s (n + 1)
  relocates_more n r there h below k q less here t =
      ⊎_elim (λ before. below k q before here t)
      (λ back. let e : n ≡ k = omega arith in subst (HasPointer x s) (same_number image.relocs n k r q e there here) h)
      (cases_lt k n)

  pub relocates_all : (n : ℕ) → length image.relocs ≤ n → RelocatesBelow image x s n → RelocatesPointers image x s
  relocates_all n past below r c t = let l : c.0 < length image.relocs = c.1 in below c.0 r (omega arith) (there_at image.relocs r c) t

  pub relocates_past : IsImage image → (n q : ℕ) → slice_get image.relocs n ≡ Some q → x.place + extent x s ≤ q → RelocatesBelow image x s n
      → RelocatesPointers image x s
  relocates_past sound n q there past below r c t =
      let here : slice_get image.relocs c.0 ≡ Some r = there_at image.relocs r c in
      ⊎_elim (λ before. below c.0 r before here t)
      (λ from_n. ⊎_elim (λ more. absurd (let rise = relocs_ascend image sound n c.0 q r more there here in omega (arith, t.0)))
      (λ back. absurd (let e : n ≡ c.0 = omega arith in let same : q ≡ r = same_number image.relocs n c.0 q r e there here in
      omega (arith, t.0)))
      (cases_lt n c.0))
      (cases_lt c.0 n)

  pub relocates_not : (first n r : ℕ) → RelocsFrom image x.place first → first ≤ n → slice_get image.relocs n ≡ Some r
      → r < x.place + extent x s → (HasPointer x s r → ⊥) → RelocatesPointers image x s → ⊥
  relocates_not first n r from later there before no_pointer all =
      no_pointer (all r (contains_at image.relocs n r there) (before, (from n r there).1 later))
