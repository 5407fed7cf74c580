-- What a written value that fits a type is fits the type.
use Rattle.neutral_machine.proofs.Common.{◌≡◌, ℕ, ℤ, pos, ◌+◌, ◌*◌, ◌^◌, ◌⊎◌, Bool, true, false, ◌&&◌, nat_le, nat_eq, List, Option, Some}
use Rattle.neutral_machine.proofs.Common.{None, refl, sym, ap, ap₂, ◌∙◌, subst, arith, inl, inr, slice_get, option_map_or, and_parts}
use Rattle.neutral_machine.proofs.Common.{leb-true, ltb-true, eqb-true, Notes, Ty, Value, FitsPlain, IsNumber, IsPointer, IsSuccess}
use Rattle.neutral_machine.proofs.Common.{IsError, IsHandle, IsEntry, OrNull, TypedObject, shape_of, fits, has_instances, Neutral, At}
use Rattle.neutral_machine.proofs.Common.{ObjectOf, Method, Junk, null, word, written_value, instance_value}
use Rattle.std.proofs.lemmas.Bool.Decides.{Decides-int_eq}
use Rattle.note_types.proofs.BelowLaws.{Decides-divides}
use Rattle.std.specs.Ordering.{int_eq}
use Rattle.note_types.specs.{BelowTests.divides, Types.is_start}
use Rattle.host_model.specs.ScriptValues.{fits_pointer, is_status, is_handle, is_entry, is_method, fits_range}
use Rattle.neutral_machine.specs.Written.{value_as}
use Rattle.note_types.specs.declared.types.Ty.TheVariants as ty
use Rattle.note_types.specs.declared.value.Value.TheVariants as value

module _ (notes : Notes) (made : List TypedObject) where
  number_fits : (lo hi div : ℕ) (v : Value) → fits_range lo hi div v ≡ true → IsNumber lo hi div (written_value notes made v)
  unfolding written_value
  number_fits lo hi div (value.Int n) h =
      let a = and_parts (nat_le lo n) _ h in
      let b = and_parts (nat_le n hi) (divides div n) a.1 in
      record { x = n; is = refl; from = leb-true lo n a.0; to = leb-true n hi b.0; divided = (Decides-divides div n).0 b.1 }
  number_fits lo hi div _ h = absurd (cc)

  -- an instance of a shape with so many from there on
  instance_fits : (s count o i : ℕ) (q : Option TypedObject) → slice_get made o ≡ q → option_map_or (has_instances s count i) q false ≡ true
      → IsPointer notes made s count (pos 0) (pos 0) (option_map_or
      (λ (x : TypedObject). instance_value o i (shape_of notes x.shape)) q Junk)
  instance_fits s count o i None there h = absurd (cc)
  instance_fits s count o i (Some x) there h =
      let a = and_parts (nat_eq x.shape s) (nat_le (i + count) x.count) h in
      let same : x.shape ≡ s = eqb-true x.shape s a.0 in
      let units : i * (shape_of notes x.shape).n ≡ i * (shape_of notes s).n + 0 = ap (λ y. i * (shape_of notes y).n) same ∙ omega arith in
      let bytes : i * (shape_of notes x.shape).c ≡ i * (shape_of notes s).c + 0 = ap (λ y. i * (shape_of notes y).c) same ∙ omega arith in
      record {
        k = o;
        j = i;
        object = x;
        is = ap₂ (λ y z. At (ObjectOf o) (word y) (word z)) units bytes;
        there = there;
        shape = same;
        room = leb-true (i + count) x.count a.1;
      }

  either : (may : Bool) (v : Neutral) {P : Type 0} → P → OrNull may v P
  either true v p = inl p
  either false v p = p

  start_fits : (s count : ℕ) (may : Bool) (v : Value) → fits_pointer made s count may v ≡ true
      → OrNull may (written_value notes made v) (IsPointer notes made s count (pos 0) (pos 0) (written_value notes made v))
  unfolding written_value
  start_fits s count may (value.Ptr o i) h = either may _ (instance_fits s count o i (slice_get made o) refl h)
  start_fits s count true value.Null h = inr refl
  start_fits s count false value.Null h = absurd (cc)
  start_fits s count may _ h = absurd (cc)

  pointer_fits : (s count : ℕ) (n c : ℤ) (may : Bool) (v : Value) → (is_start n c && fits_pointer made s count may v) ≡ true
      → OrNull may (written_value notes made v) (IsPointer notes made s count n c (written_value notes made v))
  pointer_fits s count n c may v h =
      let a = and_parts (is_start n c) (fits_pointer made s count may v) h in
      let b = and_parts (int_eq n (pos 0)) (int_eq c (pos 0)) a.0 in
      let units : n ≡ pos 0 = (Decides-int_eq n (pos 0)).0 b.0 in
      let bytes : c ≡ pos 0 = (Decides-int_eq c (pos 0)).0 b.1 in
      subst (λ m. OrNull may (written_value notes made v) (IsPointer notes made s count m c (written_value notes made v))) (sym units)
      (subst (λ d. OrNull may (written_value notes made v) (IsPointer notes made s count (pos 0) d (written_value notes made v)))
      (sym bytes)
      (start_fits s count may v a.1))

  status_fits : (v : Value) → is_status v ≡ true → IsError (written_value notes made v) ⊎ IsSuccess (written_value notes made v)
  unfolding written_value
  status_fits (value.StatusOk k) h = inr (record { code = k; is = refl; small = ltb-true k (2 ^ 31) h })
  status_fits (value.StatusError k) h = inl (record { code = k; is = refl; small = ltb-true k (2 ^ 31) h })
  status_fits _ h = absurd (cc)

  handle_fits : (v : Value) → is_handle v ≡ true → IsHandle (written_value notes made v) ⊎ (written_value notes made v ≡ null)
  unfolding written_value
  handle_fits (value.Handle k) h = inl (record { k = k; is = refl })
  handle_fits value.Null h = inr refl
  handle_fits _ h = absurd (cc)

  entry_fits : (v : Value) → is_entry v ≡ true → IsEntry (written_value notes made v) ⊎ (written_value notes made v ≡ null)
  unfolding written_value
  entry_fits (value.Entry f) h = inl (record { func = f; is = refl })
  entry_fits value.Null h = inr refl
  entry_fits _ h = absurd (cc)

  method_fits : (m : ℕ) (v : Value) → is_method m v ≡ true → written_value notes made v ≡ Method m
  unfolding written_value
  method_fits m (value.Method k) h = ap Method (eqb-true k m h)
  method_fits m _ h = absurd (cc)

  pub written_fits : (t : Ty) (v : Value) → fits made t v ≡ true → FitsPlain notes made t (value_as notes made t v)
  unfolding fits
  written_fits ty.Any v h = tt
  written_fits (ty.Int lo hi div) v h = number_fits lo hi div v h
  written_fits (ty.Ptr s k n c may) v h = pointer_fits s k n c may v h
  written_fits (ty.Status g) v h = status_fits v h
  written_fits ty.Handle v h = handle_fits v h
  written_fits ty.Entry v h = entry_fits v h
  written_fits (ty.Method m) v h = method_fits m v h
  written_fits t v h = absurd (cc)
