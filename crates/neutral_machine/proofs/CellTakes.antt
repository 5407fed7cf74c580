-- A cell takes exactly the values that fit its content type.
use Rattle.neutral_machine.proofs.Common.{◌≡◌, ℕ, zero, pos, ◌+◌, ◌-◌, ◌*◌, ◌/◌, ◌^◌, ◌<◌, ◌≤◌, Bool, true, false, ◌&&◌, ◌||◌}
use Rattle.neutral_machine.proofs.Common.{if◌then◌else◌, nat_lt, nat_le, nat_eq, List, Option, Some, None, slice_get, refl, sym, ap, ap₂}
use Rattle.neutral_machine.proofs.Common.{◌∙◌, subst, arith, inl, inr, ⊎_elim, le_refl, lt-ltb, ltb-true, le-leb, leb-true, eq-eqb}
use Rattle.neutral_machine.proofs.Common.{eqb-true, and_from, and_parts, or_cases, false≢true, row_fits, div-mul-add, wrap64, size_at, Cell}
use Rattle.neutral_machine.proofs.Common.{Notes, Shape, FitsPlain, IsNumber, IsPointer, IsSuccess, IsError, IsHandle, IsEntry, OrNull}
use Rattle.neutral_machine.proofs.Common.{fits_cell, TypedObject, shape_of, Instance, instance_at, starts_at, starts_if, instance_of}
use Rattle.neutral_machine.proofs.Common.{is_null, has_instances, Neutral, Num, At, Handle, Method, Entry, Error, ObjectOf, number, null}
use Rattle.neutral_machine.proofs.Common.{plain, word}
use Rattle.std.proofs.{Common.Decides, Math.Nat.dvd_of_mod-eq-zero}
use Rattle.std.proofs.lemmas.{Bool.or_left, Bool.or_right, Nat.pow_pos}
use Rattle.note_types.specs.Cells.{IsBoundedCell, content_type}
use Rattle.neutral_machine.specs.Locations.{fits_bits, is_error, is_instance, room_if}
use Rattle.neutral_machine.specs.CellLaw.{IsReduced, AreSmall, CellsTakeWhatFits}
use Rattle.note_types.specs.declared.cell.Cell.TheVariants as cell
use Rattle.neutral_machine.specs.Locations as locations

-- ---- numbers

-- a value that is a plain number in so many bits
record IsPlain (bits : ℕ) (v : Neutral) : Type 0 where
  x : ℕ
  is : v ≡ number x
  small : x < 2 ^ bits

plain_bits : (bits : ℕ) (v : Neutral) → IsReduced v → fits_bits bits (plain v) ≡ true → IsPlain bits v
plain_bits bits (Num zero c) r h = let l = ltb-true (word c) (2 ^ bits) h in let k = r.1 in let e : word c ≡ c = omega (arith, k) in
    record { x = c; is = refl; small = omega (arith, l, e) }
plain_bits bits v r h = absurd (false≢true h)

pub bits_fit : (bits x : ℕ) (v : Neutral) → v ≡ number x → x < 2 ^ bits → 2 ^ bits ≤ 2 ^ 64 → fits_bits bits (plain v) ≡ true
bits_fit bits x v e l h = ap (λ z. fits_bits bits (plain z)) e ∙ lt-ltb (word x) (2 ^ bits)
    (let w : word x ≡ x = omega (arith, l, h) in omega (arith, w, l))

-- a cell of so many bits takes the numbers of so many bits
number_taken : (bits : ℕ) (v : Neutral) → IsReduced v → 2 ^ bits ≤ 2 ^ 64
    → Decides (fits_bits bits (plain v)) (IsNumber 0 (2 ^ bits - 1) 1 v)
number_taken bits v r h = (
  λ e. let p = plain_bits bits v r e in let l = p.small in record {
    x = p.x;
    is = p.is;
    from = omega arith;
    to = omega (arith, l);
    divided = dvd_of_mod-eq-zero 1 (omega arith);
  },
  λ f. let l = f.to in bits_fit bits f.x v f.is (below f.x l) h,
)
  where
    below : (x : ℕ) → x ≤ 2 ^ bits - 1 → x < 2 ^ bits
    below x l = let p = pow_pos bits in omega (arith, l, p)

-- ---- statuses, handles, thunks, methods

error_taken : (v : Neutral) → is_error v ≡ true → IsError v
error_taken (Error k) h = record { code = k; is = refl; small = ltb-true k (2 ^ 31) h }
error_taken v h = absurd (false≢true h)

null_taken : (v : Neutral) → is_null v ≡ true → v ≡ null
null_taken (Num n c) h = let p = and_parts (nat_eq n 0) (nat_eq c 0) h in ap₂ Num (eqb-true n 0 p.0) (eqb-true c 0 p.1)
null_taken v h = absurd (false≢true h)

handle_taken : (v : Neutral) → locations.is_handle v ≡ true → IsHandle v
handle_taken (Handle k) h = record { k = k; is = refl }
handle_taken v h = absurd (false≢true h)

entry_taken : (v : Neutral) → locations.is_entry v ≡ true → IsEntry v
entry_taken (Entry k) h = record { func = k; is = refl }
entry_taken v h = absurd (false≢true h)

method_taken : (m : ℕ) (v : Neutral) → locations.is_method m v ≡ true → v ≡ Method m
method_taken m (Method k) h = ap Method (eqb-true k m h)
method_taken m v h = absurd (false≢true h)

-- ---- pointers

module _ (notes : Notes) (objects : List TypedObject) (small : AreSmall notes objects) where
  -- the words of a pointer at the start of an instance
  units_are : (j n : ℕ) → word (j * n + wrap64 (pos 0)) ≡ word (j * n)
  units_are j n = ap word (let e : j * n + wrap64 (pos 0) ≡ j * n = omega arith in e)

  -- what is found as an instance with so many from there on is a pointer to so many
  starts_fit : (s count k n c : ℕ) (o : TypedObject) → slice_get objects k ≡ Some o
      → is_instance objects s count (starts_at notes k n c o) ≡ true → IsPointer notes objects s count (pos 0) (pos 0) (At (ObjectOf k) n c)
  starts_fit s count k n c o there h = go (nat_lt i o.count && (nat_eq n (word (i * S.n)) && nat_eq c (word (i * S.c)))) refl h
    where
      S : Shape
      S = shape_of notes o.shape

      i : ℕ
      i = instance_at S n c

      go : (b : Bool) → (nat_lt i o.count && (nat_eq n (word (i * S.n)) && nat_eq c (word (i * S.c)))) ≡ b
          → is_instance objects s count (if b then Some (record { object = k; instance = i }) else None) ≡ true
          → IsPointer notes objects s count (pos 0) (pos 0) (At (ObjectOf k) n c)
      go false e g = absurd (false≢true g)
      go true e g =
          let p = and_parts (nat_lt i o.count) _ e in
          let q = and_parts (nat_eq n (word (i * S.n))) (nat_eq c (word (i * S.c))) p.1 in
          let room : has_instances s count i o ≡ true = sym (ap (room_if s count i) there) ∙ g in
          let r = and_parts (nat_eq o.shape s) (nat_le (i + count) o.count) room in
          let same : o.shape ≡ s = eqb-true o.shape s r.0 in
          record {
            k = k;
            j = i;
            object = o;
            is = ap₂ (At (ObjectOf k)) (eqb-true _ _ q.0 ∙ ap (λ y. word (i * (shape_of notes y).n)) same
                ∙ sym (units_are i (shape_of notes s).n))
                (eqb-true _ _ q.1 ∙ ap (λ y. word (i * (shape_of notes y).c)) same ∙ sym (units_are i (shape_of notes s).c));
            there = there;
            shape = same;
            room = leb-true (i + count) o.count r.1;
          }

  instance_taken : (s count : ℕ) (v : Neutral) → is_instance objects s count (instance_of notes objects v) ≡ true
      → IsPointer notes objects s count (pos 0) (pos 0) v
  unfolding instance_of
  instance_taken s count (At (ObjectOf k) n c) h = by_object (slice_get objects k) refl h
    where
      by_object : (q : Option TypedObject) → slice_get objects k ≡ q → is_instance objects s count (starts_if notes k n c q) ≡ true
          → IsPointer notes objects s count (pos 0) (pos 0) (At (ObjectOf k) n c)
      by_object None there g = absurd (false≢true g)
      by_object (Some o) there g = starts_fit s count k n c o there g
  instance_taken s count v h = absurd (false≢true h)

  quotient : (j n c : ℕ) → 0 < n * 4 + c → j * n * 4 + j * c < 2 ^ 64 → word (word (j * n) * 4 + word (j * c)) / (n * 4 + c) ≡ j
  quotient j n c p l =
      let e : word (word (j * n) * 4 + word (j * c)) ≡ j * (n * 4 + c) + 0 = omega (arith, l) in
      ap (λ z. z / (n * 4 + c)) e ∙ div-mul-add j (n * 4 + c) 0 p

  -- a pointer to so many, at least one, is found as an instance with so many
  instance_fits : (s count : ℕ) (v : Neutral) → 1 ≤ count → IsPointer notes objects s count (pos 0) (pos 0) v
      → is_instance objects s count (instance_of notes objects v) ≡ true
  unfolding instance_of
  instance_fits s count v l f =
      ap (λ z. is_instance objects s count (instance_of notes objects z))
      (f.is ∙ ap₂ (At (ObjectOf f.k)) (units_are f.j S.n) (units_are f.j S.c))
      ∙ ap (λ q. is_instance objects s count (starts_if notes f.k (word (f.j * S.n)) (word (f.j * S.c)) q)) f.there
      ∙ ap (λ y. is_instance objects s count (body (shape_of notes y))) f.shape
      ∙ ap (λ i. is_instance objects s count (found i)) (quotient f.j S.n S.c wide few)
      ∙ ap (λ b. is_instance objects s count (if b then Some (record { object = f.k; instance = f.j }) else None)) yes_found
      ∙ ap (room_if s count f.j) f.there
      ∙ and_from (nat_eq f.object.shape s) (nat_le (f.j + count) f.object.count) (eq-eqb f.object.shape s f.shape)
      (le-leb (f.j + count) f.object.count f.room)
    where
      S : Shape
      S = shape_of notes s

      wide : 0 < size_at 4 S
      wide = subst (λ y. 0 < size_at 4 (shape_of notes y)) f.shape (small.wide f.k f.object f.there)

      few : f.j * S.n * 4 + f.j * S.c < 2 ^ 64
      few = let all : f.object.count * size_at 4 S ≤ 2 ^ 64 = subst (λ y. f.object.count * size_at 4 (shape_of notes y) ≤ 2 ^ 64) f.shape
          (small.few f.k f.object f.there) in
          let room = f.room in
          let row = row_fits f.j (size_at 4 S) f.object.count (size_at 4 S) (omega (arith, room, l)) (le_refl _) in
          let e : f.j * size_at 4 S ≡ f.j * S.n * 4 + f.j * S.c = omega arith in
          omega (arith, all, row, e, wide)

      found : ℕ → Option Instance
      found i =
          if nat_lt i f.object.count && (nat_eq (word (f.j * S.n)) (word (i * S.n)) && nat_eq (word (f.j * S.c)) (word (i * S.c))) then
          Some (record { object = f.k; instance = i }) else None

      body : Shape → Option Instance
      body z =
          let i = instance_at z (word (f.j * S.n)) (word (f.j * S.c)) in
          if nat_lt i f.object.count && (nat_eq (word (f.j * S.n)) (word (i * z.n)) && nat_eq (word (f.j * S.c)) (word (i * z.c))) then
          Some (record { object = f.k; instance = i }) else None

      yes_found : (nat_lt f.j f.object.count && (nat_eq (word (f.j * S.n)) (word (f.j * S.n))
          && nat_eq (word (f.j * S.c)) (word (f.j * S.c)))) ≡ true
      yes_found = let room = f.room in
          and_from _ _ (lt-ltb f.j f.object.count (omega (arith, room, l)))
          (and_from _ _ (eq-eqb (word (f.j * S.n)) _ refl) (eq-eqb (word (f.j * S.c)) _ refl))

  pointer_taken : (s count : ℕ) (may : Bool) (v : Neutral) → 1 ≤ count
      → Decides (is_instance objects s count (instance_of notes objects v) || (may && is_null v))
      (OrNull may v (IsPointer notes objects s count (pos 0) (pos 0) v))
  pointer_taken s count true v l = (
    λ h. ⊎_elim (λ i. inl (instance_taken s count v i)) (λ n. inr (null_taken v n)) (or_cases _ (is_null v) h),
    λ f. ⊎_elim (λ p. or_left _ (is_null v) (instance_fits s count v l p))
        (λ e. or_right (is_instance objects s count (instance_of notes objects v)) (is_null v) (ap is_null e)) f,
  )
  pointer_taken s count false v l = (
    λ h. ⊎_elim (λ i. instance_taken s count v i) (λ n. absurd (false≢true n)) (or_cases _ false h),
    λ f. or_left _ false (instance_fits s count v l f),
  )

  pub cell_takes : (c : Cell) → IsBoundedCell c → (v : Neutral) → IsReduced v
      → Decides (fits_cell notes objects c v) (FitsPlain notes objects (content_type c) v)
  unfolding fits_cell
  cell_takes cell.I8 k v r = number_taken 8 v r (omega arith)
  cell_takes cell.I16 k v r = number_taken 16 v r (omega arith)
  cell_takes cell.I32 k v r = number_taken 32 v r (omega arith)
  cell_takes cell.I64 k v r = number_taken 64 v r (omega arith)
  cell_takes cell.N k v r = number_taken 32 v r (omega arith)
  cell_takes cell.Stat k v r = (
    λ h. ⊎_elim (λ b. inr (success (plain_bits 31 v r b))) (λ e. inl (error_taken v e)) (or_cases (fits_bits 31 (plain v)) (is_error v) h),
    λ f. ⊎_elim
        (λ (e : IsError v). or_right (fits_bits 31 (plain v)) (is_error v) (ap is_error e.is ∙ lt-ltb e.code (2 ^ 31) e.small))
        (λ (s : IsSuccess v). or_left (fits_bits 31 (plain v)) (is_error v) (bits_fit 31 s.code v s.is s.small (omega arith))) f,
  )
    where
      success : IsPlain 31 v → IsSuccess v
      success p = record { code = p.x; is = p.is; small = p.small }
  cell_takes cell.Handle k v r = (
    λ h. ⊎_elim (λ i. inl (handle_taken v i)) (λ n. inr (null_taken v n)) (or_cases (locations.is_handle v) (is_null v) h),
    λ f. ⊎_elim (λ (e : IsHandle v). ap (λ z. locations.is_handle z || is_null z) e.is)
        (λ e. ap (λ z. locations.is_handle z || is_null z) e) f,
  )
  cell_takes cell.Entry k v r = (
    λ h. ⊎_elim (λ i. inl (entry_taken v i)) (λ n. inr (null_taken v n)) (or_cases (locations.is_entry v) (is_null v) h),
    λ f. ⊎_elim (λ (e : IsEntry v). ap (λ z. locations.is_entry z || is_null z) e.is)
        (λ e. ap (λ z. locations.is_entry z || is_null z) e) f,
  )
  cell_takes (cell.Ptr s n may) k v r = pointer_taken s n may v k.1
  cell_takes (cell.P64 s n may) k v r = pointer_taken s n may v k.1
  cell_takes (cell.Method m) k v r = (method_taken m v, λ f. ap (locations.is_method m) f ∙ eq-eqb m m refl)

pub cells_take_what_fits : CellsTakeWhatFits
cells_take_what_fits notes objects small c k v r = cell_takes notes objects small c k v r
