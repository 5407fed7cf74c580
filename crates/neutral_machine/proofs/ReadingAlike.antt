-- A number that shows a neutral value is read as the value is.
use Rattle.neutral_machine.proofs.Common.{◌≡◌, ◌≢◌, ℕ, zero, suc, ◌+◌, ◌-◌, ◌*◌, ◌/◌, ◌%◌, ◌^◌, ◌<◌, ◌≤◌, ◌⊎◌, Bool, true, false, ◌&&◌}
use Rattle.neutral_machine.proofs.Common.{if◌then◌else◌, nat_lt, nat_le, nat_eq, List, [], ◌∷◌, length, Option, Some, None, refl, sym, ap}
use Rattle.neutral_machine.proofs.Common.{ap₂, ◌∙◌, subst, arith, inl, inr, ⊎_elim, slice_get, mod-eq_of_lt, le_refl, option_or, same_Some}
use Rattle.neutral_machine.proofs.Common.{and_parts, and_from, ltb-true, eqb-true, le-leb, lt-ltb, eq-eqb, ne_eqb, row_fits, div-mul-add}
use Rattle.neutral_machine.proofs.Common.{cut_at, TypedObject, shape_of, Placement, handle_count, handle_at, thunk_at, method_at, object_at}
use Rattle.neutral_machine.proofs.Common.{shape_bytes, StatusOf, reading_of, pointer_from, Notes, Value, neutral_reading, neutral_result}
use Rattle.neutral_machine.proofs.Common.{Instance, instance_at, instance_of, starts_at, starts_if, Named, Neutral, Num, At, Handle, Method}
use Rattle.neutral_machine.proofs.Common.{Entry, Error, ObjectOf, Addresses, Shows, word, by_width}
use Rattle.std.specs.Option.{option_map}
use Rattle.std.proofs.lemmas.Nat.{mod-mul-add}
use Rattle.host_model.specs.Readings.{Anything, Number, SizeOf, Pointer, HandleOf, EntryOf, MethodOf, thing_at, instance_named, or_wild}
use Rattle.host_model.specs.Readings.{or_null, status_read, handle_named, entry_named}
use Rattle.host_model.specs.{Placements.area_step, Values.IsPast}
use Rattle.neutral_machine.specs.NeutralReadings.{as_number, as_null, as_pointer}
use Rattle.neutral_machine.specs.ReadingLaw.{ReadsAlike, ResultsAlike}
use Rattle.neutral_machine.proofs.Words.{width_word, word_pair, not_lt, if_some, if_mapped}
use Rattle.note_types.specs.declared.value.Value.TheVariants as value

-- ---- things of the native area, and instances

-- the k-th of so many things begins so far on
thing_hit : (first count k : ℕ) → k < count → thing_at first count (first + area_step * k) ≡ Some k
thing_hit first count k l =
    let x = first + area_step * k in
    let d : x - first ≡ k * 16 + 0 = omega arith in
    let t : (nat_le first x && (nat_lt (x - first) (area_step * count) && nat_eq ((x - first) % area_step) 0)) ≡ true =
    and_from _ _ (le-leb first x (omega arith)) (and_from _ _ (lt-ltb _ _ (omega (arith, l)))
    (eq-eqb _ _ (ap (λ q. q % 16) d ∙ mod-mul-add k 16 0 (omega arith)))) in
    ap (λ b. if b then Some ((x - first) / area_step) else None) t ∙ ap Some (ap (λ q. q / 16) d ∙ div-mul-add k 16 0 (omega arith))

-- an instance begins so many sizes on
instance_hit : (base size count i : ℕ) → 0 < size → i < count → instance_named base size count (base + i * size) ≡ Some i
instance_hit base size count zero p l = ap (λ b. if b then Some 0
    else (if nat_lt base (base + 0 * size) && (nat_lt (base + 0 * size - base) (count * size)
    && nat_eq ((base + 0 * size - base) % size) 0) then Some ((base + 0 * size - base) / size) else None))
    (eq-eqb (base + 0 * size) base (omega arith))
instance_hit base size count (suc i) p l =
    let x = base + suc i * size in
    let row = row_fits (suc i) size count size l (le_refl _) in
    let more : suc i * size ≡ size + i * size = omega arith in
    let d : x - base ≡ suc i * size + 0 = omega arith in
    let t : (nat_lt base x && (nat_lt (x - base) (count * size) && nat_eq ((x - base) % size) 0)) ≡ true =
    and_from _ _ (lt-ltb base x (omega (arith, more, p))) (and_from _ _ (lt-ltb _ _ (omega (arith, row, p)))
    (eq-eqb _ _ (ap (λ q. q % size) d ∙ mod-mul-add (suc i) size 0 p))) in
    ap (λ b. if b then Some 0 else (if nat_lt base x && (nat_lt (x - base) (count * size) && nat_eq ((x - base) % size) 0) then
    Some ((x - base) / size) else None)) (ne_eqb x base (λ e. omega (arith, e, more, p)))
    ∙ ap (λ b. if b then Some ((x - base) / size) else None) t ∙ ap Some (ap (λ q. q / size) d ∙ div-mul-add (suc i) size 0 p)

-- no instance begins outside
instance_miss : (base size count x : ℕ) → 0 < count * size → (x < base) ⊎ (base + count * size ≤ x)
    → instance_named base size count x ≡ None
instance_miss base size count x p out =
    ap (λ b. if b then Some 0 else (if nat_lt base x && (nat_lt (x - base) (count * size) && nat_eq ((x - base) % size) 0) then
    Some ((x - base) / size) else None)) (ne_eqb x base (λ e. ⊎_elim (λ l. omega (arith, l, e)) (λ l. omega (arith, l, e, p)) out))
    ∙ go (nat_lt base x && (nat_lt (x - base) (count * size) && nat_eq ((x - base) % size) 0)) refl
  where
    go : (b : Bool) → (nat_lt base x && (nat_lt (x - base) (count * size) && nat_eq ((x - base) % size) 0)) ≡ b
        → (if b then Some ((x - base) / size) else None) ≡ None
    go true e =
        let a = and_parts (nat_lt base x) _ e in
        let b = and_parts (nat_lt (x - base) (count * size)) _ a.1 in
        let l = ltb-true _ _ a.0 in
        let m = ltb-true _ _ b.0 in
        absurd (⊎_elim (λ o. omega (arith, o, l)) (λ o. omega (arith, o, l, m)) out)
    go false e = refl

module _ (w : ℕ) (notes : Notes) (P : Placement) (made : List TypedObject) (A : Addresses) (ok : Named w notes P made A) where
  word64 : 2 ^ (8 * w) ≤ 2 ^ 64
  word64 = width_word w ok.width

  -- ---- pointers

  -- the instance of an object that begins at a number
  begins : ℕ → TypedObject → ℕ → Option ℕ
  begins k o x = instance_named (object_at notes P k) (shape_bytes w notes o.shape) o.count x

  -- an object takes bytes
  takes : (k : ℕ) (o : TypedObject) → slice_get made k ≡ Some o → 0 < shape_bytes w notes o.shape
  takes k o g = (ok.sized k o g).wide

  all_bytes : (k : ℕ) (o : TypedObject) → slice_get made k ≡ Some o → 0 < o.count * shape_bytes w notes o.shape
  all_bytes k o g =
      let h = ok.sized k o g in
      let p = takes k o g in
      let r = row_fits 0 (shape_bytes w notes o.shape) o.count (shape_bytes w notes o.shape) h.some (le_refl _) in omega (arith, r, p)

  -- the search over the objects from number j on finds the one that has an instance there, where no other one has
  found : (k i x : ℕ) (o : TypedObject) (os : List TypedObject) (j m : ℕ) → slice_get os m ≡ Some o → j + m ≡ k → begins k o x ≡ Some i
      → ((l : ℕ) (p : TypedObject) → slice_get os l ≡ Some p → j + l ≢ k → begins (j + l) p x ≡ None)
      → pointer_from w notes P j os x ≡ Some (value.Ptr k i)
  unfolding begins pointer_from
  found k i x o [] j m g e hit miss = absurd (cc)
  found k i x o (p ∷ os) j zero g e hit miss =
      let at : j ≡ k = omega (arith, e) in
      let here : p ≡ o = same_Some p o g in
      ap (λ q. option_or (option_map (λ y. value.Ptr j y) q) (pointer_from w notes P (suc j) os x))
      (ap₂ (λ y (z : TypedObject). instance_named (object_at notes P y) (shape_bytes w notes z.shape) z.count x) at here ∙ hit)
      ∙ ap (λ y. Some (value.Ptr y i)) at
  found k i x o (p ∷ os) j (suc m) g e hit miss =
      let none : instance_named (object_at notes P j) (shape_bytes w notes p.shape) p.count x ≡ None =
      ap (λ y. instance_named (object_at notes P y) (shape_bytes w notes p.shape) p.count x) (let z : j ≡ j + 0 = omega arith in z)
      ∙ miss 0 p refl (λ q. omega (arith, q, e)) in
      ap (λ q. option_or (option_map (λ y. value.Ptr j y) q) (pointer_from w notes P (suc j) os x)) none
      ∙ found k i x o os (suc j) m g (omega (arith, e)) hit
      (λ l q h n. let z : suc j + l ≡ j + suc l = omega arith in
      ap (λ y. instance_named (object_at notes P y) (shape_bytes w notes q.shape) q.count x) z ∙ miss (suc l) q h (λ y. n (z ∙ y)))

  -- an instance's address is read as the instance
  pointer_is : (k i : ℕ) (o : TypedObject) → slice_get made k ≡ Some o → i < o.count
      → pointer_from w notes P 0 made (object_at notes P k + i * shape_bytes w notes o.shape) ≡ Some (value.Ptr k i)
  unfolding begins
  pointer_is k i o g l =
      let z = shape_bytes w notes o.shape in
      let x = object_at notes P k + i * z in
      let row = row_fits i z o.count z l (le_refl _) in
      let p = takes k o g in
      found k i x o made 0 k g (omega arith) (instance_hit (object_at notes P k) z o.count i p l)
      (λ j q h n.
      let zj : 0 + j ≡ j = omega arith in
      ap (λ y. instance_named (object_at notes P y) (shape_bytes w notes q.shape) q.count x) zj
      ∙ instance_miss (object_at notes P j) (shape_bytes w notes q.shape) q.count x (all_bytes j q h)
      (⊎_elim (λ a. inr (omega (arith, a))) (λ a. inl (omega (arith, a, row, p))) (ok.apart j k q o h g (λ e. n (zj ∙ e)))))

  -- ---- sorts

  -- a plain pair's number
  plain_is : (n c x : ℕ) → n ≡ 0 → x ≡ word (n * w + c) → x ≡ word c
  plain_is n c x e s = s ∙ ap (λ m. word (m * w + c)) e ∙ ap word (let z : 0 * w + c ≡ c = omega arith in z)

  null_is : (n c x : ℕ) (t : Value) → as_null n c ≡ Some t → x ≡ word (n * w + c) → (x ≡ 0) × (value.Null ≡ t)
  null_is n c x t e s =
      let p = if_some (nat_eq n 0 && nat_eq (word c) 0) value.Null t e in
      let q = and_parts (nat_eq n 0) (nat_eq (word c) 0) p.0 in
      (plain_is n c x (eqb-true n 0 q.0) s ∙ eqb-true (word c) 0 q.1, p.1)

  not_null : (x : ℕ) (o : Option Value) → 0 < x → or_null x o ≡ o
  not_null x o l = ap (λ b. if b then Some value.Null else o) (ne_eqb x 0 (λ e. omega (arith, e, l)))

  number_alike : (v : Neutral) (x : ℕ) (t : Value) → neutral_reading notes made Number v ≡ Some t → Shows w A v x
      → reading_of w notes P made Number x ≡ t
  unfolding neutral_reading reading_of
  number_alike (Num n c) x t e s =
      let p = if_some (nat_eq n 0) (value.Int (word c)) t e in
      ap value.Int (plain_is n c x (eqb-true n 0 p.0) s) ∙ p.1
  number_alike _ x t e s = absurd (cc)

  size_alike : (n c : ℕ) (v : Neutral) (x : ℕ) (t : Value) → neutral_reading notes made (SizeOf n c) v ≡ Some t → Shows w A v x
      → reading_of w notes P made (SizeOf n c) x ≡ t
  unfolding neutral_reading reading_of
  size_alike n c (Num m d) x t e s =
      let p = if_some (nat_eq m n && nat_eq d c) (value.Size n c) t e in
      let q = and_parts (nat_eq m n) (nat_eq d c) p.0 in
      let at : x ≡ (n * w + c) % 2 ^ 64 = s ∙ ap₂ (λ a b. (a * w + b) % 2 ^ 64) (eqb-true m n q.0) (eqb-true d c q.1) in
      ap (λ b. if b then value.Size n c else value.Wild x) (eq-eqb x ((n * w + c) % 2 ^ 64) at) ∙ p.1
  size_alike n c _ x t e s = absurd (cc)

  -- a number is the address of an instance of object k, which is read so
  record IsInstance (k x : ℕ) (t : Value) : Type 0 where
    object : TypedObject
    i : ℕ
    there : slice_get made k ≡ Some object
    inside : i < object.count
    at : x ≡ object_at notes P k + i * shape_bytes w notes object.shape
    text : value.Ptr k i ≡ t

  -- where it ends, within the width
  within : (k x : ℕ) (t : Value) → IsInstance k x t → (0 < x) × (x < 2 ^ (8 * w))
  within k x t h =
      let z = shape_bytes w notes h.object.shape in
      let row = row_fits h.i z h.object.count z h.inside (le_refl _) in
      let ins = ok.within k h.object h.there in
      let p = takes k h.object h.there in
      let at = h.at in
      (omega (arith, at, ins.0), omega (arith, at, row, ins.1, p))

  -- what an address past an object that is read as an instance is
  instance_is : (k n c x : ℕ) (t : Value) (o : TypedObject) → slice_get made k ≡ Some o
      → option_map as_pointer (starts_at notes k n c o) ≡ Some t → IsPast (A.anchor (ObjectOf k)) (n * w + c) x → IsInstance k x t
  instance_is k n c x t o there e past =
      let s = shape_of notes o.shape in
      let i = instance_at s n c in
      let found : Instance = record { object = k; instance = i } in
      let p = if_mapped (nat_lt i o.count && (nat_eq n (word (i * s.n)) && nat_eq c (word (i * s.c)))) found as_pointer t e in
      let q = and_parts (nat_lt i o.count) _ p.0 in
      let r = and_parts (nat_eq n (word (i * s.n))) (nat_eq c (word (i * s.c))) q.1 in
      let l : i < o.count = ltb-true i o.count q.0 in
      let z = shape_bytes w notes o.shape in
      let base = object_at notes P k in
      let from : past.from ≡ base = same_Some past.from base (sym past.there ∙ ok.objects k o there) in
      let row = row_fits i z o.count z l (le_refl _) in
      let inside = ok.within k o there in
      let units : i * s.n * w + i * s.c ≡ i * z = omega arith in
      record {
        object = o;
        i = i;
        there = there;
        inside = l;
        text = p.1;
        at = past.is ∙ ap (λ y. word (y + (n * w + c))) from ∙ ap₂ (λ a b. word (base + (a * w + b))) (eqb-true _ _ r.0) (eqb-true _ _ r.1)
            ∙ word_pair w ok.width (i * s.n) (i * s.c) base ∙ ap (λ y. word (base + y)) units
            ∙ mod-eq_of_lt (omega (arith, row, inside.1, word64, takes k o there));
      }

  instance_by_object : (k n c x : ℕ) (t : Value) (q : Option TypedObject) → slice_get made k ≡ q
      → option_map as_pointer (starts_if notes k n c q) ≡ Some t
      → IsPast (A.anchor (ObjectOf k)) (n * w + c) x → IsInstance k x t
  instance_by_object k n c x t None there e past = absurd (cc)
  instance_by_object k n c x t (Some o) there e past = instance_is k n c x t o there e past

  instance_read : (k x : ℕ) (t : Value) → IsInstance k x t → reading_of w notes P made Pointer x ≡ t
  unfolding reading_of
  instance_read k x t h =
      ap (or_wild x) (not_null x (pointer_from w notes P 0 made x) (within k x t h).0)
      ∙ ap (or_wild x) (ap (pointer_from w notes P 0 made) h.at ∙ pointer_is k h.i h.object h.there h.inside) ∙ h.text

  pointer_alike : (v : Neutral) (x : ℕ) (t : Value) → neutral_reading notes made Pointer v ≡ Some t → Shows w A v x
      → reading_of w notes P made Pointer x ≡ t
  unfolding neutral_reading reading_of instance_of
  pointer_alike (Num n c) x t e s = let h = null_is n c x t e s in ap (λ y. or_wild y (or_null y (pointer_from w notes P 0 made y))) h.0
      ∙ h.1
  pointer_alike (At (ObjectOf k) n c) x t e s = instance_read k x t (instance_by_object k n c x t (slice_get made k) refl e s)
  pointer_alike v x t e s = absurd (cc)

  -- a thing of the native area that a number is the address of
  thing_is : (first count k x : ℕ) (F : ℕ → Value) → k < count → x ≡ first + area_step * k → 0 < first
      → or_wild x (or_null x (option_map F (thing_at first count x))) ≡ F k
  thing_is first count k x F l e p =
      ap (or_wild x) (not_null x (option_map F (thing_at first count x)) (omega (arith, e, p)))
      ∙ ap (λ q. or_wild x (option_map F q)) (ap (thing_at first count) e ∙ thing_hit first count k l)

  handle_alike : (v : Neutral) (x : ℕ) (t : Value) → neutral_reading notes made HandleOf v ≡ Some t → Shows w A v x
      → reading_of w notes P made HandleOf x ≡ t
  unfolding neutral_reading reading_of
  handle_alike (Num n c) x t e s = let h = null_is n c x t e s in
      ap (λ y. or_wild y (or_null y (option_map value.Handle (handle_named notes P y)))) h.0 ∙ h.1
  handle_alike (Handle k) x t e s =
      let h = ok.handle k x s in
      thing_is (handle_at notes P 0) handle_count k x value.Handle h.0 (h.1 ∙ omega arith) (let p = ok.native in omega (arith, p))
      ∙ same_Some (value.Handle k) t e
  handle_alike _ x t e s = absurd (cc)

  entry_alike : (v : Neutral) (x : ℕ) (t : Value) → neutral_reading notes made EntryOf v ≡ Some t → Shows w A v x
      → reading_of w notes P made EntryOf x ≡ t
  unfolding neutral_reading reading_of
  entry_alike (Num n c) x t e s = let h = null_is n c x t e s in
      ap (λ y. or_wild y (or_null y (option_map value.Entry (entry_named notes P y)))) h.0 ∙ h.1
  entry_alike (Entry k) x t e s =
      let h = ok.entry k x s in
      thing_is (thunk_at notes P 0) (length notes.function) k x value.Entry h.0 (h.1 ∙ omega arith) (let p = ok.native in omega (arith, p))
      ∙ same_Some (value.Entry k) t e
  entry_alike _ x t e s = absurd (cc)

  method_alike : (v : Neutral) (x : ℕ) (t : Value) → neutral_reading notes made MethodOf v ≡ Some t → Shows w A v x
      → reading_of w notes P made MethodOf x ≡ t
  unfolding neutral_reading reading_of
  method_alike (Method k) x t e s =
      let h = ok.method k x s in
      ap (λ q. or_wild x (option_map value.Method q)) (ap (thing_at (method_at P 0) (length notes.methods)) (h.1 ∙ omega arith)
      ∙ thing_hit (method_at P 0) (length notes.methods) k h.0)
      ∙ same_Some (value.Method k) t e
  method_alike _ x t e s = absurd (cc)

  -- a status with its error bit
  error_read : (k : ℕ) → k < 2 ^ 31 → status_read w (2 ^ (8 * w - 1) + k) ≡ Some (value.StatusError k)
  error_read k l =
      let bit = 2 ^ (8 * w - 1) in
      let big : nat_lt (bit + k) (2 ^ 31) ≡ false = not_lt _ _ (by_width (λ v. 2 ^ 31 ≤ 2 ^ (8 * v - 1) + k) w ok.width (omega arith)
      (omega arith)) in
      let d : bit + k - bit ≡ k = omega arith in
      ap (λ b. if b then Some (value.StatusOk (bit + k)) else (if nat_le bit (bit + k) && nat_lt (bit + k - bit) (2 ^ 31) then
      Some (value.StatusError (bit + k - bit)) else None)) big
      ∙ ap (λ b. if b && nat_lt (bit + k - bit) (2 ^ 31) then Some (value.StatusError (bit + k - bit)) else None)
      (le-leb bit (bit + k) (omega arith))
      ∙ ap (λ y. if nat_lt y (2 ^ 31) then Some (value.StatusError y) else None) d
      ∙ ap (λ b. if b then Some (value.StatusError k) else None) (lt-ltb k (2 ^ 31) l)

  status_alike : (v : Neutral) (x : ℕ) (t : Value) → neutral_reading notes made StatusOf v ≡ Some t → Shows w A v x
      → reading_of w notes P made StatusOf x ≡ t
  unfolding neutral_reading reading_of
  status_alike (Num n c) x t e s =
      let p = if_some (nat_eq n 0 && nat_lt (word c) (2 ^ 31)) (value.StatusOk (word c)) t e in
      let q = and_parts (nat_eq n 0) (nat_lt (word c) (2 ^ 31)) p.0 in
      ap (λ y. or_wild y (status_read w y)) (plain_is n c x (eqb-true n 0 q.0) s)
      ∙ ap (λ b. or_wild (word c) (if b then Some (value.StatusOk (word c))
      else (if nat_le (2 ^ (8 * w - 1)) (word c) && nat_lt (word c - 2 ^ (8 * w - 1)) (2 ^ 31) then
      Some (value.StatusError (word c - 2 ^ (8 * w - 1))) else None))) q.1
      ∙ p.1
  status_alike (Error k) x t e s = ap (λ y. or_wild y (status_read w y)) s.1 ∙ ap (or_wild (2 ^ (8 * w - 1) + k)) (error_read k s.0)
      ∙ same_Some (value.StatusError k) t e
  status_alike _ x t e s = absurd (cc)

  any_alike : (v : Neutral) (x : ℕ) (t : Value) → neutral_reading notes made Anything v ≡ Some t → reading_of w notes P made Anything x ≡ t
  unfolding neutral_reading reading_of
  any_alike v x t e = same_Some value.Any t e

  pub reads_alike : ReadsAlike w notes P made A
  reads_alike Anything v x t e s = any_alike v x t e
  reads_alike Number v x t e s = number_alike v x t e s
  reads_alike (SizeOf n c) v x t e s = size_alike n c v x t e s
  reads_alike Pointer v x t e s = pointer_alike v x t e s
  reads_alike HandleOf v x t e s = handle_alike v x t e s
  reads_alike EntryOf v x t e s = entry_alike v x t e s
  reads_alike StatusOf v x t e s = status_alike v x t e s
  reads_alike MethodOf v x t e s = method_alike v x t e s

  -- ---- results

  cut_is : (x : ℕ) → x < 2 ^ (8 * w) → cut_at w x ≡ x
  cut_is x l = mod-eq_of_lt l

  small_word : (x : ℕ) → x < 2 ^ 32 → x < 2 ^ (8 * w)
  small_word x l = by_width (λ v. x < 2 ^ (8 * v)) w ok.width (omega (arith, l)) (omega (arith, l))

  null_small : (n c x : ℕ) (t : Value) → as_null n c ≡ Some t → x ≡ word (n * w + c) → x < 2 ^ (8 * w)
  null_small n c x t e s = let h = null_is n c x t e s in small_word x (let z = h.0 in omega (arith, z))

  handle_small : (v : Neutral) (x : ℕ) (t : Value) → neutral_reading notes made HandleOf v ≡ Some t → Shows w A v x → x < 2 ^ (8 * w)
  unfolding neutral_reading
  handle_small (Num n c) x t e s = null_small n c x t e s
  handle_small (Handle k) x t e s = let h = ok.handle k x s in let l = h.0 in let at = h.1 in let area = ok.area in
      omega (arith, l, at, area)
  handle_small _ x t e s = absurd (cc)

  entry_small : (v : Neutral) (x : ℕ) (t : Value) → neutral_reading notes made EntryOf v ≡ Some t → Shows w A v x → x < 2 ^ (8 * w)
  unfolding neutral_reading
  entry_small (Num n c) x t e s = null_small n c x t e s
  entry_small (Entry k) x t e s = let h = ok.entry k x s in let l = h.0 in let at = h.1 in let area = ok.area in omega (arith, l, at, area)
  entry_small _ x t e s = absurd (cc)

  method_small : (v : Neutral) (x : ℕ) (t : Value) → neutral_reading notes made MethodOf v ≡ Some t → Shows w A v x → x < 2 ^ (8 * w)
  unfolding neutral_reading
  method_small (Method k) x t e s = let h = ok.method k x s in let l = h.0 in let at = h.1 in let area = ok.area in
      omega (arith, l, at, area)
  method_small _ x t e s = absurd (cc)

  pointer_small : (v : Neutral) (x : ℕ) (t : Value) → neutral_reading notes made Pointer v ≡ Some t → Shows w A v x → x < 2 ^ (8 * w)
  unfolding neutral_reading instance_of
  pointer_small (Num n c) x t e s = null_small n c x t e s
  pointer_small (At (ObjectOf k) n c) x t e s = (within k x t (instance_by_object k n c x t (slice_get made k) refl e s)).1
  pointer_small v x t e s = absurd (cc)

  status_small : (v : Neutral) (x : ℕ) (t : Value) → neutral_reading notes made StatusOf v ≡ Some t → Shows w A v x → x < 2 ^ (8 * w)
  unfolding neutral_reading
  status_small (Num n c) x t e s =
      let p = if_some (nat_eq n 0 && nat_lt (word c) (2 ^ 31)) (value.StatusOk (word c)) t e in
      let q = and_parts (nat_eq n 0) (nat_lt (word c) (2 ^ 31)) p.0 in
      let at = plain_is n c x (eqb-true n 0 q.0) s in
      let l = ltb-true (word c) (2 ^ 31) q.1 in
      small_word x (omega (arith, at, l))
  status_small (Error k) x t e s =
      let l = s.0 in
      subst (λ y. y < 2 ^ (8 * w)) (sym s.1) (by_width (λ v. 2 ^ (8 * v - 1) + k < 2 ^ (8 * v)) w ok.width (omega (arith, l))
      (omega (arith, l)))
  status_small _ x t e s = absurd (cc)

  number_result : (v : Neutral) (x : ℕ) (t : Value) → neutral_result notes made Number v ≡ Some t → Shows w A v x
      → reading_of w notes P made Number (cut_at w x) ≡ t
  unfolding neutral_result neutral_reading reading_of
  number_result (Num n c) x t e s = go (nat_lt (word c) (2 ^ 32)) refl e
    where
      go : (b : Bool) → nat_lt (word c) (2 ^ 32) ≡ b → (if b then as_number n c else None) ≡ Some t → value.Int (cut_at w x) ≡ t
      go true small e =
          let p = if_some (nat_eq n 0) (value.Int (word c)) t e in
          let at = plain_is n c x (eqb-true n 0 p.0) s in
          let l = ltb-true (word c) (2 ^ 32) small in
          ap value.Int (cut_is x (small_word x (omega (arith, at, l))) ∙ at) ∙ p.1
      go false small e = absurd (cc)
  number_result _ x t e s = absurd (cc)

  any_result : (v : Neutral) (x : ℕ) (t : Value) → neutral_result notes made Anything v ≡ Some t
      → reading_of w notes P made Anything (cut_at w x) ≡ t
  unfolding neutral_result
  any_result v x t e = any_alike v (cut_at w x) t e

  pub results_alike : ResultsAlike w notes P made A
  unfolding neutral_result
  results_alike Anything v x t e s = any_result v x t e
  results_alike Number v x t e s = number_result v x t e s
  results_alike (SizeOf n c) v x t e s = absurd (cc)
  results_alike Pointer v x t e s = ap (reading_of w notes P made Pointer) (cut_is x (pointer_small v x t e s)) ∙ pointer_alike v x t e s
  results_alike HandleOf v x t e s = ap (reading_of w notes P made HandleOf) (cut_is x (handle_small v x t e s)) ∙ handle_alike v x t e s
  results_alike EntryOf v x t e s = ap (reading_of w notes P made EntryOf) (cut_is x (entry_small v x t e s)) ∙ entry_alike v x t e s
  results_alike StatusOf v x t e s = ap (reading_of w notes P made StatusOf) (cut_is x (status_small v x t e s)) ∙ status_alike v x t e s
  results_alike MethodOf v x t e s = ap (reading_of w notes P made MethodOf) (cut_is x (method_small v x t e s)) ∙ method_alike v x t e s
