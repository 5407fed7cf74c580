-- What the rules say that a pointer names is what the neutral machine finds there.
use Rattle.typing_laws.proofs.Common.{◌≡◌, ℕ, ◌+◌, ◌*◌, ◌%◌, ◌^◌, ◌<◌, ◌≤◌, Bool, true, false, ◌&&◌, if◌then◌else◌, nat_lt, List, length}
use Rattle.typing_laws.proofs.Common.{Option, Some, None, slice_get, refl, sym, ap, ap₂, ◌∙◌, subst, arith, option_and_then, ℤ, pos, ◌+ℤ◌}
use Rattle.typing_laws.proofs.Common.{int_eq, add-mod-mod, lt-ltb, and_parts, true≢false, Decides-int_eq, position-Some, same_Some}
use Rattle.typing_laws.proofs.Common.{none-some, get_or_from_slice_get, wrap64, IsBoundedCell, IsBounded, Cell, FnNote, Notes, Field, Shape}
use Rattle.typing_laws.proofs.Common.{Ty, Ptr, Local, Lent, ThunkAt, Distance, Place, and_then, local_fields, cell_of, pointed}
use Rattle.typing_laws.proofs.Common.{field_number_at, ObjectOf, ThunkOf, LocalOf, Neutral, Num, At, CellPlace, FieldOf, FieldOfLocals}
use Rattle.typing_laws.proofs.Common.{word, Registers, shape_of, no_shape, Memory, field_in, IsPointer, Fits, CellsFit, sum_of, moved_by}
use Rattle.typing_laws.proofs.Common.{Location, CellAt, Offset, located_past, only_if}
use Rattle.rules_base.specs.declared.place.Reach.{Reach}
use Rattle.rules_base.specs.Places.{begins_at, field_place, instance_field, is_nowhere, local_field}
use Rattle.host_model.specs.Values.{Anchor}
use Rattle.typing_laws.proofs.Rows.{then_some, if_some, wrap_add, when_some, bound_some}
use Rattle.typing_laws.proofs.{SumsFit.moved_pair, Objects.ObjectsFit, Located.IsFirstAt, Located.field_located}
use Rattle.neutral_machine.specs.Memory as memory
use Rattle.neutral_machine.specs.Locations as locations

-- what stands beside an operand is this distance
abbrev pub IsBeside : Option Offset → Distance → Type 0
IsBeside None d = (d.n ≡ pos 0) × (d.c ≡ pos 0)
IsBeside (Some p) d = (p.n ≡ wrap64 d.n) × (p.c ≡ wrap64 d.c)

-- ---- moved values

moved_none : (x : ℕ) (n e : ℤ) (z : ℕ) → e ≡ pos 0 → pos z ≡ n +ℤ e → word (x + wrap64 n) ≡ word (x + z)
moved_none x n e z h g =
    let a : wrap64 (n +ℤ e) ≡ word (wrap64 n + wrap64 e) = wrap_add n e in
    let b : wrap64 e ≡ 0 = ap wrap64 h in
    let c : wrap64 (n +ℤ e) ≡ z % 2 ^ 64 = sym (ap wrap64 g) in
    let f : word (x + wrap64 n) ≡ word (x + word (wrap64 n + wrap64 e)) = omega (arith, b) in
    f ∙ ap (λ i. word (x + i)) (sym a ∙ c) ∙ add-mod-mod x z (2 ^ 64)

moved_some : (x : ℕ) (n e : ℤ) (p z : ℕ) → p ≡ wrap64 e → pos z ≡ n +ℤ e → word (word (x + wrap64 n) + p) ≡ word (x + z)
moved_some x n e p z h g =
    ap (λ i. word (word (x + wrap64 n) + i)) h ∙ moved_pair x n e ∙ ap (λ i. word (x + i)) (sym (ap wrap64 g)) ∙ add-mod-mod x z (2 ^ 64)

pub moved_at : (A : Anchor) (x y : ℕ) (n c : ℤ) (v : Neutral) (b : Option Offset) (d : Distance) (zn zc : ℕ)
    → v ≡ At A (word (x + wrap64 n)) (word (y + wrap64 c)) → IsBeside b d → pos zn ≡ n +ℤ d.n → pos zc ≡ c +ℤ d.c
    → moved_by v b ≡ At A (word (x + zn)) (word (y + zc))
moved_at A x y n c v None d zn zc e h p q = e ∙ ap₂ (At A) (moved_none x n d.n zn h.0 p) (moved_none y c d.c zc h.1 q)
moved_at A x y n c v (Some o) d zn zc e h p q = ap (λ i. sum_of i (Num o.n o.c)) e
    ∙ ap₂ (At A) (moved_some x n d.n o.n zn h.0 p) (moved_some y c d.c o.c zc h.1 q)

pub not_moved : (A : Anchor) (v : Neutral) (b : Option Offset) (d : Distance) → v ≡ At A 0 0 → IsBeside b d → is_nowhere d ≡ true
    → moved_by v b ≡ At A 0 0
not_moved A v None d e h g = e
not_moved A v (Some o) d e h g =
    let p = and_parts (int_eq d.n (pos 0)) (int_eq d.c (pos 0)) g in
    let en : o.n ≡ 0 = h.0 ∙ ap wrap64 ((Decides-int_eq d.n (pos 0)).0 p.0) in
    let ec : o.c ≡ 0 = h.1 ∙ ap wrap64 ((Decides-int_eq d.c (pos 0)).0 p.1) in
    ap (λ i. sum_of i (Num o.n o.c)) e ∙ ap₂ (λ i j. At A (word (0 + i)) (word (0 + j))) en ec

-- ---- fields

-- the first field at a pair
pub record FieldFound (fields : List Field) (at : Reach) (i : ℕ) (z : Field) : Type 0 where
  pub get : slice_get fields i ≡ Some z
  pub units : pos z.n ≡ at.n
  pub bytes : pos z.c ≡ at.c
  pub first : (k : ℕ) (y : Field) → k < i → slice_get fields k ≡ Some y → y.n ≡ z.n → y.c ≡ z.c → ⊥

pub field_found : (fields : List Field) (at : Reach) (i : ℕ) (z : Field) → field_number_at fields at ≡ Some i → slice_get fields i ≡ Some z
    → FieldFound fields at i z
unfolding field_number_at
field_found fields at i z e g =
    let p = position-Some (begins_at at) fields i z e in
    let b : begins_at at z ≡ true = sym (ap (begins_at at) (get_or_from_slice_get fields i z z g)) ∙ p.1 in
    let q = and_parts (int_eq (pos z.n) at.n) (int_eq (pos z.c) at.c) b in
    record {
      get = g;
      units = (Decides-int_eq (pos z.n) at.n).0 q.0;
      bytes = (Decides-int_eq (pos z.c) at.c).0 q.1;
      first = λ k y l h en ec.
          let f : begins_at at y ≡ false = sym (ap (begins_at at) (get_or_from_slice_get fields k y z h)) ∙ p.2 k l in
          let t : begins_at at y ≡ begins_at at z = ap₂ (λ x c. int_eq (pos x) at.n && int_eq (pos c) at.c) en ec in
          true≢false (sym b ∙ sym t ∙ f);
    }

-- ---- what places name

module _ (notes : Notes) (m : Memory) (d : ℕ) where
  -- a cell that is there
  pub record CellThere (p : CellPlace) (cell : Cell) : Type 0 where
    pub field : Field
    pub there : memory.cell_field notes m p ≡ Some field
    pub cell_is : field.cell ≡ cell

  -- a place of the rules is a location of the neutral machine; a cell of an object or of a lower frame holds something
  abbrev pub PlaceNames : Place → Location → Type 0
  PlaceNames (Place.Object cell null) (CellAt p) = CellThere p cell × ((v : Neutral) × (m.cells p ≡ Some v)) × IsBoundedCell cell
  PlaceNames (Place.Local x cell) (CellAt p) = (p ≡ FieldOfLocals d x) × CellThere p cell
  PlaceNames (Place.ThunkCell i) (locations.ThunkAt j) = (i ≡ j) × (i < length notes.thunk)
  PlaceNames _ _ = ⊥

  -- where an address names a place
  pub record Named (at : Neutral) (p : Place) : Type 0 where
    pub location : Location
    pub located : located_past notes m.objects at ≡ Some location
    pub names : PlaceNames p location

  -- the place may be null
  abbrev pub may_be_null : Place → Bool
  may_be_null (Place.Object cell null) = null
  may_be_null _ = false

module _ (notes : Notes) (m : Memory) (ok : ObjectsFit notes m.objects) (cells : CellsFit notes m) (note : FnNote) (d : ℕ)
    (saved : Registers) (counted : (k i f : ℕ) (z : Field) → memory.cell_field notes m (FieldOf k i f) ≡ Some z → IsBoundedCell z.cell)
    (same_locals : (s : Shape) → m.locals d ≡ Some s → local_fields notes note ≡ s.fields) where
  -- a field of the instance that a pointer names
  object_named : (s k : ℕ) (n c : ℤ) (v : Neutral) (b : Option Offset) (t : Distance) (p : Place) → 1 ≤ k → IsBeside b t
      → IsPointer notes m.objects s k n c v → instance_field notes.shape s (record { n = n +ℤ t.n; c = c +ℤ t.c }) false ≡ Some p
      → Named notes m d (moved_by v b) p
  unfolding field_place cell_of
  object_named s k n c v b t p l h f e =
      then_some (slice_get notes.shape s) _ p e (λ x e1 h1. then_some (field_number_at x.fields at) _ p h1
      (λ i e2 h2. then_some (and_then (slice_get x.fields i) (λ z. Some z.cell)) _ p h2
      (λ y e3 h3. then_some (slice_get x.fields i) (λ z. Some z.cell) y e3 (λ z e4 h4.
      let r = field_found x.fields at i z e2 e4 in
      let es : shape_of notes f.object.shape ≡ x = ap (shape_of notes) f.shape ∙ get_or_from_slice_get notes.shape s x no_shape e1 in
      let e5 : shape_of notes s ≡ x = get_or_from_slice_get notes.shape s x no_shape e1 in
      let g : slice_get (shape_of notes f.object.shape).fields i ≡ Some z = ap (λ (q : Shape). slice_get q.fields i) es ∙ e4 in
      let first : IsFirstAt notes m.objects ok (shape_of notes f.object.shape) i z =
      subst (λ q. IsFirstAt notes m.objects ok q i z) (sym es) r.first in
      let place_is : v ≡ At (ObjectOf f.k) (word (f.j * (shape_of notes f.object.shape).n + wrap64 n))
      (word (f.j * (shape_of notes f.object.shape).c + wrap64 c)) = f.is
      ∙ ap (λ q. At (ObjectOf f.k) (word (f.j * (shape_of notes q).n + wrap64 n)) (word (f.j * (shape_of notes q).c + wrap64 c)))
      (sym f.shape) in
      let inside : f.j < f.object.count = omega (arith, f.room, l) in
      let at_cell = moved_at (ObjectOf f.k) (f.j * (shape_of notes f.object.shape).n)
      (f.j * (shape_of notes f.object.shape).c) n c v b t z.n z.c place_is h r.units r.bytes in
      let found = field_located notes m.objects ok f.k f.j i f.object z f.there inside g first in
      let field_is : memory.cell_field notes m (FieldOf f.k f.j i) ≡ Some z = ap (λ q. option_and_then (field_in notes f.j i) q) f.there
      ∙ ap (λ q. if q then slice_get (shape_of notes f.object.shape).fields i else None) (lt-ltb f.j f.object.count inside) ∙ g in
      subst (λ q. Named notes m d (moved_by v b) q) (ap (λ q. Place.Object q false) (same_Some z.cell y h4)
      ∙ same_Some (Place.Object y false) p h3) (record {
        location = CellAt (FieldOf f.k f.j i);
        located = ap (located_past notes m.objects) at_cell ∙ found;
        names = (record { field = z; there = field_is; cell_is = refl }, cells.all f.k f.j i z field_is, counted f.k f.j i z field_is);
      })))))
    where
      at : Reach
      at = record { n = n +ℤ t.n; c = c +ℤ t.c }

  local_named : (x : ℕ) (v : Neutral) (b : Option Offset) (t : Distance) (p : Place) → IsBeside b t → Fits notes m d saved (Local x) v
      → (if is_nowhere t then local_field (local_fields notes note) x else None) ≡ Some p → Named notes m d (moved_by v b) p
  unfolding cell_of located_past
  local_named x v b t p h f e = when_some (is_nowhere t) _ p e (λ g e1.
      subst (λ q. Named notes m d (moved_by v b) q) (place_is (cell_of (local_fields notes note) x) refl e1) (record {
        location = CellAt (FieldOfLocals d x);
        located = ap (located_past notes m.objects) (not_moved (LocalOf d x) v b t f.is h g);
        names = (refl, record { field = f.field; there = f.there; cell_is = refl });
      }))
    where
      cell_there : cell_of (local_fields notes note) x ≡ Some f.field.cell
      cell_there = ap (λ q. and_then q (λ (z : Field). Some z.cell)) (bound_some (λ (s : Shape). slice_get s.fields x)
          (m.locals d) f.field f.there (λ s q r. ap (λ z. slice_get z x) (same_locals s q) ∙ r))

      place_is : (c : Option Cell) → cell_of (local_fields notes note) x ≡ c
          → and_then c (λ q. only_if (nat_lt x 64) (Place.Local x q)) ≡ Some p → Place.Local x f.field.cell ≡ p
      place_is None q r = absurd (none-some p r)
      place_is (Some c) q r = if_some (nat_lt x 64) (Place.Local x c) p r
          (λ l s. ap (Place.Local x) (same_Some f.field.cell c (sym cell_there ∙ q)) ∙ s)

  lent_named : (cell : Cell) (v : Neutral) (b : Option Offset) (t : Distance) (p : Place) → IsBoundedCell cell → IsBeside b t
      → Fits notes m d saved (Lent cell) v → (if is_nowhere t then Some (Place.Object cell false) else None) ≡ Some p
      → Named notes m d (moved_by v b) p
  unfolding located_past
  lent_named cell v b t p k h f e = when_some (is_nowhere t) _ p e (λ g e1.
      subst (λ q. Named notes m d (moved_by v b) q) (same_Some _ p e1) (record {
        location = CellAt (FieldOfLocals f.cell_below.e f.cell_below.f);
        located = ap (located_past notes m.objects) (not_moved (LocalOf f.cell_below.e f.cell_below.f) v b t f.cell_below.is h g);
        names = (
          record { field = f.cell_below.field; there = f.cell_below.there; cell_is = f.cell_below.cell_is },
          (f.written.value, f.written.is),
          k,
        );
      }))

  thunk_named : (i : ℕ) (v : Neutral) (b : Option Offset) (t : Distance) (p : Place) → i < length notes.thunk → IsBeside b t
      → Fits notes m d saved (ThunkAt i) v → (if is_nowhere t then Some (Place.ThunkCell i) else None) ≡ Some p
      → Named notes m d (moved_by v b) p
  unfolding located_past
  thunk_named i v b t p l h f e = when_some (is_nowhere t) _ p e (λ g e1.
      subst (λ q. Named notes m d (moved_by v b) q) (same_Some _ p e1) (record {
        location = locations.ThunkAt i;
        located = ap (located_past notes m.objects) (not_moved (ThunkOf i) v b t f h g);
        names = (refl, l);
      }))

  -- What the rules say that a register's value and a pair name is found there, unless it may be null.
  pub pointed_named : (t : Ty) (v : Neutral) (b : Option Offset) (e : Distance) (p : Place) → IsBounded t
      → ((i : ℕ) → t ≡ ThunkAt i → i < length notes.thunk) → IsBeside b e → Fits notes m d saved t v → pointed notes note t e ≡ Some p
      → may_be_null notes m d p ≡ false → Named notes m d (moved_by v b) p
  unfolding field_place
  pointed_named (Ptr s k n c false) v b e p l i h f g q = object_named s k n c v b e p l.0 h f g
  pointed_named (Ptr s k n c true) v b e p l i h f g q =
      then_some (slice_get notes.shape s) _ p g (λ x e1 h1. then_some
      (field_number_at x.fields (record { n = n +ℤ e.n; c = c +ℤ e.c })) _ p h1
      (λ j e2 h2. then_some (cell_of x.fields j) _ p h2 (λ y e3 h3.
      absurd (true≢false (ap (may_be_null notes m d) (same_Some (Place.Object y true) p h3) ∙ q)))))
  pointed_named (Local x) v b e p l i h f g q = local_named x v b e p h f g
  pointed_named (Lent cell) v b e p l i h f g q = lent_named cell v b e p l h f g
  pointed_named (ThunkAt j) v b e p l i h f g q = thunk_named j v b e p (i j refl) h f g
  pointed_named t v b e p l i h f g q = absurd (none-some p g)
