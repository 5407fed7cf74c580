-- What R0 and a pair name: a field of the function's own locals, or a parameter, at its address.
use Rattle.neutral_machine.proofs.Common.{◌≡◌, ℕ, zero, suc, ◌+◌, ◌*◌, ◌^◌, ◌<◌, ◌≤◌, Bool, true, false, ◌&&◌, if◌then◌else◌, nat_eq, List}
use Rattle.neutral_machine.proofs.Common.{[], ◌∷◌, take, Option, Some, None, refl, sym, ap, ap₂, ◌∙◌, subst, arith, slice_get, option_map}
use Rattle.neutral_machine.proofs.Common.{eqb-true, and_parts, same_Some, none-some, little_endian, IsWidth, size_at, start_at, SlotKind, N}
use Rattle.neutral_machine.proofs.Common.{Q, D, Notes, Field, Shape, Addresses, Neutral, ShowsIn, CellPlace, FieldOfLocals, word, minus}
use Rattle.neutral_machine.proofs.Common.{option_or, StackItem, Pushed, LocalsOf, locals_among, slot_bytes, item_size, height, local_among}
use Rattle.neutral_machine.proofs.Common.{Offset, Location, CellAt, ParamAt, find_field, item_units, item_bytes, ItemShows, ItemsShow}
use Rattle.neutral_machine.proofs.Common.{OwnLocals, some_of_map}
use Rattle.neutral_machine.specs.Locations.{parameter_at, local_field, located_among}
use Rattle.neutral_machine.proofs.Locate.{find_sound}

-- the bytes of an item by its pair
pub item_pair : (w : ℕ) (i : StackItem) → item_size w i ≡ item_units i * w + item_bytes i
item_pair w (Pushed N v) = omega arith
item_pair w (Pushed Q v) = omega arith
item_pair w (Pushed D v) = omega arith
item_pair w (LocalsOf s) = refl

not_param : (k : ℕ) (p : CellPlace) → ParamAt k ≡ CellAt p → ⊥
not_param k p e = absurd (cc)

param_no_cell : (at : Offset) (j n c : ℕ) (is : List StackItem) (p : CellPlace) → parameter_at at j n c is ≡ Some (CellAt p) → ⊥
param_no_cell at j n c [] p h = none-some _ h
param_no_cell at j n c (i ∷ is) p h = go (nat_eq at.n n && nat_eq at.c c) h
    (λ h. param_no_cell at (suc j) (n + item_units i) (c + item_bytes i) is p h)
  where
    go : (t : Bool) → (if t then Some (ParamAt j) else parameter_at at (suc j) (n + item_units i) (c + item_bytes i) is) ≡ Some (CellAt p)
        → (parameter_at at (suc j) (n + item_units i) (c + item_bytes i) is ≡ Some (CellAt p) → ⊥) → ⊥
    go true h next = not_param j p (same_Some _ _ h)
    go false h next = next h

no_cell : (at : Offset) (d n c : ℕ) (params is : List StackItem) (p : CellPlace) → locals_among is ≡ None
    → located_among at d n c params is ≡ Some (CellAt p) → ⊥
no_cell at d n c params [] p g h = param_no_cell at 0 n (c + 16) params p h
no_cell at d n c params (Pushed kind v ∷ is) p g h = no_cell at d (n + item_units (Pushed kind v))
    (c + item_bytes (Pushed kind v)) params is p g h
no_cell at d n c params (LocalsOf s ∷ is) p g h = none-some s (sym g)

same_number : (x y : ℕ) → ParamAt x ≡ ParamAt y → x ≡ y
same_number x y e = cc

number_from : (at : Offset) (j n c : ℕ) (is : List StackItem) (k : ℕ) → parameter_at at j n c is ≡ Some (ParamAt k) → k < j → ⊥
number_from at j n c [] k h l = none-some _ h
number_from at j n c (i ∷ is) k h l = go (nat_eq at.n n && nat_eq at.c c) h
    (λ h. number_from at (suc j) (n + item_units i) (c + item_bytes i) is k h (omega (arith, l)))
  where
    go : (t : Bool) → (if t then Some (ParamAt j) else parameter_at at (suc j) (n + item_units i) (c + item_bytes i) is) ≡ Some (ParamAt k)
        → (parameter_at at (suc j) (n + item_units i) (c + item_bytes i) is ≡ Some (ParamAt k) → ⊥) → ⊥
    go true h next = let e : j ≡ k = same_number j k (same_Some _ _ h) in absurd (omega (arith, e, l))
    go false h next = next h

-- a local field that a pair names among items that begin at a pair
pub record FieldThere (w end under : ℕ) (at : Offset) (d n c : ℕ) (is : List StackItem) (p : CellPlace) : Type 0 where
  pub f : ℕ
  pub is_local : p ≡ FieldOfLocals d f
  pub shape : Shape
  pub among : locals_among is ≡ Some shape
  pub z : Field
  pub get : slice_get shape.fields f ≡ Some z
  pub far : ℕ
  pub within : far ≤ height w is + under
  pub room : size_at w shape ≤ far
  pub address : local_among w end under is f ≡ Some (word (minus end far + start_at w z))
  pub offset : at.n * w + at.c + far ≡ n * w + c + (height w is + under) + start_at w z

module _ (w end : ℕ) (h : IsWidth w) (small : end ≤ 2 ^ 64) where
  pub field_there : (notes : Notes) (func under : ℕ) (at : Offset) (d n c : ℕ) (params is : List StackItem) (p : CellPlace)
      → OwnLocals notes func is → located_among at d n c params is ≡ Some (CellAt p) → FieldThere w end under at d n c is p
  field_there notes func under at d n c params [] p own g = absurd (param_no_cell at 0 n (c + 16) params p g)
  field_there notes func under at d n c params (Pushed kind v ∷ is) p own g =
      let r = field_there notes func under at d (n + item_units (Pushed kind v)) (c + item_bytes (Pushed kind v)) params is p own g in
      let e = item_pair w (Pushed kind v) in
      record {
        f = r.f;
        is_local = r.is_local;
        shape = r.shape;
        among = r.among;
        z = r.z;
        get = r.get;
        far = r.far;
        within = omega (arith, r.within);
        room = r.room;
        address = r.address;
        offset = r.offset ∙ (let q : (n + item_units (Pushed kind v)) * w + (c + item_bytes (Pushed kind v)) +
            (height w is + under) + start_at w r.z ≡ n * w + c + (slot_bytes w kind + height w is + under) + start_at w r.z =
            omega (arith, e) in q);
      }
  field_there notes func under at d n c params (LocalsOf s ∷ is) p own g = go (local_field at d n c s) refl g
    where
      T : Field → Bool
      T z = nat_eq at.n (n + z.n) && nat_eq at.c (c + z.c)

      go : (o : Option Location) → local_field at d n c s ≡ o → option_or o (located_among at d (n + s.n) (c + s.c) params is) ≡ Some
          (CellAt p) → FieldThere w end under at d n c (LocalsOf s ∷ is) p
      go None e q = absurd (no_cell at d _ _ params is p own.1 q)
      go (Some l) e q =
          let r = some_of_map (λ f. CellAt (FieldOfLocals d f)) (find_field T 0 s.fields) l e in
          let m = find_sound T 0 s.fields r.0 r.1 in
          let same : m.j ≡ r.0 = omega (arith, m.sum) in
          let a = and_parts (nat_eq at.n (n + m.x.n)) (nat_eq at.c (c + m.x.c)) m.test in
          let un = eqb-true _ _ a.0 in
          let by = eqb-true _ _ a.1 in
          let get : slice_get s.fields r.0 ≡ Some m.x = subst (λ j. slice_get s.fields j ≡ Some m.x) same m.get in
          let pe : CellAt (FieldOfLocals d r.0) ≡ CellAt p = r.2 ∙ same_Some _ _ q in
          record {
            f = r.0;
            is_local = cell_same p r.0 pe;
            shape = s;
            among = refl;
            z = m.x;
            get = get;
            far = size_at w s + (height w is + under);
            within = omega arith;
            room = omega arith;
            address = ap (option_map (λ (y : Field). word (minus end (size_at w s + (height w is + under)) + start_at w y))) get;
            offset = ap₂ (λ i j. i * w + j + (size_at w s + (height w is + under))) un by
                ∙ (let k : (n + m.x.n) * w + (c + m.x.c) + (size_at w s + (height w is + under)) ≡ n * w + c +
                (size_at w s + height w is + under) + start_at w m.x = omega arith in k);
          }
        where
          cell_same : (p : CellPlace) (f : ℕ) → CellAt (FieldOfLocals d f) ≡ CellAt p → p ≡ FieldOfLocals d f
          cell_same p f e = cc

  -- ---- parameters

  -- the slot with a number among items that lie upon so many bytes, where a pair names it from a pair on
  pub record SlotThere (A : Addresses) (b : ℕ → ℕ) (under : ℕ) (at : Offset) (n c : ℕ) (is : List StackItem) (kind : SlotKind)
      (v : Neutral) : Type 0 where
    pub far : ℕ
    pub within : far ≤ height w is + under
    pub past : slot_bytes w kind ≤ far
    pub shows : ShowsIn w A (slot_bytes w kind) v (little_endian b (minus end far) (slot_bytes w kind))
    pub offset : at.n * w + at.c + far ≡ n * w + c + (height w is + under)

  pub slot_there : (A : Addresses) (b : ℕ → ℕ) (under : ℕ) (at : Offset) (j n c m : ℕ) (is : List StackItem) (k : ℕ) (kind : SlotKind)
      (v : Neutral) → ItemsShow w A b end under is → parameter_at at j n c (take m is) ≡ Some (ParamAt (j + k))
      → slice_get (take m is) k ≡ Some (Pushed kind v) → SlotThere A b under at n c is kind v
  slot_there A b under at j n c zero is k kind v sh g q = absurd (none-some _ q)
  slot_there A b under at j n c (suc m) [] k kind v sh g q = absurd (none-some _ q)
  slot_there A b under at j n c (suc m) (i ∷ is) k kind v sh g q =
      go (nat_eq at.n n && nat_eq at.c c) refl (λ k g q. slot_there A b under at (suc j) (n + item_units i)
      (c + item_bytes i) m is k kind v sh.1 g q) g
    where
      here : at.n ≡ n → at.c ≡ c → (k : ℕ) → k ≡ 0 → slice_get (i ∷ take m is) k ≡ Some (Pushed kind v)
          → SlotThere A b under at n c (i ∷ is) kind v
      here un by zero e q =
          let ii : i ≡ Pushed kind v = same_Some _ _ q in
          let size : item_size w i ≡ slot_bytes w kind = ap (item_size w) ii in
          let s0 : ItemShows w A b (minus end (item_size w i + (height w is + under))) (Pushed kind v) =
          subst (ItemShows w A b (minus end (item_size w i + (height w is + under)))) ii sh.0 in
          record {
            far = item_size w i + (height w is + under);
            within = omega arith;
            past = omega (arith, size);
            shows = s0;
            offset = ap₂ (λ x y. x * w + y + (item_size w i + (height w is + under))) un by
                ∙ (let z : n * w + c + (item_size w i + (height w is + under)) ≡ n * w + c + (item_size w i + height w is + under) =
                omega arith in z);
          }
      here un by (suc k) e q = absurd (omega (arith, e))

      later : (k : ℕ) → ((k : ℕ) → parameter_at at (suc j) (n + item_units i) (c + item_bytes i) (take m is) ≡ Some (ParamAt (suc j + k))
          → slice_get (take m is) k ≡ Some (Pushed kind v) → SlotThere A b under at (n + item_units i) (c + item_bytes i) is kind v)
          → parameter_at at (suc j) (n + item_units i) (c + item_bytes i) (take m is) ≡ Some (ParamAt (j + k))
          → slice_get (i ∷ take m is) k ≡ Some (Pushed kind v) → SlotThere A b under at n c (i ∷ is) kind v
      later zero next g q = absurd (number_from at (suc j) _ _ (take m is) j
          (subst (λ y. parameter_at at (suc j) (n + item_units i) (c + item_bytes i) (take m is) ≡ Some (ParamAt y))
          (let e : j + 0 ≡ j = omega arith in e) g) (omega arith))
      later (suc k) next g q =
          let e : j + suc k ≡ suc j + k = omega arith in
          let r = next k (subst (λ y. parameter_at at (suc j) (n + item_units i) (c + item_bytes i) (take m is) ≡ Some
          (ParamAt y)) e g) q in
          let p = item_pair w i in
          record {
            far = r.far;
            within = omega (arith, r.within);
            past = r.past;
            shows = r.shows;
            offset = r.offset ∙ (let z : (n + item_units i) * w + (c + item_bytes i) + (height w is + under) ≡ n * w + c +
                (item_size w i + height w is + under) = omega (arith, p) in z);
          }

      go : (t : Bool) → (nat_eq at.n n && nat_eq at.c c) ≡ t → ((k : ℕ)
          → parameter_at at (suc j) (n + item_units i) (c + item_bytes i) (take m is) ≡ Some (ParamAt (suc j + k))
          → slice_get (take m is) k ≡ Some (Pushed kind v) → SlotThere A b under at (n + item_units i) (c + item_bytes i) is kind v)
          → (if t then Some (ParamAt j) else parameter_at at (suc j) (n + item_units i) (c + item_bytes i) (take m is)) ≡ Some
          (ParamAt (j + k)) → SlotThere A b under at n c (i ∷ is) kind v
      go true t next g = let a = and_parts (nat_eq at.n n) (nat_eq at.c c) t in let e : j ≡ j + k = same_number _ _ (same_Some _ _ g) in
          here (eqb-true _ _ a.0) (eqb-true _ _ a.1) k (omega (arith, e)) q
      go false t next g = later k next g q
