-- A value that names a cell exactly has, at each width, the cell's address.
use Rattle.neutral_machine.proofs.Common.{◌≡◌, ℕ, suc, ◌+◌, ◌*◌, ◌%◌, ◌^◌, ◌≤◌, Bool, true, false, ◌&&◌, if◌then◌else◌, nat_eq, nat_lt}
use Rattle.neutral_machine.proofs.Common.{List, [], ◌∷◌, Option, Some, None, refl, sym, ap, ap₂, ◌∙◌, subst, arith, slice_get, option_map}
use Rattle.neutral_machine.proofs.Common.{option_and_then, mod-eq_of_lt, add-mod-mod, ltb-true, eqb-true, and_parts, same_Some, none-some}
use Rattle.neutral_machine.proofs.Common.{IsWidth, cut_at, cell_size, size_at, start_at, Field, Shape, ObjectOf, ThunkOf, LocalOf, Neutral}
use Rattle.neutral_machine.proofs.Common.{At, Shows, CellPlace, FieldOf, FieldOfLocals, word, Config, World, TypedObject, made_objects}
use Rattle.neutral_machine.proofs.Common.{shape_of, Placement, IsPlacement, stack_end, addresses, local_address, memory_of, cell_field}
use Rattle.neutral_machine.proofs.Common.{instance_at, CellAt, ThunkAt, find_field, located_past, cell_address, WorldFits, some_of_map}
use Rattle.neutral_machine.specs.Locations.{is_field, cell_in}
use Rattle.neutral_machine.proofs.Cells.{InObject, in_object_at, ObjectCell, object_cell, object_place, CellLies}
use Rattle.neutral_machine.proofs.{Numbers.lin_mod, Numbers.cut_same, Placed.object_within, Agree.cell_positive, Words.width_word}

-- ---- fields by their pairs

pub record Found (t : Field → Bool) (f : ℕ) (xs : List Field) (g : ℕ) : Type 0 where
  pub j : ℕ
  pub x : Field
  pub sum : g ≡ f + j
  pub get : slice_get xs j ≡ Some x
  pub test : t x ≡ true

pub find_sound : (t : Field → Bool) (f : ℕ) (xs : List Field) (g : ℕ) → find_field t f xs ≡ Some g → Found t f xs g
find_sound t f [] g e = absurd (none-some g e)
find_sound t f (x ∷ xs) g e = go (λ q. find_sound t (suc f) xs g q) (t x) refl e
  where
    go : (find_field t (suc f) xs ≡ Some g → Found t (suc f) xs g) → (b : Bool) → t x ≡ b
        → (if b then Some f else find_field t (suc f) xs) ≡ Some g → Found t f (x ∷ xs) g
    go next true h e = let s = same_Some f g e in record { j = 0; x = x; sum = omega (arith, s); get = refl; test = h }
    go next false h e =
        let r = next e in
        record { j = suc r.j; x = r.x; sum = omega (arith, r.sum); get = r.get; test = r.test }

-- the cell that a pair past the start of object k names
pub record Named (world : World) (n k : ℕ) (a b : ℕ) (p : CellPlace) : Type 0 where
  pub i : ℕ
  pub f : ℕ
  pub z : Field
  pub is : p ≡ FieldOf k i f
  pub cell : InObject world n k i f z
  pub units : a ≡ word (i * (shape_of world.notes cell.object.shape).n + z.n)
  pub bytes : b ≡ word (i * (shape_of world.notes cell.object.shape).c + z.c)

named_in : (world : World) (n k a b : ℕ) (o : TypedObject) (p : CellPlace) → slice_get (made_objects world.notes world.script n) k ≡ Some o
    → cell_in world.notes k a b o ≡ Some p → Named world n k a b p
named_in world n k a b o p g h = go (nat_lt i o.count) refl h
  where
    S : Shape
    S = shape_of world.notes o.shape

    i : ℕ
    i = instance_at S a b

    go : (t : Bool) → nat_lt i o.count ≡ t → (if t then option_map (FieldOf k i) (find_field (is_field S i a b) 0 S.fields)
        else None) ≡ Some p → Named world n k a b p
    go true t q =
        let r = some_of_map (FieldOf k i) (find_field (is_field S i a b) 0 S.fields) p q in
        let s = find_sound (is_field S i a b) 0 S.fields r.0 r.1 in
        let e = and_parts (nat_eq a (word (i * S.n + s.x.n))) (nat_eq b (word (i * S.c + s.x.c))) s.test in
        let same : s.j ≡ r.0 = omega (arith, s.sum) in
        record {
          i = i;
          f = r.0;
          z = s.x;
          is = sym r.2;
          cell = record { object = o; there = g; within = ltb-true _ _ t; get = subst (λ j. slice_get S.fields j ≡ Some s.x) same s.get };
          units = eqb-true _ _ e.0;
          bytes = eqb-true _ _ e.1;
        }
    go false t q = absurd (none-some p q)

-- a pair of an instance's field, as it is and modulo 2 ^ 64
pair_offset : (w base i s t x y a b : ℕ) → a ≡ word (i * s + x) → b ≡ word (i * t + y)
    → word (base + (a * w + b)) ≡ word (base + (i * (s * w + t) + (x * w + y)))
pair_offset w base i s t x y a b p q =
    let e1 : word (base + (a * w + b)) ≡ word (base + (word (i * s + x) * w + word (i * t + y))) =
    ap₂ (λ u v. word (base + (u * w + v))) p q in
    let e2 : word (base + (word (i * s + x) * w + word (i * t + y))) ≡ word (base + ((i * s + x) * w + (i * t + y))) =
    sym (add-mod-mod base _ (2 ^ 64)) ∙ ap (λ u. word (base + u)) (lin_mod (i * s + x) (i * t + y) w (2 ^ 64))
    ∙ add-mod-mod base _ (2 ^ 64) in
    let e3 : (i * s + x) * w + (i * t + y) ≡ i * (s * w + t) + (x * w + y) = omega arith in
    e1 ∙ e2 ∙ ap (λ u. word (base + u)) e3

module _ (w : ℕ) (world : World) (P : Placement) (h : IsWidth w) (ok : WorldFits world) (pl : IsPlacement w world P) where
  -- what a value names, by its form
  pub data Names (a : Config) (v : Neutral) (p : CellPlace) : Type 0 where
    in_object : (k n c : ℕ) → v ≡ At (ObjectOf k) n c → Named world a.script.entries k n c p → Names a v p
    in_locals : (d f : ℕ) → v ≡ At (LocalOf d f) 0 0 → p ≡ FieldOfLocals d f → Names a v p

  same_cell : (p q : CellPlace) → CellAt p ≡ CellAt q → p ≡ q
  same_cell p q e = cc

  not_thunk : (i : ℕ) (p : CellPlace) → ThunkAt i ≡ CellAt p → ⊥
  not_thunk i p e = absurd (cc)

  pub names : (a : Config) (v : Neutral) (p : CellPlace) → located_past world.notes (memory_of world a).objects v ≡ Some (CellAt p)
      → Names a v p
  unfolding located_past
  names a (At (ObjectOf k) n c) p g = go (slice_get (made_objects world.notes world.script a.script.entries) k) refl g
    where
      go : (o : Option TypedObject) → slice_get (made_objects world.notes world.script a.script.entries) k ≡ o
          → option_map CellAt (option_and_then (cell_in world.notes k n c) o) ≡ Some (CellAt p) → Names a (At (ObjectOf k) n c) p
      go None e q = absurd (none-some (CellAt p) q)
      go (Some o) e q =
          let r = some_of_map CellAt (cell_in world.notes k n c o) (CellAt p) q in
          in_object k n c refl (named_in world a.script.entries k n c o p e (r.1 ∙ ap Some (same_cell r.0 p r.2)))
  names a (At (ThunkOf i) n c) p g = go (nat_eq n 0 && nat_eq c 0) g
    where
      go : (t : Bool) → (if t then Some (ThunkAt i) else None) ≡ Some (CellAt p) → Names a (At (ThunkOf i) n c) p
      go true q = absurd (not_thunk i p (same_Some _ _ q))
      go false q = absurd (none-some _ q)
  names a (At (LocalOf d f) n c) p g = go (nat_eq n 0 && nat_eq c 0) refl g
    where
      go : (t : Bool) → (nat_eq n 0 && nat_eq c 0) ≡ t → (if t then Some (CellAt (FieldOfLocals d f)) else None) ≡ Some (CellAt p)
          → Names a (At (LocalOf d f) n c) p
      go true t q =
          let e = and_parts (nat_eq n 0) (nat_eq c 0) t in
          in_locals d f (ap₂ (At (LocalOf d f)) (eqb-true _ _ e.0) (eqb-true _ _ e.1)) (sym (same_cell _ _ (same_Some _ _ q)))
      go false t q = absurd (none-some _ q)
  names a v p g = absurd (none-some _ g)

  -- The number of a value that names a cell, cut to the width, is the cell's address.
  pub address_of_named : (a : Config) (v : Neutral) (x : ℕ) (p : CellPlace) (z : Field) (c : CellLies w world P h ok pl a p z)
      → cell_field world.notes (memory_of world a) p ≡ Some z → Shows w (addresses w world.notes P a.frames) v x → Names a v p
      → cut_at w x ≡ c.address
  address_of_named a v x p z c g s (in_object k n b e m) =
      let q : cell_field world.notes (memory_of world a) (FieldOf k m.i m.f) ≡ Some z =
      subst (λ r. cell_field world.notes (memory_of world a) r ≡ Some z) m.is g in
      let i = in_object_at world a k m.i m.f z q in
      let o : ObjectCell w world P h ok pl a.script.entries k m.i m.f z i = object_cell w world P h ok pl a.script.entries k m.i m.f z i in
      let same : m.cell.object ≡ i.object = same_Some _ _ (sym m.cell.there ∙ i.there) in
      let field : m.z ≡ z = same_Some _ _ (sym m.cell.get ∙ ap (λ (r : TypedObject). slice_get
      (shape_of world.notes r.shape).fields m.f) same ∙ i.get) in
      let S = shape_of world.notes i.object.shape in
      let un : n ≡ word (m.i * S.n + z.n) = m.units ∙ ap₂ (λ (r : TypedObject) (y : Field). word
      (m.i * (shape_of world.notes r.shape).n + y.n)) same field in
      let by : b ≡ word (m.i * S.c + z.c) = m.bytes ∙ ap₂ (λ (r : TypedObject) (y : Field). word
      (m.i * (shape_of world.notes r.shape).c + y.c)) same field in
      let sh = subst (λ u. Shows w (addresses w world.notes P a.frames) u x) e s in
      let base : sh.from ≡ o.lies.base = same_Some _ _ (sym sh.there ∙ o.lies.address) in
      let at : x ≡ word (o.lies.base + (m.i * size_at w S + start_at w z)) = sh.is ∙ ap (λ u. word (u + (n * w + b))) base
      ∙ pair_offset w o.lies.base m.i S.n S.c z.n z.c n b un by in
      let bound : object_place w world P h ok pl o + cell_size w z.cell ≤ 2 ^ (8 * w) = let r =
      object_within w world P h ok pl a.script.entries k i.object o.lies in omega (arith, r, o.inside) in
      let pos = cell_positive w z.cell h in
      let there : cell_address w world P a p z ≡ Some (object_place w world P h ok pl o) = ap (λ r. cell_address w world P a r z) m.is
      ∙ o.address_is in
      let final : c.address ≡ object_place w world P h ok pl o = same_Some _ _ (sym c.there ∙ there) in
      ap (cut_at w) at ∙ cut_same w _ (object_place w world P h ok pl o) h (word_word (object_place w world P h ok pl o))
      (omega (arith, bound, pos)) ∙ sym final
    where
      word_word : (y : ℕ) → word y % 2 ^ 64 ≡ y % 2 ^ 64
      word_word y = omega arith
  address_of_named a v x p z c g s (in_locals d f e q) =
      let there : local_address w (stack_end w world.notes P) a.frames d f ≡ Some c.address =
      subst (λ r. cell_address w world P a r z ≡ Some c.address) q c.there in
      let sh = subst (λ u. Shows w (addresses w world.notes P a.frames) u x) e s in
      let from : sh.from ≡ c.address = same_Some _ _ (sym sh.there ∙ there) in
      let pos = cell_positive w z.cell h in
      let m = width_word w h in
      let at : x ≡ c.address = sh.is ∙ (let r : word (sh.from + (0 * w + 0)) ≡ c.address = omega (arith, from, c.bounded, pos, m) in r) in
      ap (cut_at w) at ∙ mod-eq_of_lt (omega (arith, c.bounded, pos))
