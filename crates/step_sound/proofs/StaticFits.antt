-- What the cells of a typed image's static objects hold at first fits them.
use Rattle.step_sound.proofs.Common.{◌≡◌, ℕ, suc, ◌+◌, ◌-◌, ◌*◌, ◌^◌, ◌<◌, ◌≤◌, Bool, true, false, not, if◌then◌else◌, List, map, Option}
use Rattle.step_sound.proofs.Common.{Some, option_map, option_and_then, refl, sym, ap, ap₂, ◌∙◌, subst, arith, inl, ⊎_elim, slice_get, pos}
use Rattle.step_sound.proofs.Common.{inr, nat_lt, None, ◌++◌, ltb-true, option_map_or, row_fits, same_Some, slice_get-map, slice_get_within}
use Rattle.step_sound.proofs.Common.{slice_get-get_or, none-some, little_endian, little_endian-below, IsRunOf, cell_size, size_at, start_at}
use Rattle.step_sound.proofs.Common.{Cell, Static, Field, Shape, AreBytes, image_byte, named_place, Image, extent, depends, field_place}
use Rattle.step_sound.proofs.Common.{IsStatic, IsLinked, CellHolds, HasContentBy, IsUnrelocated, field_at, cell_field, no_shape, shape_of}
use Rattle.step_sound.proofs.Common.{static_object, made_objects, script_object, placed_objects, Neutral, At, ObjectOf, FieldOf, number}
use Rattle.step_sound.proofs.Common.{null, word, World, TypedObject, slice_get-append_left, length-map, contains-any, static_cells}
use Rattle.step_sound.proofs.Common.{static_cell_place, static_value, static_address, loaded_value}
use Rattle.ebc_width.specs.Width.{wrap64}
use Rattle.host_laws.proofs.Accepting.{read_zero}
use Rattle.note_types.specs.{Shapes.IsShape, Cells.content_type}
use Rattle.host_model.specs.{Values.CellPlace, Values.FieldOfLocals, HostPlans.field_in, Scripts.is_needed}
use Rattle.step_sound.proofs.StaticThings.{units_none, field_units, unlisted, static_found}
use Rattle.neutral_machine.specs.Fits.{IsNumber, IsPointer, FitsPlain}
use Rattle.std.proofs.Math.Nat.{dvd_of_mod-eq-zero}
use Rattle.rules_image.specs.Images.{MayBeZero}
use Rattle.invariant_laws.proofs.Filling.{zero_fits}
use Rattle.invariant_laws.specs.Hosted.{StaticsFit, no_locals_there}
use Rattle.note_types.specs.declared.cell.Cell.TheVariants as cell

-- ---- cells

-- a cell that may be zero needs nothing else
not_needed : (c : Cell) → MayBeZero c → is_needed c ≡ false
not_needed cell.I8 m = refl
not_needed cell.I16 m = refl
not_needed cell.I32 m = refl
not_needed cell.I64 m = refl
not_needed cell.N m = refl
not_needed cell.Stat m = refl
not_needed cell.Handle m = refl
not_needed cell.Entry m = refl
not_needed (cell.Ptr s k may) m = ap not m
not_needed (cell.P64 s k may) m = ap not m
not_needed (cell.Method n) m = absurd m

module _ (image : Image) (world : World) (run : IsRunOf image world) (bytes : AreBytes image) where
  abbrev objects : List TypedObject
  objects = map static_object world.notes.statics

  abbrev fits_cell : Cell → Neutral → Type 0
  fits_cell c v = FitsPlain world.notes (map static_object world.notes.statics) (content_type c) v

  -- the number in the image's bytes from a place on
  abbrev held : ℕ → ℕ → ℕ
  held p n = little_endian (image_byte image) p n

  plain_value : (p n : ℕ) → 0 < n → IsUnrelocated image p (p + n) → loaded_value world.notes image p n ≡ number (held p n)
  plain_value p n some free =
      ap (λ b. if b then static_address world.notes (named_place image p) else number (held p n))
      (unlisted image.relocs p (λ c. free p c (omega (arith, some), omega arith)))

  plain_fits : (p n hi : ℕ) → 0 < n → IsUnrelocated image p (p + n) → 256 ^ n ≤ suc hi
      → IsNumber 0 hi 1 (loaded_value world.notes image p n)
  plain_fits p n hi some free small =
      let b = little_endian-below (image_byte image) p n bytes in
      subst (IsNumber 0 hi 1) (sym (plain_value p n some free))
      (record { x = held p n; is = refl; from = omega arith; to = omega (arith, b, small); divided = dvd_of_mod-eq-zero 1 (omega arith) })

  linked_fits : (p s count : ℕ) → IsLinked image world.notes p s count
      → IsPointer world.notes (map static_object world.notes.statics) s count (pos 0) (pos 0) (loaded_value world.notes image p 8)
  linked_fits p s count link =
      let some = contains-any image.relocs p link.relocated in
      let at = link.named in
      let found = static_found image world run (named_place image p) s count at in
      let v : loaded_value world.notes image p 8 ≡ At (ObjectOf at.k) 0 0 =
      ap (λ b. if b then static_address world.notes (named_place image p) else number (held p 8)) some
      ∙ ap (λ o. option_map_or (λ u. u) (option_map (λ k. At (ObjectOf k) 0 0) o) null) found in
      subst (IsPointer world.notes (map static_object world.notes.statics) s count (pos 0) (pos 0)) (sym v)
      (record {
        k = at.k;
        j = 0;
        object = static_object at.x;
        is = ap₂ (At (ObjectOf at.k)) (let e : 0 ≡ word (0 * (shape_of world.notes s).n + wrap64 (pos 0)) = omega arith in e)
            (let e : 0 ≡ word (0 * (shape_of world.notes s).c + wrap64 (pos 0)) = omega arith in e);
        there = slice_get-map static_object world.notes.statics at.k ∙ ap (option_map static_object) at.there;
        shape = at.shape_is;
        room = (let n = at.enough in omega (arith, n));
      })

  filled_fits : (p : ℕ) (c : Cell) → CellHolds image world.notes p c
      → FitsPlain world.notes (map static_object world.notes.statics) (content_type c) (loaded_value world.notes image p (cell_size 4 c))
  filled_fits p cell.I8 f = plain_fits p 1 (2 ^ 8 - 1) (omega arith) f (omega arith)
  filled_fits p cell.I16 f = plain_fits p 2 (2 ^ 16 - 1) (omega arith) f (omega arith)
  filled_fits p cell.I32 f = plain_fits p 4 (2 ^ 32 - 1) (omega arith) f (omega arith)
  filled_fits p cell.I64 f = plain_fits p 8 (2 ^ 64 - 1) (omega arith) f (omega arith)
  filled_fits p (cell.P64 s k true) f = ⊎_elim
      (λ z. inr (plain_value p 8 (omega arith) z.0 ∙ ap number (read_zero (image_byte image) p 8 (λ y u v. z.1 y u v))))
      (λ z. inl (linked_fits p s k z)) f
  filled_fits p (cell.P64 s k false) f = linked_fits p s k f
  filled_fits p cell.N f = absurd f
  filled_fits p cell.Stat f = absurd f
  filled_fits p cell.Handle f = absurd f
  filled_fits p cell.Entry f = absurd f
  filled_fits p (cell.Ptr s k may) f = absurd f
  filled_fits p (cell.Method m) f = absurd f

  -- a cell of a static object fits
  value_fits : (k i f : ℕ) (s : Static) (z : Field) → slice_get world.notes.statics k ≡ Some s → i < s.count
      → slice_get (shape_of world.notes s.shape).fields f ≡ Some z
      → FitsPlain world.notes (map static_object world.notes.statics) (content_type z.cell) (static_value world.notes image s i z)
  value_fits k i f s z g count field = by_layout (depends S) refl rule.content
    where
      S : Shape
      S = shape_of world.notes s.shape

      known : slice_get world.notes.shape s.shape ≡ Some (shape_of world.notes s.shape)
      known = slice_get-get_or world.notes.shape s.shape no_shape (run.notes.statics k s g).shape

      rule : IsStatic image world.notes k s (shape_of world.notes s.shape)
      rule = run.statics k s (shape_of world.notes s.shape) g known

      shape : IsShape (shape_of world.notes s.shape)
      shape = run.shapes s.shape (shape_of world.notes s.shape) known

      inside4 : i * size_at 4 (shape_of world.notes s.shape) + start_at 4 z + cell_size 4 z.cell ≤ extent s (shape_of world.notes s.shape)
      inside4 = let inner = shape.at4.inside f z field in
          let row = row_fits i (size_at 4 (shape_of world.notes s.shape)) s.count (size_at 8 (shape_of world.notes s.shape)) count
          (omega arith) in
          omega (arith, inner, row)

      some4 : 0 < cell_size 4 z.cell
      some4 = positive4 z.cell
        where
          positive4 : (c : Cell) → 0 < cell_size 4 c
          positive4 cell.I8 = omega arith
          positive4 cell.I16 = omega arith
          positive4 cell.I32 = omega arith
          positive4 cell.I64 = omega arith
          positive4 cell.N = omega arith
          positive4 cell.Stat = omega arith
          positive4 cell.Handle = omega arith
          positive4 cell.Entry = omega arith
          positive4 (cell.Ptr s k may) = omega arith
          positive4 (cell.P64 s k may) = omega arith
          positive4 (cell.Method m) = omega arith

      by_layout : (b : Bool) → depends (shape_of world.notes s.shape) ≡ b
          → HasContentBy image world.notes s (shape_of world.notes s.shape) b
          → FitsPlain world.notes (map static_object world.notes.statics) (content_type z.cell) (static_value world.notes image s i z)
      by_layout true e c =
          let p = static_cell_place world.notes s i z in
          let n = cell_size 4 z.cell in
          let from : s.place ≤ p = omega arith in
          let to : p + n ≤ s.place + extent s (shape_of world.notes s.shape) = omega (arith, inside4) in
          let none = unlisted image.relocs p (λ r. c.unrelocated p r (omega (arith, to, some4), omega (arith, from))) in
          let zero : held p n ≡ 0 = read_zero (image_byte image) p n
          (λ y u v. c.zero_bytes y (omega (arith, from, u)) (omega (arith, to, v))) in
          let v : loaded_value world.notes image p n ≡ null = ap
          (λ t. if t then static_address world.notes (named_place image p) else number (held p n)) none ∙ ap number zero in
          subst (FitsPlain world.notes (map static_object world.notes.statics) (content_type z.cell)) (sym v)
          (zero_fits world.notes (map static_object world.notes.statics) z.cell (not_needed z.cell (c.cells f z field)))
      by_layout false e c =
          let none = units_none (shape_of world.notes s.shape) e in
          let z0 = field_units (shape_of world.notes s.shape) f z e field in
          let p8 = field_place s (shape_of world.notes s.shape) i z in
          let fixed : (v : ℕ) → s.place + (i * size_at v (shape_of world.notes s.shape) + start_at v z) ≡ s.place +
          (i * (shape_of world.notes s.shape).c + z.c) =
          λ v. ap₂ (λ a b. s.place + (i * (a * v + (shape_of world.notes s.shape).c) + (b * v + z.c))) none z0 ∙ omega arith in
          let here : static_cell_place world.notes s i z ≡ p8 =
          (let q : static_cell_place world.notes s i z ≡ s.place + (i * size_at 4 (shape_of world.notes s.shape) + start_at 4 z) =
          omega arith in q) ∙ fixed 4 ∙ sym (fixed 8) ∙ omega arith in
          subst (λ p. FitsPlain world.notes (map static_object world.notes.statics) (content_type z.cell)
          (loaded_value world.notes image p (cell_size 4 z.cell))) (sym here) (filled_fits p8 z.cell (c.cells i f z count field))

  -- ---- all of them

  -- what a static cell is
  record StaticCell (k i f : ℕ) (z : Field) : Type 0 where
    s : Static
    there : slice_get world.notes.statics k ≡ Some s
    count : i < s.count
    field : slice_get (shape_of world.notes s.shape).fields f ≡ Some z
    value : static_cells world image (FieldOf k i f) ≡ Some (static_value world.notes image s i z)

  static_cell : (k i f : ℕ) (z : Field) → field_at world.notes (map static_object world.notes.statics) k i f ≡ Some z → StaticCell k i f z
  unfolding field_at static_cells made_objects
  static_cell k i f z e = go (slice_get world.notes.statics k) refl
      (ap (option_and_then (field_in world.notes i f)) (sym (slice_get-map static_object world.notes.statics k)) ∙ e)
    where
      test : (s : Static) → slice_get world.notes.statics k ≡ Some s → (t : Bool) → nat_lt i s.count ≡ t
          → (if t then slice_get (shape_of world.notes s.shape).fields f else None) ≡ Some z → StaticCell k i f z
      test s g false t h = absurd (none-some z h)
      test s g true t h =
          let few = slice_get_within world.notes.statics k s g in
          let size = length-map static_object world.notes.statics in
          let at : slice_get (map static_object world.notes.statics ++ map script_object (placed_objects world.script 0)) k ≡ Some
          (static_object s) =
          slice_get-append_left (map static_object world.notes.statics) (map script_object (placed_objects world.script 0)) k
          (omega (arith, few, size)) ∙ slice_get-map static_object world.notes.statics k ∙ ap (option_map static_object) g in
          record {
            s = s;
            there = g;
            count = ltb-true i s.count t;
            field = h;
            value = ap (λ (q : Option Static). option_and_then (λ (x : Static). option_map (static_value world.notes image x i)
                (option_and_then (field_in world.notes i f)
                (slice_get (map static_object world.notes.statics ++ map script_object (placed_objects world.script 0)) k))) q) g
                ∙ ap (λ (q : Option TypedObject). option_map (static_value world.notes image s i)
                (option_and_then (field_in world.notes i f) q)) at
                ∙ ap (λ b. option_map (static_value world.notes image s i)
                (if b then slice_get (shape_of world.notes s.shape).fields f else None)) t
                ∙ ap (option_map (static_value world.notes image s i)) h;
          }

      go : (q : Option Static) → slice_get world.notes.statics k ≡ q
          → option_and_then (field_in world.notes i f) (option_map static_object q) ≡ Some z → StaticCell k i f z
      go None g h = absurd (none-some z h)
      go (Some s) g h = test s g (nat_lt i s.count) refl h

  pub statics_fit : StaticsFit world (static_cells world image)
  unfolding field_at
  statics_fit = record {
    fit = fit;
    all = λ k i f z g. let c = static_cell k i f z g in (static_value world.notes image c.s i z, c.value);
  }
    where
      fit : (p : CellPlace) (z : Field) (v : Neutral) → cell_field world.notes
          (record {
            objects = map static_object world.notes.statics;
            locals = no_locals_there;
            cells = static_cells world image;
          }) p ≡ Some z → static_cells world image p ≡ Some v
          → FitsPlain world.notes (map static_object world.notes.statics) (content_type z.cell) v
      fit (FieldOf k i f) z v g e =
          let c = static_cell k i f z g in
          subst (FitsPlain world.notes (map static_object world.notes.statics) (content_type z.cell))
          (same_Some (static_value world.notes image c.s i z) v (sym c.value ∙ e)) (value_fits k i f c.s z c.there c.count c.field)
      fit (FieldOfLocals d f) z v g e = absurd (none-some z g)
