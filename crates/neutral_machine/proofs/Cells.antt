-- Cells: each has an address in one placed object, cells of different places share no byte, and none is on the rest.
use Rattle.neutral_machine.proofs.Common.{◌≡◌, ◌≢◌, ℕ, ◌+◌, ◌-◌, ◌*◌, ◌^◌, ◌<◌, ◌≤◌, Bool, true, false, if◌then◌else◌, nat_lt, Option, Some}
use Rattle.neutral_machine.proofs.Common.{None, refl, sym, ap, ap₂, ◌∙◌, subst, subst₂, arith, inl, inr, ⊎_elim, slice_get, le_refl}
use Rattle.neutral_machine.proofs.Common.{option_and_then, ltb-true, eq-eqb, and_from, cases_eq, cases_order, true≢false, row_fits}
use Rattle.neutral_machine.proofs.Common.{same_Some, none-some, slice_get-get_or, IsWidth, cell_size, holds, IsShape, size_at, start_at}
use Rattle.neutral_machine.proofs.Common.{FnNote, Thunk, Field, Shape, CellPlace, FieldOf, FieldOfLocals, same_cell_place, Config}
use Rattle.neutral_machine.proofs.Common.{locals_at, World, TypedObject, shape_of, no_shape, made_objects, object_bytes, Placement}
use Rattle.neutral_machine.proofs.Common.{IsPlacement, stack_bytes, stack_end, object_address, placed_ranges, total, local_address}
use Rattle.neutral_machine.proofs.Common.{memory_of, cell_field, OwnLocalsAll, cell_address, WorldFits}
use Rattle.host_model.specs.HostPlans.{field_in}
use Rattle.neutral_machine.specs.Stands.{in_object}
use Rattle.neutral_machine.proofs.Placed.{lies, Off, off_stack, off_thunk, off_code, image_off_stack, object_within, objects_off}
use Rattle.neutral_machine.proofs.Placed.{object_holds, stack_holds, stack_within}
use Rattle.neutral_machine.proofs.{PlacedObjects.Lies, Agree.Within, Agree.local_within, Locals.fits_at, Locals.locals_fit}
use Rattle.neutral_machine.proofs.{Locals.local_there, Locals.locals_off, Words.width_word}

-- a well-formed shape at a number
pub shape_fits : (world : World) (n k : ℕ) (o : TypedObject) → WorldFits world
    → slice_get (made_objects world.notes world.script n) k ≡ Some o → IsShape (shape_of world.notes o.shape)
shape_fits world n k o ok g = ok.shapes o.shape _ (slice_get-get_or world.notes.shape o.shape no_shape (ok.objects n k o g).0)

-- a field of an instance of a made object
pub record InObject (world : World) (n k i f : ℕ) (z : Field) : Type 0 where
  pub object : TypedObject
  pub there : slice_get (made_objects world.notes world.script n) k ≡ Some object
  pub within : i < object.count
  pub get : slice_get (shape_of world.notes object.shape).fields f ≡ Some z

pub in_object_at : (world : World) (a : Config) (k i f : ℕ) (z : Field)
    → cell_field world.notes (memory_of world a) (FieldOf k i f) ≡ Some z → InObject world a.script.entries k i f z
in_object_at world a k i f z h = by_object (slice_get (made_objects world.notes world.script a.script.entries) k) refl h
  where
    by_instance : (o : TypedObject) → slice_get (made_objects world.notes world.script a.script.entries) k ≡ Some o → (b : Bool)
        → nat_lt i o.count ≡ b → (if b then slice_get (shape_of world.notes o.shape).fields f else None) ≡ Some z
        → InObject world a.script.entries k i f z
    by_instance o g true l q = record { object = o; there = g; within = ltb-true i o.count l; get = q }
    by_instance o g false l q = absurd (none-some z q)

    by_object : (x : Option TypedObject) → slice_get (made_objects world.notes world.script a.script.entries) k ≡ x
        → option_and_then (field_in world.notes i f) x ≡ Some z → InObject world a.script.entries k i f z
    by_object None g q = absurd (none-some z q)
    by_object (Some o) g q = by_instance o g (nat_lt i o.count) refl q

-- a field of locals that are there
pub record InLocals (a : Config) (d f : ℕ) (z : Field) : Type 0 where
  pub shape : Shape
  pub there : locals_at a.frames d ≡ Some shape
  pub get : slice_get shape.fields f ≡ Some z

pub in_locals_at : (world : World) (a : Config) (d f : ℕ) (z : Field)
    → cell_field world.notes (memory_of world a) (FieldOfLocals d f) ≡ Some z → InLocals a d f z
in_locals_at world a d f z h = go (locals_at a.frames d) refl h
  where
    go : (x : Option Shape) → locals_at a.frames d ≡ x → option_and_then (λ (s : Shape). slice_get s.fields f) x ≡ Some z → InLocals a d f z
    go None g q = absurd (none-some z q)
    go (Some s) g q = record { shape = s; there = g; get = q }

-- two instances of a shape
instances_apart : (i j z p q s t : ℕ) → i < j → p + s ≤ z → q + t ≤ z → i * z + p + s ≤ j * z + q
instances_apart i j z p q s t h a b =
    let row = row_fits i z j z h (le_refl _) in omega (arith, row)

module _ (w : ℕ) (world : World) (P : Placement) (h : IsWidth w) (ok : WorldFits world) (pl : IsPlacement w world P) where
  abbrev End : ℕ
  End = stack_end w world.notes P

  pub end_small : End ≤ 2 ^ 64
  end_small = let s = stack_within w world P h ok pl in let p = width_word w h in omega (arith, s.below, p)

  -- ---- cells of objects

  -- where a field of an instance of a made object lies
  pub record ObjectCell (n k i f : ℕ) (z : Field) (c : InObject world n k i f z) : Type 0 where
    pub lies : Lies w world P n k c.object
    pub inside : i * size_at w
        (shape_of world.notes c.object.shape) + start_at w z + cell_size w z.cell ≤ object_bytes w world.notes c.object
    pub address_is : in_object w world i z (slice_get (made_objects world.notes world.script n) k) (object_address world.notes P k) ≡ Some
        (lies.base + (i * size_at w (shape_of world.notes c.object.shape) + start_at w z))

  pub object_cell : (n k i f : ℕ) (z : Field) (c : InObject world n k i f z) → ObjectCell n k i f z c
  object_cell n k i f z c =
      let l = lies w world P h ok pl n k c.object c.there in
      let fit = fits_at w _ h (shape_fits world n k c.object ok c.there) in
      let inner = fit.inside f z c.get in
      let row = row_fits i (size_at w (shape_of world.notes c.object.shape)) c.object.count
      (size_at w (shape_of world.notes c.object.shape)) c.within (le_refl _) in
      record {
        lies = l;
        inside = omega (arith, inner, row);
        address_is = ap₂ (in_object w world i z) c.there l.address;
      }

  -- the address of a cell of an object
  abbrev pub object_place : {n k i f : ℕ} {z : Field} {c : InObject world n k i f z} → ObjectCell n k i f z c → ℕ
  object_place {n} {k} {i} {f} {z} {c} o = o.lies.base + (i * size_at w (shape_of world.notes c.object.shape) + start_at w z)

  -- ---- cells of locals

  -- where a field of locals lies
  pub record LocalCell (a : Config) (d f : ℕ) (z : Field) : Type 0 where
    pub address : ℕ
    pub address_is : local_address w End a.frames d f ≡ Some address
    pub within : Within w End h end_small (total w a.frames) 0 address (cell_size w z.cell)

  pub local_cell : (a : Config) (d f : ℕ) (z : Field) → total w a.frames ≤ stack_bytes w world.notes → OwnLocalsAll world.notes a.frames
      → InLocals a d f z → LocalCell a d f z
  local_cell a d f z room own c =
      let x = local_there w End h end_small a.frames d c.shape f z c.there c.get in
      record {
        address = x.0;
        address_is = x.1;
        within = local_within w End h end_small a.frames d c.shape f x.0 z (omega (arith, room)) x.1 c.there
            (fits_at w c.shape h (locals_fit world a.frames d c.shape ok own c.there)) c.get;
      }

  -- ---- each cell has an address

  -- A cell has an address. Its bytes are in one placed object, below the greatest address, and off thunk cells and code.
  pub record CellLies (a : Config) (p : CellPlace) (z : Field) : Type 0 where
    pub address : ℕ
    pub there : cell_address w world P a p z ≡ Some address
    pub held : holds (placed_ranges w world P a.script.entries) address (cell_size w z.cell) ≡ true
    pub bounded : address + cell_size w z.cell ≤ 2 ^ (8 * w)
    pub off_thunks : (i : ℕ) (t : Thunk) → slice_get world.notes.thunk i ≡ Some t
        → Off w world P h ok pl (P.image + t.place) 8 address (cell_size w z.cell)
    pub off_codes : (j : ℕ) (f : FnNote) → slice_get world.notes.function j ≡ Some f
        → Off w world P h ok pl (P.image + f.place) (f.end - f.place) address (cell_size w z.cell)

  pub cell_lies : (a : Config) (p : CellPlace) (z : Field) → total w a.frames ≤ stack_bytes w world.notes
      → OwnLocalsAll world.notes a.frames → cell_field world.notes (memory_of world a) p ≡ Some z → CellLies a p z
  cell_lies a (FieldOf k i f) z room own g =
      let c = in_object_at world a k i f z g in
      let o = object_cell a.script.entries k i f z c in
      let below = object_within w world P h ok pl a.script.entries k c.object o.lies in
      record {
        address = object_place o;
        there = o.address_is;
        held = object_holds w world P h ok pl a.script.entries k c.object o.lies (object_place o) (cell_size w z.cell) (omega arith)
            (omega (arith, o.inside));
        bounded = omega (arith, o.inside, below);
        off_thunks = λ i t q. ⊎_elim (λ x. inl (omega (arith, x))) (λ x. inr (omega (arith, x, o.inside)))
            (off_thunk w world P h ok pl a.script.entries k i c.object t o.lies q);
        off_codes = λ j f q. ⊎_elim (λ x. inl (omega (arith, x))) (λ x. inr (omega (arith, x, o.inside)))
            (off_code w world P h ok pl a.script.entries k j c.object f o.lies q);
      }
  cell_lies a (FieldOfLocals d f) z room own g =
      let c = in_locals_at world a d f z g in
      let l = local_cell a d f z room own c in
      let s = stack_within w world P h ok pl in
      let i = image_off_stack w world P h ok pl in
      record {
        address = l.address;
        there = l.address_is;
        held = stack_holds w world P h ok pl a.script.entries l.address (cell_size w z.cell) (omega (arith, l.within.above, room))
            (omega (arith, l.within.below));
        bounded = omega (arith, l.within.below, s.below);
        off_thunks = λ j t q. let u = ok.thunks_inside j t q in
            ⊎_elim (λ x. inr (omega (arith, x, l.within.below))) (λ x. inl (omega (arith, x, l.within.above, room, u))) i;
        off_codes = λ j e q. let u = ok.code_inside j e q in ⊎_elim (λ x. inr (omega (arith, x, l.within.below)))
            (λ x. inl (omega (arith, x, l.within.above, room, u.0, u.1))) i;
      }

  -- ---- cells of different places share no byte

  apart_in : (n k i j f g : ℕ) (z o : Field) (c : InObject world n k i f z) (e : InObject world n k j g o) → (i ≡ j → f ≢ g)
      → (x : ObjectCell n k i f z c) (y : ObjectCell n k j g o e) → x.lies.base ≡ y.lies.base
      → Off w world P h ok pl (object_place x) (cell_size w z.cell) (object_place y) (cell_size w o.cell)
  apart_in n k i j f g z o c e ne x y same =
      let eq : c.object ≡ e.object = same_Some _ _ (sym c.there ∙ e.there) in
      let S = shape_of world.notes c.object.shape in
      let T = shape_of world.notes e.object.shape in
      let st : T ≡ S = ap (λ (q : TypedObject). shape_of world.notes q.shape) (sym eq) in
      let get' : slice_get S.fields g ≡ Some o = subst (λ (q : Shape). slice_get q.fields g ≡ Some o) st e.get in
      let size' : size_at w T ≡ size_at w S = ap (λ (q : Shape). size_at w q) st in
      let fit = fits_at w S h (shape_fits world n k c.object ok c.there) in
      let p = fit.inside f z c.get in
      let q = fit.inside g o get' in
      let at : y.lies.base + (j * size_at w T + start_at w o) ≡ x.lies.base + (j * size_at w S + start_at w o) =
      ap₂ (λ u v. u + (j * v + start_at w o)) (sym same) size' in
      ⊎_elim
      (λ ij. ⊎_elim
      (λ fg. absurd (ne ij fg))
      (λ d. ⊎_elim (λ m. inl (rw at (rw (← ij) (omega (arith, m))))) (λ m. inr (rw at (rw (← ij) (omega (arith, m))))) d)
      (fit.apart f g z o c.get get'))
      (λ d. ⊎_elim
      (λ l. let r = instances_apart i j (size_at w S) (start_at w z) (start_at w o) (cell_size w z.cell) (cell_size w o.cell) l p q in
      inl (omega (arith, r, at)))
      (λ l. let r = instances_apart j i (size_at w S) (start_at w o) (start_at w z) (cell_size w o.cell) (cell_size w z.cell) l q p in
      inr (omega (arith, r, at)))
      d)
      (cases_order i j)

  objects_apart : (n k m i j f g : ℕ) (z o : Field) (c : InObject world n k i f z) (e : InObject world n m j g o) → (k ≡ m → i ≡ j → f ≢ g)
      → (x : ObjectCell n k i f z c) (y : ObjectCell n m j g o e)
      → Off w world P h ok pl (object_place x) (cell_size w z.cell) (object_place y) (cell_size w o.cell)
  objects_apart n k m i j f g z o c e ne x y = ⊎_elim
      (λ same. one m e ne y same)
      (λ d. ⊎_elim (λ l. inl (omega (arith, l, x.inside))) (λ l. inr (omega (arith, l, y.inside)))
      (objects_off w world P h ok pl n k m c.object e.object x.lies y.lies d))
      (cases_eq k m)
    where
      one : (m : ℕ) (e : InObject world n m j g o) → (k ≡ m → i ≡ j → f ≢ g) → (y : ObjectCell n m j g o e) → k ≡ m
          → Off w world P h ok pl (object_place x) (cell_size w z.cell) (object_place y) (cell_size w o.cell)
      one m e ne y same =
          let b : x.lies.base ≡ y.lies.base = same_Some _ _ (sym x.lies.address ∙ ap (object_address world.notes P) same
          ∙ y.lies.address) in
          let e' : InObject world n k j g o = record {
            object = e.object;
            there = ap (slice_get (made_objects world.notes world.script n)) same ∙ e.there;
            within = e.within;
            get = e.get;
          } in
          let l' : Lies w world P n k e.object = subst (λ q. Lies w world P n q e.object) (sym same) y.lies in
          let lb : x.lies.base ≡ (object_cell n k j g o e').lies.base =
          same_Some _ _ (sym x.lies.address ∙ (object_cell n k j g o e').lies.address) in
          subst (λ q. Off w world P h ok pl (object_place x) (cell_size w z.cell)
          (q + (j * size_at w (shape_of world.notes e.object.shape) + start_at w o)) (cell_size w o.cell)) (sym lb ∙ b)
          (apart_in n k i j f g z o c e' (ne same) x (object_cell n k j g o e') lb)

  -- two places that aren't one
  differ : (p q : CellPlace) → same_cell_place p q ≡ false → (k m i j f g : ℕ) → p ≡ FieldOf k i f → q ≡ FieldOf m j g → k ≡ m → i ≡ j
      → f ≢ g
  differ p q ne k m i j f g e1 e2 a b c = true≢false (sym (and_from _ _ (eq-eqb k m a) (and_from _ _ (eq-eqb i j b) (eq-eqb f g c)))
      ∙ ap₂ same_cell_place (sym e1) (sym e2) ∙ ne)

  pub cells_off : (a : Config) (p q : CellPlace) (z o : Field) (x y : ℕ) → total w a.frames ≤ stack_bytes w world.notes
      → OwnLocalsAll world.notes a.frames → same_cell_place p q ≡ false → cell_field world.notes (memory_of world a) p ≡ Some z
      → cell_field world.notes (memory_of world a) q ≡ Some o → cell_address w world P a p z ≡ Some x
      → cell_address w world P a q o ≡ Some y → Off w world P h ok pl x (cell_size w z.cell) y (cell_size w o.cell)
  cells_off a (FieldOf k i f) (FieldOf m j g) z o x y room own ne s t u v =
      let c = in_object_at world a k i f z s in
      let e = in_object_at world a m j g o t in
      let cx = object_cell a.script.entries k i f z c in
      let cy = object_cell a.script.entries m j g o e in
      let ex : object_place cx ≡ x = same_Some _ _ (sym cx.address_is ∙ u) in
      let ey : object_place cy ≡ y = same_Some _ _ (sym cy.address_is ∙ v) in
      subst₂ (λ r q. Off w world P h ok pl r (cell_size w z.cell) q (cell_size w o.cell)) ex ey
      (objects_apart a.script.entries k m i j f g z o c e (λ a1 b1 c1. differ (FieldOf k i f)
      (FieldOf m j g) ne k m i j f g refl refl a1 b1 c1) cx cy)
  cells_off a (FieldOf k i f) (FieldOfLocals d g) z o x y room own ne s t u v =
      let c = in_object_at world a k i f z s in
      let cx = object_cell a.script.entries k i f z c in
      let ex : object_place cx ≡ x = same_Some _ _ (sym cx.address_is ∙ u) in
      let l = local_cell a d g o room own (in_locals_at world a d g o t) in
      let ey : l.address ≡ y = same_Some _ _ (sym l.address_is ∙ v) in
      ⊎_elim (λ r. inr (omega (arith, r, ex, ey, l.within.below))) (λ r. inl (omega (arith, r, ex, ey, l.within.above, cx.inside, room)))
      (off_stack w world P h ok pl a.script.entries k c.object cx.lies)
  cells_off a (FieldOfLocals d f) (FieldOf m j g) z o x y room own ne s t u v =
      let e = in_object_at world a m j g o t in
      let cy = object_cell a.script.entries m j g o e in
      let ey : object_place cy ≡ y = same_Some _ _ (sym cy.address_is ∙ v) in
      let l = local_cell a d f z room own (in_locals_at world a d f z s) in
      let ex : l.address ≡ x = same_Some _ _ (sym l.address_is ∙ u) in
      ⊎_elim (λ r. inl (omega (arith, r, ex, ey, l.within.below))) (λ r. inr (omega (arith, r, ex, ey, l.within.above, cy.inside, room)))
      (off_stack w world P h ok pl a.script.entries m e.object cy.lies)
  cells_off a (FieldOfLocals d f) (FieldOfLocals e g) z o x y room own ne s t u v =
      let c = in_locals_at world a d f z s in
      let k = in_locals_at world a e g o t in
      locals_off w End h end_small a.frames d e f g x y c.shape k.shape z o (omega (arith, room))
      (λ p q. true≢false (sym (and_from _ _ (eq-eqb d e p) (eq-eqb f g q)) ∙ ne)) c.there k.there
      (fits_at w c.shape h (locals_fit world a.frames d c.shape ok own c.there))
      (fits_at w k.shape h (locals_fit world a.frames e k.shape ok own k.there)) u v c.get k.get
