-- Every address of a thing lies below the greatest address of a width.
use Rattle.neutral_machine.proofs.Common.{◌≡◌, ℕ, ◌+◌, ◌*◌, ◌^◌, ◌<◌, ◌≤◌, ◌⊎◌, Bool, true, false, if◌then◌else◌, nat_eq, nat_lt, List, []}
use Rattle.neutral_machine.proofs.Common.{◌∷◌, length, Option, Some, None, refl, sym, ◌∙◌, subst, arith, inl, inr, slice_get, ltb-true}
use Rattle.neutral_machine.proofs.Common.{same_Some, none-some, IsWidth, Field, Shape, StackItem, Pushed, LocalsOf, Frame, Function, Host}
use Rattle.neutral_machine.proofs.Common.{depth, locals_among, locals_at, World, TypedObject, made_objects, object_bytes, there, method_at}
use Rattle.neutral_machine.proofs.Common.{thunk_at, handle_at, handle_count, Placement, IsPlacement, IsWithin, area_bytes, stack_bytes}
use Rattle.neutral_machine.proofs.Common.{stack_end, placed_ranges, return_cell, addresses, total, local_among, local_address, extent_if}
use Rattle.neutral_machine.proofs.Common.{OwnLocalsAll, WorldFits, All_at, some_of_map}
use Rattle.neutral_machine.proofs.Placed.{lies, object_within, image_within, stack_within}
use Rattle.neutral_machine.proofs.{Agree.local_within, Agree.cell_positive, Locals.fits_at, Locals.locals_fit, Cells.end_small}
use Rattle.neutral_machine.proofs.{Values.Bounded, Values.ObjectsBelow}

-- an address of a local is that of a field of locals that are there
pub record LocalFrom (fs : List Frame) (d f : ℕ) : Type 0 where
  pub shape : Shape
  pub there : locals_at fs d ≡ Some shape
  pub field : Field
  pub get : slice_get shape.fields f ≡ Some field

among_from : (w end under : ℕ) (is : List StackItem) (f p : ℕ) → local_among w end under is f ≡ Some p → (s : Shape)
    × (locals_among is ≡ Some s) × ((z : Field) × (slice_get s.fields f ≡ Some z))
among_from w end under [] f p h = absurd (none-some p h)
among_from w end under (Pushed kind v ∷ is) f p h = among_from w end under is f p h
among_from w end under (LocalsOf s ∷ is) f p h =
    let r = some_of_map _ (slice_get s.fields f) p h in (s, refl, (r.0, r.1))

pub local_from : (w end : ℕ) (fs : List Frame) (d f p : ℕ) → local_address w end fs d f ≡ Some p → LocalFrom fs d f
local_from w end [] d f p h = absurd (none-some p h)
local_from w end (Host g ∷ fs) d f p h = let r = local_from w end fs d f p h in
    record { shape = r.shape; there = r.there; field = r.field; get = r.get }
local_from w end (Function g ∷ fs) d f p h = go (nat_eq d (depth fs)) refl h (λ h. local_from w end fs d f p h)
  where
    go : (t : Bool) → nat_eq d (depth fs) ≡ t → (if t then local_among w end (return_cell + total w fs) g.items f
        else local_address w end fs d f) ≡ Some p → (local_address w end fs d f ≡ Some p → LocalFrom fs d f)
        → LocalFrom (Function g ∷ fs) d f
    go true e h next = let r = among_from w end (return_cell + total w fs) g.items f p h in
        record { shape = r.0; there = rw e r.1; field = r.2.0; get = r.2.1 }
    go false e h next = let r = next h in record { shape = r.shape; there = rw e r.there; field = r.field; get = r.get }

module _ (w : ℕ) (world : World) (P : Placement) (h : IsWidth w) (ok : WorldFits world) (pl : IsPlacement w world P) where
  native_within : IsWithin w (record { base = P.native; size = area_bytes world.notes })
  unfolding placed_ranges
  native_within = All_at (IsWithin w) (placed_ranges w world P (length world.script.call)) 0 _ pl.within refl

  native_below : (count i x p : ℕ) → (i < count → (P.native < x) × (x + 16 ≤ P.native + area_bytes world.notes)) → there count i x ≡ Some p
      → (P.native < p) × (p + 16 ≤ P.native + area_bytes world.notes)
  native_below count i x p l e = go (nat_lt i count) refl e
    where
      go : (t : Bool) → nat_lt i count ≡ t → (if t then Some x else None) ≡ Some p → (P.native < p)
          × (p + 16 ≤ P.native + area_bytes world.notes)
      go true t q = let k = l (ltb-true _ _ t) in let r = same_Some x p q in (omega (arith, r, k.0), omega (arith, r, k.1))
      go false t q = absurd (none-some p q)

  -- the addresses of methods, thunks and handles lie past the gate, in the native area
  pub in_native : (fs : List Frame) (p : ℕ) → ((k : ℕ) × ((addresses w world.notes P fs).handle k ≡ Some p))
      ⊎ ((k : ℕ) × ((addresses w world.notes P fs).method k ≡ Some p)) ⊎ ((k : ℕ) × ((addresses w world.notes P fs).entry k ≡ Some p))
      → (P.native < p) × (p + 16 ≤ P.native + area_bytes world.notes)
  in_native fs p (inl x) = native_below handle_count x.0 (handle_at world.notes P x.0) p (λ l. (omega (arith, l), omega (arith, l))) x.1
  in_native fs p (inr (inl x)) = native_below (length world.notes.methods) x.0 (method_at P x.0) p
      (λ l. (omega (arith, l), omega (arith, l))) x.1
  in_native fs p (inr (inr x)) = native_below (length world.notes.function) x.0 (thunk_at world.notes P x.0) p
      (λ l. (omega (arith, l), omega (arith, l))) x.1

  pub bounded : (fs : List Frame) → total w fs ≤ stack_bytes w world.notes → OwnLocalsAll world.notes fs
      → Bounded w (addresses w world.notes P fs)
  bounded fs room own = record {
    thunk = λ i p e. let t = some_of_map _ (slice_get world.notes.thunk i) p e in let u = ok.thunks_inside i t.0 t.1 in
        let v = image_within w world P h ok pl in omega (arith, t.2, u, v.below);
    local = λ d f p e.
        let c = local_from w (stack_end w world.notes P) fs d f p e in
        let l = local_within w (stack_end w world.notes P) h (end_small w world P h ok pl) fs d c.shape f p c.field
        (omega (arith, room)) e c.there (fits_at w c.shape h (locals_fit world fs d c.shape ok own c.there)) c.get in
        let s = stack_within w world P h ok pl in
        let q = cell_positive w c.field.cell h in
        omega (arith, l.below, s.below, q);
    handle = λ k p e. let r = in_native fs p (inl (k, e)) in omega (arith, r.1, native_within.below);
    method = λ k p e. let r = in_native fs p (inr (inl (k, e))) in omega (arith, r.1, native_within.below);
    entry = λ k p e. let r = in_native fs p (inr (inr (k, e))) in omega (arith, r.1, native_within.below);
  }

  pub objects_below : (n : ℕ) (fs : List Frame) → ObjectsBelow world.notes (made_objects world.notes world.script n)
      (addresses w world.notes P fs) w
  objects_below n fs k p e four some = go (slice_get (made_objects world.notes world.script n) k) refl some
    where
      go : (o : Option TypedObject) → slice_get (made_objects world.notes world.script n) k ≡ o → 0 < extent_if world.notes o
          → p + extent_if world.notes o ≤ 2 ^ 32
      go None g s = absurd (omega (arith, s))
      go (Some o) g s =
          let l = lies w world P h ok pl n k o g in
          let same : l.base ≡ p = same_Some _ _ (sym l.address ∙ e) in
          let b = object_within w world P h ok pl n k o l in
          let b4 : l.base + object_bytes 4 world.notes o ≤ 2 ^ 32 =
          subst (λ v. l.base + object_bytes v world.notes o ≤ 2 ^ (8 * v)) four b in
          omega (arith, b4, same)
