-- A valid placement gives the things that values name their addresses, and typed objects lie apart.
use Rattle.neutral_machine.proofs.Common.{◌≡◌, ℕ, ◌+◌, ◌<◌, Bool, true, false, if◌then◌else◌, nat_lt, List, length, Some, None, refl, sym}
use Rattle.neutral_machine.proofs.Common.{ap, arith, inl, inr, ⊎_elim, slice_get, ltb-true, lt-ltb, mul-pos, same_Some, none-some, IsWidth}
use Rattle.neutral_machine.proofs.Common.{Frame, addresses, Named, TypedObject, made_objects, Placement, IsPlacement, IsWithin, all_ranges}
use Rattle.neutral_machine.proofs.Common.{placed_ranges, native_range, handle_count, handle_at, method_at, thunk_at, there, object_at}
use Rattle.neutral_machine.proofs.Common.{object_bytes, World, All_at}
use Rattle.neutral_machine.specs.Named.{HasInstances, HasObjects, ThingsAreNamed}
use Rattle.neutral_machine.proofs.PlacedObjects.{Lies, StaticsFit, lies, object_above, object_below, objects_off}
use Rattle.neutral_machine.proofs.Locals.{fits_at}

-- one of so many things
there_some : (count i at x : ℕ) → there count i at ≡ Some x → (i < count) × (x ≡ at)
there_some count i at x e = go (nat_lt i count) refl e
  where
    go : (b : Bool) → nat_lt i count ≡ b → (if b then Some at else None) ≡ Some x → (i < count) × (x ≡ at)
    go true l e = (ltb-true i count l, sym (same_Some at x e))
    go false l e = absurd (none-some x e)

pub some_there : (count i at : ℕ) → i < count → there count i at ≡ Some at
some_there count i at l = ap (λ b. if b then Some at else None) (lt-ltb i count l)

module _ (w : ℕ) (world : World) (P : Placement) (h : IsWidth w) (ok : HasObjects world) (pl : IsPlacement w world P) (entries : ℕ) where
  fit : StaticsFit world
  fit = record { inside = ok.inside; apart = ok.apart }

  -- it is one of all objects, and where it lies
  lies_at : (k : ℕ) (o : TypedObject) (l : Lies w world P entries k o)
      → (k < length world.notes.statics + length P.objects) × (l.base ≡ object_at world.notes P k)
  lies_at k o l = there_some (length world.notes.statics + length P.objects) k (object_at world.notes P k) l.base l.address

  native_within : IsWithin w (native_range world.notes P)
  unfolding placed_ranges
  native_within = All_at (IsWithin w) (all_ranges w world P) 0 _ pl.within refl

  native_above : 0 < P.native
  native_above = ⊎_elim (λ l. l) (λ e. absurd (omega (arith, e))) native_within.above

  instances : (k : ℕ) (o : TypedObject) → slice_get (made_objects world.notes world.script entries) k ≡ Some o
      → HasInstances w world.notes o
  instances k o g = record { some = ok.counted entries k o g; wide = (fits_at w _ h (ok.shaped entries k o g)).positive }

  pub takes_bytes : (k : ℕ) (o : TypedObject) → slice_get (made_objects world.notes world.script entries) k ≡ Some o
      → 0 < object_bytes w world.notes o
  takes_bytes k o g = let i = instances k o g in mul-pos i.some i.wide

  pub things_named : (fs : List Frame) → Named w world.notes P (made_objects world.notes world.script entries)
      (addresses w world.notes P fs)
  things_named fs = record {
    width = h;
    native = native_above;
    area = native_within.below;
    handle = λ k x e. there_some handle_count k (handle_at world.notes P k) x e;
    method = λ k x e. there_some (length world.notes.methods) k (method_at P k) x e;
    entry = λ k x e. there_some (length world.notes.function) k (thunk_at world.notes P k) x e;
    handles = λ k l. some_there handle_count k (handle_at world.notes P k) l;
    methods = λ k l. some_there (length world.notes.methods) k (method_at P k) l;
    entries = λ k l. some_there (length world.notes.function) k (thunk_at world.notes P k) l;
    objects = λ k o g. let l = lies w world P h fit pl entries k o g in some_there _ k _ (lies_at k o l).0;
    sized = instances;
    within = λ k o g.
        let l = lies w world P h fit pl entries k o g in
        let e = (lies_at k o l).1 in
        let p = object_above w world P h fit pl entries k o l (takes_bytes k o g) in
        let q = object_below w world P h fit pl entries k o l in
        (omega (arith, e, p), omega (arith, e, q));
    apart = λ j k o q a b ne.
        let l = lies w world P h fit pl entries j o a in
        let m = lies w world P h fit pl entries k q b in
        let e = (lies_at j o l).1 in
        let f = (lies_at k q m).1 in
        ⊎_elim (λ x. inl (omega (arith, x, e, f))) (λ x. inr (omega (arith, x, e, f)))
        (objects_off w world P h fit pl entries j k o q l m ne);
  }

pub things_are_named : ThingsAreNamed
things_are_named w world P h ok pl entries fs = things_named w world P h ok pl entries fs
