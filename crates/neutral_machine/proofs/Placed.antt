-- Where typed objects lie: each made one inside a placed object, apart from the stack, from thunk cells and from code.
use Rattle.neutral_machine.proofs.Common.{◌≡◌, ◌≢◌, ℕ, suc, ◌+◌, ◌-◌, ◌*◌, ◌^◌, ◌<◌, ◌≤◌, ◌⊎◌, true, List, length, Some, refl, subst, arith}
use Rattle.neutral_machine.proofs.Common.{inl, inr, ⊎_elim, slice_get, mul-le-mul, slice_get-get_or, covers-inside, FitsAt, size_at}
use Rattle.neutral_machine.proofs.Common.{IsWidth, by_width, Range, holds, FnNote, Thunk, Static, World, TypedObject, no_shape}
use Rattle.neutral_machine.proofs.Common.{static_object, made_objects, shape_of, object_bytes, Placement, IsWithin, IsPlacement, area_bytes}
use Rattle.neutral_machine.proofs.Common.{stack_bytes, placed_ranges, object_address, AreDisjoint, WorldFits, All_at, AllPairs_at, AreApart}
use Rattle.ebc_width.proofs.RangeLaws.{holds-at}
use Rattle.neutral_machine.proofs.PlacedObjects.{Lies, StaticsFit, bytes_le, static_in}
use Rattle.neutral_machine.proofs.PlacedObjects as objects

mul-positive : (a b : ℕ) → 1 ≤ a → 1 ≤ b → 0 < a * b
mul-positive a b l m = let e : 1 * 1 ≤ a * b = mul-le-mul l m in omega (arith, e)

module _ (w : ℕ) (world : World) (P : Placement) (h : IsWidth w) (ok : WorldFits world) (pl : IsPlacement w world P) where
  abbrev S : ℕ
  S = length world.notes.statics

  fit : StaticsFit world
  fit = record { inside = ok.statics_inside; apart = ok.statics_apart }

  pub static_address : (k : ℕ) (s : Static) → slice_get world.notes.statics k ≡ Some s
      → object_address world.notes P k ≡ Some (P.image + s.place)
  static_address k s g = objects.static_address w world P h fit pl k s g

  pub lies : (n k : ℕ) (o : TypedObject) → slice_get (made_objects world.notes world.script n) k ≡ Some o → Lies w world P n k o
  lies n k o g = objects.lies w world P h fit pl n k o g

  -- ---- the ranges of all that a run may have

  abbrev All_ranges : List Range
  All_ranges = placed_ranges w world P (length world.script.call)

  stack_at : slice_get All_ranges 1 ≡ Some (record { base = P.stack; size = stack_bytes w world.notes })
  unfolding placed_ranges
  stack_at = refl

  image_at : slice_get All_ranges 2 ≡ Some (record { base = P.image; size = world.image_size })
  image_at = objects.image_at w world P h fit pl

  pub image_off_stack : (P.stack + stack_bytes w world.notes ≤ P.image) ⊎ (P.image + world.image_size ≤ P.stack)
  image_off_stack = AllPairs_at AreDisjoint All_ranges 1 2 _ _ pl.apart stack_at image_at (omega arith)

  pub image_within : IsWithin w (record { base = P.image; size = world.image_size })
  image_within = objects.image_within w world P h fit pl

  pub stack_within : IsWithin w (record { base = P.stack; size = stack_bytes w world.notes })
  stack_within = All_at (IsWithin w) All_ranges 1 _ pl.within stack_at

  -- ---- objects are off the rest

  -- two ranges share no byte, by their numbers
  abbrev pub Off : ℕ → ℕ → ℕ → ℕ → Type 0
  Off a n b m = (a + n ≤ b) ⊎ (b + m ≤ a)

  pub off_stack : (n k : ℕ) (o : TypedObject) (l : Lies w world P n k o)
      → Off P.stack (stack_bytes w world.notes) l.base (object_bytes w world.notes o)
  off_stack n k o l = ⊎_elim
      (λ s. let i = static_in w world P k l.base o h (ok.statics_inside k) s in
      ⊎_elim (λ x. inl (omega (arith, x, i.0))) (λ x. inr (omega (arith, x, i.1))) image_off_stack)
      (λ s. AllPairs_at AreDisjoint All_ranges 1 (suc (suc (suc (k - S)))) _ _ pl.apart stack_at s.ever (omega arith))
      l.kind

  pub object_within : (n k : ℕ) (o : TypedObject) (l : Lies w world P n k o) → l.base + object_bytes w world.notes o ≤ 2 ^ (8 * w)
  object_within n k o l = objects.object_below w world P h fit pl n k o l

  -- two objects are off each other
  pub objects_off : (n k m : ℕ) (o p : TypedObject) (l : Lies w world P n k o) (r : Lies w world P n m p) → k ≢ m
      → Off l.base (object_bytes w world.notes o) r.base (object_bytes w world.notes p)
  objects_off n k m o p l r ne = objects.objects_off w world P h fit pl n k m o p l r ne

  -- an object is off a range of the image that statics don't meet
  off_places : (n k q z : ℕ) (o : TypedObject) (l : Lies w world P n k o) → q + z ≤ world.image_size
      → ((s : Static) → slice_get world.notes.statics k ≡ Some s → static_object s ≡ o
      → AreApart s.place (object_bytes 8 world.notes o) q z) → Off (P.image + q) z l.base (object_bytes w world.notes o)
  off_places n k q z o l inside f = ⊎_elim
      (λ s. ⊎_elim (λ x. inr (omega (arith, x, bytes_le w world.notes o h, s.base_is)))
      (λ x. inl (omega (arith, x, s.base_is))) (f s.static s.there s.is))
      (λ s. ⊎_elim (λ x. inl (omega (arith, x, inside))) (λ x. inr (omega (arith, x, inside)))
      (objects.off_image w world P h fit pl n k l.base o s))
      l.kind

  pub off_thunk : (n k i : ℕ) (o : TypedObject) (t : Thunk) (l : Lies w world P n k o) → slice_get world.notes.thunk i ≡ Some t
      → Off (P.image + t.place) 8 l.base (object_bytes w world.notes o)
  off_thunk n k i o t l g = off_places n k t.place 8 o l (ok.thunks_inside i t g)
      (λ s u e. subst (λ (x : TypedObject). AreApart s.place (object_bytes 8 world.notes x) t.place 8) e (ok.statics_thunks k i s t u g))

  pub off_code : (n k j : ℕ) (o : TypedObject) (f : FnNote) (l : Lies w world P n k o) → slice_get world.notes.function j ≡ Some f
      → Off (P.image + f.place) (f.end - f.place) l.base (object_bytes w world.notes o)
  off_code n k j o f l g =
      let c = ok.code_inside j f g in
      off_places n k f.place (f.end - f.place) o l (omega (arith, c.0, c.1))
      (λ s u e. ⊎_elim (λ x. inr (omega (arith, x, c.0))) (λ x. inl
      (subst (λ (y : TypedObject). s.place + object_bytes 8 world.notes y ≤ f.place) e x)) (ok.code_statics j k f s g u))

  -- ---- what objects hold

  covered : (rs : List Range) (i a k : ℕ) (r : Range) → slice_get rs i ≡ Some r → r.base ≤ a → a + k ≤ r.base + r.size → holds rs a k ≡ true
  covered rs i a k r g x y = holds-at rs a k i r g (covers-inside r a k x y)

  pub stack_holds : (n a k : ℕ) → P.stack ≤ a → a + k ≤ P.stack + stack_bytes w world.notes → holds (placed_ranges w world P n) a k ≡ true
  unfolding placed_ranges
  stack_holds n a k x y = covered (placed_ranges w world P n) 1 a k (record { base = P.stack; size = stack_bytes w world.notes }) refl x y

  pub image_holds : (n a k : ℕ) → P.image ≤ a → a + k ≤ P.image + world.image_size → holds (placed_ranges w world P n) a k ≡ true
  unfolding placed_ranges
  image_holds n a k x y = covered (placed_ranges w world P n) 2 a k (record { base = P.image; size = world.image_size }) refl x y

  pub object_holds : (n k : ℕ) (o : TypedObject) (l : Lies w world P n k o) (a m : ℕ) → l.base ≤ a
      → a + m ≤ l.base + object_bytes w world.notes o → holds (placed_ranges w world P n) a m ≡ true
  object_holds n k o l a m x y = ⊎_elim
      (λ s. let i = static_in w world P k l.base o h (ok.statics_inside k) s in
      image_holds n a m (omega (arith, i.0, x)) (omega (arith, i.1, y)))
      (λ s. covered (placed_ranges w world P n) (suc (suc (suc (k - S)))) a m _ s.now x y)
      l.kind

  -- an object has bytes, and so doesn't begin at 0
  object_some : (n k : ℕ) (o : TypedObject) → slice_get (made_objects world.notes world.script n) k ≡ Some o
      → 0 < object_bytes w world.notes o
  object_some n k o g =
      let c = ok.objects n k o g in
      let f = ok.shapes o.shape _ (slice_get-get_or world.notes.shape o.shape no_shape c.0) in
      let p : 0 < size_at w (shape_of world.notes o.shape) = (by_width
      (λ v. FitsAt v (shape_of world.notes o.shape)) w h f.at4 f.at8).positive in
      mul-positive o.count (size_at w (shape_of world.notes o.shape)) c.1 (omega (arith, p))

  pub object_positive : (n k : ℕ) (o : TypedObject) (l : Lies w world P n k o)
      → slice_get (made_objects world.notes world.script n) k ≡ Some o → 0 < l.base
  object_positive n k o l g = objects.object_above w world P h fit pl n k o l (object_some n k o g)

  native_at_first : slice_get All_ranges 0 ≡ Some (record { base = P.native; size = area_bytes world.notes })
  unfolding placed_ranges
  native_at_first = refl

  -- the gate isn't in the image
  pub native_off_image : (P.native + area_bytes world.notes ≤ P.image) ⊎ (P.image + world.image_size ≤ P.native)
  native_off_image = AllPairs_at AreDisjoint All_ranges 0 2 _ _ pl.apart native_at_first image_at (omega arith)
