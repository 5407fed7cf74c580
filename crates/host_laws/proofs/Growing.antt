-- Objects that a native call makes: the list of objects and their places grow at the end, and the new bytes are zero.
use Rattle.host_laws.proofs.Common.{◌≡◌, ℕ, zero, suc, ◌+◌, ◌-◌, ◌<◌, ◌≤◌, ◌⊎◌, Bool, true, false, if◌then◌else◌, nat_lt, List, [], ◌∷◌}
use Rattle.host_laws.proofs.Common.{◌++◌, map, take, length, Some, None, refl, sym, ap, ap₂, ◌∙◌, arith, ⊎_elim, slice_get, slice_index}
use Rattle.host_laws.proofs.Common.{le-ltb, option_map, append-nil, slice_get-get_or, same_Some, none-some, slice_get-map, IsWidth, Range}
use Rattle.host_laws.proofs.Common.{covers, covers-inside, Concrete, with_objects, TypedObject, script_object, static_object, made_objects}
use Rattle.host_laws.proofs.Common.{placed_objects, Placement, object_at, object_bytes, IsPlacement, area_bytes, stack_bytes, placed_ranges}
use Rattle.host_laws.proofs.Common.{Notes, ScriptCall, ScriptObject, World, WorldFits, slice_get-append_right, length-map, lies}
use Rattle.std.proofs.Common.{flat_map}
use Rattle.std.proofs.lemmas.{Bool.ltb-true, List.append_assoc, List.map-append, List.length-append}
use Rattle.ebc_width.proofs.RangeLaws.{covers-bounds}
use Rattle.host_model.specs.{HostSteps.with_object, Placements.there, Placements.static_place, Placements.script_ranges}
use Rattle.ebc_base.proofs.Lists.{within_some}

-- ---- lists

-- one list more
taken_more : {X Y : Type 0} (f : X → List Y) (n : ℕ) (xs : List X) (x : X) → slice_get xs n ≡ Some x
    → flat_map f (take (suc n) xs) ≡ flat_map f (take n xs) ++ f x
taken_more f n [] x e = absurd (none-some x e)
taken_more f zero (y ∷ ys) x e = append-nil (f y) ∙ ap f (same_Some y x e)
taken_more f (suc n) (y ∷ ys) x e = ap (λ z. f y ++ z) (taken_more f n ys x e) ∙ sym (append_assoc (f y) (flat_map f (take n ys)) (f x))

-- the objects that are made once one more call is accepted
brought_more : (world : World) (n : ℕ) (c : ScriptCall) → slice_get world.script.call n ≡ Some c
    → placed_objects world.script (n + 1) ≡ placed_objects world.script n ++ c.make
unfolding placed_objects
brought_more world n c e =
    ap (λ m. world.script.object ++ flat_map (λ (q : ScriptCall). q.make) (take m world.script.call))
    (let z : n + 1 ≡ suc n = omega arith in z)
    ∙ ap (λ z. world.script.object ++ z) (taken_more (λ (q : ScriptCall). q.make) n world.script.call c e)
    ∙ sym (append_assoc world.script.object (flat_map (λ (q : ScriptCall). q.make) (take n world.script.call)) c.make)

pub made_more : (world : World) (n : ℕ) (c : ScriptCall) → slice_get world.script.call n ≡ Some c
    → made_objects world.notes world.script (n + 1) ≡ made_objects world.notes world.script n ++ map script_object c.make
unfolding made_objects
made_more world n c e =
    ap (λ z. map static_object world.notes.statics ++ map script_object z) (brought_more world n c e)
    ∙ ap (λ z. map static_object world.notes.statics ++ z) (map-append script_object (placed_objects world.script n) c.make)
    ∙ sym (append_assoc (map static_object world.notes.statics) (map script_object (placed_objects world.script n))
    (map script_object c.make))

-- ---- places

-- where objects lie that are numbered from k on
unfoldable pub ranges_of : ℕ → Notes → Placement → ℕ → List TypedObject → List Range
ranges_of w notes P k [] = []
ranges_of w notes P k (o ∷ os) = record { base = object_at notes P k; size = object_bytes w notes o } ∷ ranges_of w notes P (suc k) os

ranges_append : (w : ℕ) (notes : Notes) (P : Placement) (k : ℕ) (os qs : List TypedObject)
    → ranges_of w notes P k (os ++ qs) ≡ ranges_of w notes P k os ++ ranges_of w notes P (k + length os) qs
unfolding ranges_of
ranges_append w notes P k [] qs = ap (λ m. ranges_of w notes P m qs) (let z : k ≡ k + 0 = omega arith in z)
ranges_append w notes P k (o ∷ os) qs =
    ap (λ z. record { base = object_at notes P k; size = object_bytes w notes o } ∷ z)
    (ranges_append w notes P (suc k) os qs ∙ ap (λ m. ranges_of w notes P (suc k) os ++ ranges_of w notes P m qs)
    (let z : suc k + length os ≡ k + suc (length os) = omega arith in z))

-- the bases are those of the placement
brought_are : (w : ℕ) (notes : Notes) (P : Placement) (k : ℕ) (os : List ScriptObject) (bs : List ℕ)
    → ((i : ℕ) → i < length os → (b : ℕ) × (slice_get bs i ≡ Some b) × (object_at notes P (k + i) ≡ b))
    → script_ranges w notes os bs ≡ ranges_of w notes P k (map script_object os)
unfolding script_ranges ranges_of
brought_are w notes P k [] bs h = refl
brought_are w notes P k (o ∷ os) [] h = let q = h 0 (omega arith) in absurd (none-some q.0 q.1)
brought_are w notes P k (o ∷ os) (b ∷ bs) h =
    let q = h 0 (omega arith) in
    let at : b ≡ object_at notes P k = same_Some b q.0 q.1 ∙ sym q.2 ∙ ap (object_at notes P) (let z : k + 0 ≡ k = omega arith in z) in
    ap₂ (λ y z. record { base = y; size = object_bytes w notes (script_object o) } ∷ z) at
    (brought_are w notes P (suc k) os bs (λ i l. let r = h (suc i) (omega (arith, l)) in
    (r.0, r.1, ap (object_at notes P) (let z : suc k + i ≡ k + suc i = omega arith in z) ∙ r.2)))

-- a thing with an address is one of so many
there_below : (count i address x : ℕ) → there count i address ≡ Some x → i < count
there_below count i address x e = go (nat_lt i count) refl e
  where
    go : (b : Bool) → nat_lt i count ≡ b → (if b then Some address else None) ≡ Some x → i < count
    go true l e = ltb-true i count l
    go false l e = absurd (none-some x e)

module _ (w : ℕ) (world : World) (P : Placement) (mapped : ℕ → ℕ) (h : IsWidth w) (ok : WorldFits world) (pl : IsPlacement w world P) where
  abbrev S : ℕ
  S = length world.notes.statics

  -- each object that the script brings has a base
  base_there : (n i : ℕ) → i < length (placed_objects world.script n) → (b : ℕ) × (slice_get P.objects i ≡ Some b)
      × (object_at world.notes P (S + i) ≡ b)
  unfolding made_objects object_at
  base_there n i l =
      let o = within_some (placed_objects world.script n) i l in
      let e = length-map static_object world.notes.statics in
      let there : slice_get (made_objects world.notes world.script n) (S + i) ≡ Some (script_object o.0) =
      slice_get-append_right (map static_object world.notes.statics) (map script_object (placed_objects world.script n)) (S + i)
      (omega (arith, e))
      ∙ ap (slice_get (map script_object (placed_objects world.script n))) (omega (arith, e))
      ∙ slice_get-map script_object (placed_objects world.script n) i ∙ ap (option_map script_object) o.1 in
      let at = lies w world P h ok pl n (S + i) (script_object o.0) there in
      let few = there_below (S + length P.objects) (S + i) (object_at world.notes P (S + i)) at.base at.address in
      let not : nat_lt (S + i) S ≡ false = le-ltb (S + i) S (omega arith) in
      let d : S + i - S ≡ i = omega arith in (
        slice_index P.objects i,
        slice_get-get_or P.objects i 0 (omega (arith, few)),
        ap (λ b. if b then P.image + static_place world.notes (S + i) else slice_index P.objects (S + i - S)) not
            ∙ ap (slice_index P.objects) d,
      )

  -- all that is placed
  pub placed_are : (n : ℕ) → script_ranges w world.notes (placed_objects world.script n) P.objects ≡ ranges_of w world.notes P S
      (map script_object (placed_objects world.script n))
  placed_are n = brought_are w world.notes P S (placed_objects world.script n) P.objects (base_there n)

  pub ranges_more : (n : ℕ) (c : ScriptCall) → slice_get world.script.call n ≡ Some c
      → placed_ranges w world P (n + 1) ≡ placed_ranges w world P n
      ++ ranges_of w world.notes P (length (made_objects world.notes world.script n)) (map script_object c.make)
  unfolding placed_ranges made_objects
  ranges_more n c e =
      let os = map script_object (placed_objects world.script n) in
      let count : S + length os ≡ length (map static_object world.notes.statics ++ os) =
      sym (length-append (map static_object world.notes.statics) os
      ∙ ap (λ y. y + length os) (length-map static_object world.notes.statics)) in
      let tail : script_ranges w world.notes (placed_objects world.script (n + 1)) P.objects ≡ script_ranges w world.notes
      (placed_objects world.script n) P.objects ++ ranges_of w world.notes P (length (map static_object world.notes.statics ++ os))
      (map script_object c.make) =
      placed_are (n + 1) ∙ ap (λ y. ranges_of w world.notes P S (map script_object y)) (brought_more world n c e)
      ∙ ap (ranges_of w world.notes P S) (map-append script_object (placed_objects world.script n) c.make)
      ∙ ranges_append w world.notes P S os (map script_object c.make)
      ∙ ap (λ y. ranges_of w world.notes P S os ++ ranges_of w world.notes P y (map script_object c.make)) count
      ∙ ap (λ y. y ++ ranges_of w world.notes P (length (map static_object world.notes.statics ++ os)) (map script_object c.make))
      (sym (placed_are n)) in
      ap (λ y. record { base = P.native; size = area_bytes world.notes } ∷ record {
        base = P.stack;
        size = stack_bytes w world.notes;
      } ∷ record { base = P.image; size = world.image_size } ∷ y) tail

-- ---- bytes

-- bytes with those of an object zero
unfoldable pub zeroed : (ℕ → ℕ) → Range → ℕ → ℕ
zeroed b r x = if covers x 1 r then 0 else b x

unfoldable pub all_zeroed : (ℕ → ℕ) → List Range → ℕ → ℕ
all_zeroed b [] = b
all_zeroed b (r ∷ rs) = all_zeroed (zeroed b r) rs

zero_stays : (rs : List Range) (b : ℕ → ℕ) (x : ℕ) → b x ≡ 0 → all_zeroed b rs x ≡ 0
unfolding all_zeroed zeroed
zero_stays [] b x e = e
zero_stays (r ∷ rs) b x e = zero_stays rs (zeroed b r) x (go (covers x 1 r))
  where
    go : (t : Bool) → (if t then 0 else b x) ≡ 0
    go true = refl
    go false = e

-- a byte outside them all stays
pub others_stay : (rs : List Range) (b : ℕ → ℕ) (x : ℕ) → ((i : ℕ) (r : Range) → slice_get rs i ≡ Some r → (x < r.base)
    ⊎ (r.base + r.size ≤ x)) → all_zeroed b rs x ≡ b x
unfolding all_zeroed zeroed
others_stay [] b x f = refl
others_stay (r ∷ rs) b x f = others_stay rs (zeroed b r) x (λ i q e. f (suc i) q e) ∙ go (covers x 1 r) refl
  where
    go : (t : Bool) → covers x 1 r ≡ t → (if t then 0 else b x) ≡ b x
    go true e = let p = covers-bounds r x 1 e in let l = p.0 in let m = p.1 in
        absurd (⊎_elim (λ q. omega (arith, q, l)) (λ q. omega (arith, q, m)) (f 0 r refl))
    go false e = refl

-- a byte inside one of them is zero
pub inside_zero : (rs : List Range) (b : ℕ → ℕ) (x i : ℕ) (r : Range) → slice_get rs i ≡ Some r → r.base ≤ x → x < r.base + r.size
    → all_zeroed b rs x ≡ 0
unfolding all_zeroed zeroed
inside_zero [] b x i r e l m = absurd (none-some r e)
inside_zero (q ∷ rs) b x zero r e l m =
    let same = same_Some q r e in
    zero_stays rs (zeroed b q) x (ap (λ (y : Range). zeroed b y x) same
    ∙ ap (λ t. if t then 0 else b x) (covers-inside r x 1 l (omega (arith, m))))
inside_zero (q ∷ rs) b x (suc i) r e l m = inside_zero rs (zeroed b q) x i r e l m

pub zeroed_small : (rs : List Range) (b : ℕ → ℕ) → ((x : ℕ) → b x < 256) → (x : ℕ) → all_zeroed b rs x < 256
unfolding all_zeroed zeroed
zeroed_small [] b f x = f x
zeroed_small (r ∷ rs) b f x = zeroed_small rs (zeroed b r) (λ y. go y (covers y 1 r)) x
  where
    go : (y : ℕ) (t : Bool) → (if t then 0 else b y) < 256
    go y true = omega arith
    go y false = f y

-- what placing objects leaves
pub objects_placed : (w : ℕ) (notes : Notes) (P : Placement) (k : ℕ) (os : List TypedObject) (s : Concrete)
    → with_objects w notes P k os s ≡ record s {
      objects = s.objects
          ++ ranges_of w notes P k os;
      byte = all_zeroed s.byte (ranges_of w notes P k os);
    }
unfolding with_objects with_object ranges_of all_zeroed zeroed
objects_placed w notes P k [] s = ap (λ os. record s { objects = os }) (sym (append-nil s.objects))
objects_placed w notes P k (o ∷ os) s =
    let r : Range = record { base = object_at notes P k; size = object_bytes w notes o } in
    objects_placed w notes P (suc k) os (with_object s r)
    ∙ ap (λ y. record s { objects = y; byte = all_zeroed (zeroed s.byte r) (ranges_of w notes P (suc k) os) })
    (append_assoc s.objects (r ∷ []) (ranges_of w notes P (suc k) os))
