-- Where typed objects lie under a valid placement: a static one in the image, one of the script's by itself, and each apart
-- from all others.
use Rattle.neutral_machine.proofs.Common.{◌≡◌, ◌≢◌, ℕ, zero, suc, ◌+◌, ◌-◌, ◌*◌, ◌^◌, ◌<◌, ◌≤◌, ◌⊎◌, List, [], ◌∷◌, length, map, Some, refl}
use Rattle.neutral_machine.proofs.Common.{sym, ap, ap₂, ◌∙◌, subst, subst₂, arith, inl, inr, ⊎_elim, slice_get, le_refl, mul-le-mul}
use Rattle.neutral_machine.proofs.Common.{option_map_or, lt-ltb, le-ltb, cases_lt, cases_order, same_Some, none-some, IsWidth, by_width}
use Rattle.neutral_machine.proofs.Common.{AreDisjoint, Notes, Static, Script, ScriptObject, ScriptCall, World, TypedObject, static_object}
use Rattle.neutral_machine.proofs.Common.{script_object, placed_objects, made_objects, shape_of, Placement, IsPlacement, IsWithin}
use Rattle.neutral_machine.proofs.Common.{all_ranges, placed_ranges, script_ranges, image_range, object_at, object_address, object_bytes}
use Rattle.neutral_machine.proofs.Common.{slice_get-append_left, slice_get-append_right, All_at, AllPairs_at, some_of_map, AreApart}
use Rattle.std.proofs.Common.{flat_map}
use Rattle.std.proofs.lemmas.Option.{slice_get-map, slice_get_within, get_or_from_slice_get}
use Rattle.ebc_base.proofs.Lists.{flat_map-taken, within_some, take-all, length-map}

-- ---- the objects that a script brings

-- what is brought by some time is brought in all
pub placed_in_all : (script : Script) (n j : ℕ) (o : ScriptObject) → slice_get (placed_objects script n) j ≡ Some o
    → slice_get (placed_objects script (length script.call)) j ≡ Some o
unfolding placed_objects
placed_in_all script n j o h = ⊎_elim
    (λ l. slice_get-append_left script.object _ j l ∙ sym (slice_get-append_left script.object _ j l) ∙ h)
    (λ l. slice_get-append_right script.object _ j l
    ∙ subst (λ cs. slice_get (flat_map (λ (c : ScriptCall). c.make) cs) (j - length script.object) ≡ Some o) (sym (take-all script.call))
    (flat_map-taken (λ (c : ScriptCall). c.make) n script.call (j - length script.object) o
    (sym (slice_get-append_right script.object _ j l) ∙ h)))
    (cases_lt j (length script.object))

pub script_ranges_at : (w : ℕ) (notes : Notes) (os : List ScriptObject) (bs : List ℕ) (j b : ℕ) (o : ScriptObject) → slice_get os j ≡ Some o
    → slice_get bs j ≡ Some b → slice_get (script_ranges w notes os bs) j ≡ Some
    (record { base = b; size = object_bytes w notes (script_object o) })
unfolding script_ranges
script_ranges_at w notes [] bs j b o h g = absurd (none-some o h)
script_ranges_at w notes (p ∷ os) [] j b o h g = absurd (none-some b g)
script_ranges_at w notes (p ∷ os) (c ∷ bs) zero b o h g = ap₂ (λ c (p : ScriptObject). Some
    (record { base = c; size = object_bytes w notes (script_object p) })) (same_Some c b g) (same_Some p o h)
script_ranges_at w notes (p ∷ os) (c ∷ bs) (suc j) b o h g = script_ranges_at w notes os bs j b o h g

-- ---- where an object lies

-- a static, in the image
pub record OfStatic (world : World) (P : Placement) (k base : ℕ) (o : TypedObject) : Type 0 where
  pub static : Static
  pub there : slice_get world.notes.statics k ≡ Some static
  pub is : static_object static ≡ o
  pub base_is : base ≡ P.image + static.place

-- what an object takes at a width, and at width 8
pub bytes_le : (w : ℕ) (notes : Notes) (o : TypedObject) → IsWidth w → object_bytes w notes o ≤ object_bytes 8 notes o
bytes_le w notes o h = by_width (λ v. object_bytes v notes o ≤ object_bytes 8 notes o) w h
    (mul-le-mul (le_refl o.count) (let e : (shape_of notes o.shape).n * 4 + (shape_of notes o.shape).c ≤
    (shape_of notes o.shape).n * 8 + (shape_of notes o.shape).c = omega arith in e)) (le_refl _)

-- a static lies in the image
pub static_in : (w : ℕ) (world : World) (P : Placement) (k base : ℕ) (o : TypedObject) → IsWidth w
    → ((s : Static) → slice_get world.notes.statics k ≡ Some s
    → s.place + object_bytes 8 world.notes (static_object s) ≤ world.image_size)
    → OfStatic world P k base o → (P.image ≤ base) × (base + object_bytes w world.notes o ≤ P.image + world.image_size)
static_in w world P k base o h within s =
    let inside : s.static.place + object_bytes 8 world.notes o ≤ world.image_size =
    subst (λ (p : TypedObject). s.static.place + object_bytes 8 world.notes p ≤ world.image_size) s.is (within s.static s.there) in
    let least : object_bytes w world.notes o ≤ object_bytes 8 world.notes o = bytes_le w world.notes o h in
    (omega (arith, s.base_is), omega (arith, s.base_is, inside, least))

-- an object that the script brings, by itself
pub record OfScript (w : ℕ) (world : World) (P : Placement) (n k base : ℕ) (o : TypedObject) : Type 0 where
  pub later : length world.notes.statics ≤ k
  pub now : slice_get (placed_ranges w world P n) (suc (suc (suc (k - length world.notes.statics)))) ≡ Some
      (record { base = base; size = object_bytes w world.notes o })
  pub ever : slice_get (placed_ranges w world P (length world.script.call)) (suc (suc (suc (k - length world.notes.statics)))) ≡ Some
      (record { base = base; size = object_bytes w world.notes o })

-- a typed object is somewhere
pub record Lies (w : ℕ) (world : World) (P : Placement) (n k : ℕ) (o : TypedObject) : Type 0 where
  pub base : ℕ
  pub address : object_address world.notes P k ≡ Some base
  pub kind : OfStatic world P k base o ⊎ OfScript w world P n k base o

-- static objects lie in the image, each apart from the others
pub record StaticsFit (world : World) : Type 0 where
  pub inside : (k : ℕ) (s : Static) → slice_get world.notes.statics k ≡ Some s
      → s.place + object_bytes 8 world.notes (static_object s) ≤ world.image_size
  pub apart : (j k : ℕ) (s t : Static) → slice_get world.notes.statics j ≡ Some s → slice_get world.notes.statics k ≡ Some t → j ≢ k
      → AreApart s.place (object_bytes 8 world.notes (static_object s)) t.place (object_bytes 8 world.notes (static_object t))

module _ (w : ℕ) (world : World) (P : Placement) (h : IsWidth w) (fit : StaticsFit world) (pl : IsPlacement w world P) where
  abbrev S : ℕ
  S = length world.notes.statics

  -- the addresses of static objects and of the script's objects
  pub static_address : (k : ℕ) (s : Static) → slice_get world.notes.statics k ≡ Some s
      → object_address world.notes P k ≡ Some (P.image + s.place)
  unfolding object_at
  static_address k s g =
      let l = slice_get_within world.notes.statics k s g in
      rw (lt-ltb k (S + length P.objects) (omega (arith, l))) (rw (lt-ltb k S l)
      (ap (λ z. Some (P.image + option_map_or (λ (s : Static). s.place) z 0)) g))

  pub script_address : (k b : ℕ) → S ≤ k → slice_get P.objects (k - S) ≡ Some b → object_address world.notes P k ≡ Some b
  unfolding object_at
  script_address k b l g =
      let m = slice_get_within P.objects (k - S) b g in
      rw (lt-ltb k (S + length P.objects) (omega (arith, l, m)))
      (rw (le-ltb k S l) (ap Some (get_or_from_slice_get P.objects (k - S) b _ g)))

  lies_static : (n k : ℕ) (o : TypedObject) → k < S → slice_get (map static_object world.notes.statics) k ≡ Some o → Lies w world P n k o
  lies_static n k o l g =
      let s = some_of_map static_object (slice_get world.notes.statics k) o (sym (slice_get-map static_object world.notes.statics k) ∙ g) in
      record {
        base = P.image + s.0.place;
        address = static_address k s.0 s.1;
        kind = inl (record { static = s.0; there = s.1; is = s.2; base_is = refl });
      }

  lies_script : (n k : ℕ) (o : TypedObject) → S ≤ k → slice_get (map script_object (placed_objects world.script n)) (k - S) ≡ Some o
      → Lies w world P n k o
  unfolding placed_ranges
  lies_script n k o l g =
      let s = some_of_map script_object (slice_get (placed_objects world.script n) (k - S)) o
      (sym (slice_get-map script_object (placed_objects world.script n) (k - S)) ∙ g) in
      let all = placed_in_all world.script n (k - S) s.0 s.1 in
      let few : k - S < length P.objects = subst (λ z. k - S < z) (sym pl.each) (slice_get_within _ (k - S) s.0 all) in
      let b = within_some P.objects (k - S) few in
      record {
        base = b.0;
        address = script_address k b.0 l b.1;
        kind = inr (record {
          later = l;
          now = subst (λ (p : TypedObject). slice_get (script_ranges w world.notes (placed_objects world.script n) P.objects) (k - S) ≡ Some
              (record { base = b.0; size = object_bytes w world.notes p })) s.2
              (script_ranges_at w world.notes (placed_objects world.script n) P.objects (k - S) b.0 s.0 s.1 b.1);
          ever = subst (λ (p : TypedObject). slice_get (script_ranges w world.notes
              (placed_objects world.script (length world.script.call)) P.objects) (k - S) ≡ Some
              (record { base = b.0; size = object_bytes w world.notes p })) s.2
              (script_ranges_at w world.notes _ P.objects (k - S) b.0 s.0 all b.1);
        });
      }

  pub lies : (n k : ℕ) (o : TypedObject) → slice_get (made_objects world.notes world.script n) k ≡ Some o → Lies w world P n k o
  unfolding made_objects
  lies n k o g =
      let e = length-map static_object world.notes.statics in
      ⊎_elim
      (λ l. lies_static n k o l (sym (slice_get-append_left (map static_object world.notes.statics) _ k (subst (λ z. k < z) (sym e) l))
      ∙ g))
      (λ l. lies_script n k o l (subst (λ z. slice_get (map script_object (placed_objects world.script n)) (k - z) ≡ Some o) e
      (sym (slice_get-append_right (map static_object world.notes.statics) _ k (subst (λ z. z ≤ k) (sym e) l)) ∙ g)))
      (cases_lt k S)

  -- ---- the ranges of all that a run may have

  pub image_at : slice_get (all_ranges w world P) 2 ≡ Some (image_range world P)
  unfolding placed_ranges
  image_at = refl

  pub image_within : IsWithin w (image_range world P)
  image_within = All_at (IsWithin w) (all_ranges w world P) 2 _ pl.within image_at

  -- an object of the script doesn't meet the image
  pub off_image : (n k base : ℕ) (o : TypedObject) → OfScript w world P n k base o
      → AreApart P.image world.image_size base (object_bytes w world.notes o)
  off_image n k base o s = AllPairs_at AreDisjoint (all_ranges w world P) 2 (suc (suc (suc (k - S)))) _ _ pl.apart image_at s.ever
      (omega arith)

  -- ---- an object within the width

  pub object_below : (n k : ℕ) (o : TypedObject) (l : Lies w world P n k o) → l.base + object_bytes w world.notes o ≤ 2 ^ (8 * w)
  object_below n k o l = ⊎_elim
      (λ s. let i = static_in w world P k l.base o h (fit.inside k) s in
      let b = image_within.below in omega (arith, i.1, b))
      (λ s. (All_at (IsWithin w) (all_ranges w world P) (suc (suc (suc (k - S)))) _ pl.within s.ever).below)
      l.kind

  positive : {base size : ℕ} → (0 < base) ⊎ (size ≡ 0) → 0 < size → 0 < base
  positive a some = ⊎_elim (λ l. l) (λ e. absurd (omega (arith, e, some))) a

  -- one that takes bytes doesn't lie at address 0
  pub object_above : (n k : ℕ) (o : TypedObject) (l : Lies w world P n k o) → 0 < object_bytes w world.notes o → 0 < l.base
  object_above n k o l some = ⊎_elim
      (λ s. let i = static_in w world P k l.base o h (fit.inside k) s in by_image i.0 i.1)
      (λ s. positive (All_at (IsWithin w) (all_ranges w world P) (suc (suc (suc (k - S)))) _ pl.within s.ever).above some)
      l.kind
    where
      by_image : P.image ≤ l.base → l.base + object_bytes w world.notes o ≤ P.image + world.image_size → 0 < l.base
      by_image from to = ⊎_elim (λ b. omega (arith, b, from)) (λ e. omega (arith, e, from, to, some)) image_within.above

  -- ---- two objects are apart

  pub objects_off : (n k m : ℕ) (o p : TypedObject) (l : Lies w world P n k o) (r : Lies w world P n m p) → k ≢ m
      → AreApart l.base (object_bytes w world.notes o) r.base (object_bytes w world.notes p)
  objects_off n k m o p l r ne = ⊎_elim
      (λ s. ⊎_elim
      (λ t. statics s t)
      (λ t. let i = static_in w world P k l.base o h (fit.inside k) s in
      ⊎_elim (λ x. inl (omega (arith, x, i.1))) (λ x. inr (omega (arith, x, i.0)))
      (off_image n m r.base p t))
      r.kind)
      (λ s. ⊎_elim
      (λ t. let i = static_in w world P m r.base p h (fit.inside m) t in
      ⊎_elim (λ x. inr (omega (arith, x, i.1))) (λ x. inl (omega (arith, x, i.0)))
      (off_image n k l.base o s))
      (λ t. ⊎_elim
      (λ e. absurd (ne e))
      (λ d. ⊎_elim
      (λ x. AllPairs_at AreDisjoint (all_ranges w world P) (suc (suc (suc (k - S)))) (suc (suc (suc (m - S)))) _ _ pl.apart s.ever t.ever
      (omega (arith, x, s.later, t.later)))
      (λ x. ⊎_elim inr inl (AllPairs_at AreDisjoint (all_ranges w world P) (suc (suc (suc (m - S))))
      (suc (suc (suc (k - S)))) _ _ pl.apart t.ever s.ever (omega (arith, x, s.later, t.later))))
      d)
      (cases_order k m))
      r.kind)
      l.kind
    where
      statics : OfStatic world P k l.base o → OfStatic world P m r.base p
          → AreApart l.base (object_bytes w world.notes o) r.base (object_bytes w world.notes p)
      statics s t =
          let d = fit.apart k m s.static t.static s.there t.there ne in
          let d2 : AreApart s.static.place (object_bytes 8 world.notes o) t.static.place (object_bytes 8 world.notes p) =
          subst₂ (λ (x y : TypedObject). AreApart s.static.place (object_bytes 8 world.notes x) t.static.place
          (object_bytes 8 world.notes y)) s.is t.is d in
          ⊎_elim (λ x. inl (omega (arith, x, bytes_le w world.notes o h, s.base_is, t.base_is)))
          (λ x. inr (omega (arith, x, bytes_le w world.notes p h, s.base_is, t.base_is))) d2
