-- What the host places lies as the objects of a machine's memory do, and the stack is within the limit of notes.
use Rattle.neutral_machine.proofs.Common.{◌≡◌, ℕ, zero, suc, ◌+◌, ◌*◌, ◌^◌, ◌<◌, ◌≤◌, ◌⊎◌, Bool, true, false, ◌||◌, if◌then◌else◌, nat_eq}
use Rattle.neutral_machine.proofs.Common.{List, [], ◌∷◌, length, Some, refl, sym, ap, ◌∙◌, subst, arith, inl, inr, ⊎_elim, slice_get}
use Rattle.neutral_machine.proofs.Common.{eq-eqb, eqb-true, or_cases, same_Some, none-some, Range, IsWidth, AreDisjoint, SlotKind, N, Q, D}
use Rattle.neutral_machine.proofs.Common.{FnNote, Notes, Param, ScriptObject, script_object, placed_objects, Placement, IsPlacement}
use Rattle.neutral_machine.proofs.Common.{IsWithin, all_ranges, placed_ranges, script_ranges, native_range, image_range, object_bytes}
use Rattle.neutral_machine.proofs.Common.{slot_bytes, most_bytes, stack_bytes, IsScript, World, All_at, AllPairs_at, by_width}
use Rattle.std.proofs.{Common.max, Math.Nat.le-max_left, Math.Nat.le-max_right, Math.Nat.max-le}
use Rattle.note_types.specs.Records.{CanBeEntered, frame_size}
use Rattle.host_model.specs.Placements.{stack_range, frame_bytes, params_bytes, pair_at}
use Rattle.neutral_machine.specs.RangeLaw.{LiesAsMemory, RangesLieAsMemory, StackIsWithinLimit}
use Rattle.neutral_machine.proofs.{ScriptObjects.object_takes_bytes, PlacedObjects.placed_in_all, PlacedObjects.script_ranges_at}

-- ---- the stack

-- the most bytes are no less than what a function takes that the firmware enters
pub most_above : (w entry i j : ℕ) (fs : List FnNote) (f : FnNote) → i + j ≡ entry → slice_get fs j ≡ Some f
    → frame_bytes w f ≤ most_bytes w entry i fs
unfolding most_bytes
most_above w entry i j [] f e g = absurd (none-some f g)
most_above w entry i zero (x ∷ fs) f e g =
    let same : x ≡ f = same_Some x f g in
    let here : nat_eq i entry ≡ true = eq-eqb i entry (omega (arith, e)) in
    let top : (if nat_eq i entry || x.enter then frame_bytes w x else 0) ≡ frame_bytes w f =
    ap (λ b. if b || x.enter then frame_bytes w x else 0) here ∙ ap (frame_bytes w) same in
    subst (λ z. frame_bytes w f ≤ max z (most_bytes w entry (i + 1) fs)) (sym top)
    (le-max_left (frame_bytes w f) (most_bytes w entry (i + 1) fs))
most_above w entry i (suc j) (x ∷ fs) f e g =
    let below = most_above w entry (i + 1) j fs f (omega (arith, e)) g in
    let right = le-max_right (if nat_eq i entry || x.enter then frame_bytes w x else 0) (most_bytes w entry (i + 1) fs) in
    omega (arith, below, right)

-- and no more than what all of them keep to
most_below : (w entry i b : ℕ) (fs : List FnNote)
    → ((j : ℕ) (f : FnNote) → slice_get fs j ≡ Some f → (i + j ≡ entry) ⊎ (f.enter ≡ true) → frame_bytes w f ≤ b)
    → most_bytes w entry i fs ≤ b
unfolding most_bytes
most_below w entry i b [] keeps = omega arith
most_below w entry i b (x ∷ fs) keeps =
    max-le (first (nat_eq i entry || x.enter) refl) (most_below w entry (i + 1) b fs
    (λ j f g o. keeps (suc j) f g (⊎_elim (λ e. inl (omega (arith, e))) (λ e. inr e) o)))
  where
    first : (c : Bool) → (nat_eq i entry || x.enter) ≡ c → (if c then frame_bytes w x else 0) ≤ b
    first true e = keeps 0 x refl (⊎_elim (λ y. inl (let z = eqb-true i entry y in omega (arith, z))) (λ y. inr y)
        (or_cases (nat_eq i entry) x.enter e))
    first false e = omega arith

slot_below : (w : ℕ) (k : SlotKind) → IsWidth w → slot_bytes w k ≤ 8
slot_below w N h = by_width (λ v. slot_bytes v N ≤ 8) w h (omega arith) (omega arith)
slot_below w Q h = omega arith
slot_below w D h = omega arith

params_below : (w : ℕ) (ps : List Param) → IsWidth w → params_bytes w ps ≤ 8 * length ps
params_below w [] h = omega arith
params_below w (p ∷ ps) h = let a = slot_below w p.kind h in let b = params_below w ps h in omega (arith, a, b)

-- at either width a frame takes no more than at 8 bytes an address
frame_below : (w : ℕ) (f : FnNote) → IsWidth w → frame_bytes w f ≤ frame_size f
frame_below w f h =
    let a = params_below w f.params h in
    let b : pair_at w f.need ≤ 8 * f.need.n + f.need.c = by_width (λ v. pair_at v f.need ≤ 8 * f.need.n + f.need.c) w h (omega arith)
    (omega arith) in
    omega (arith, a, b)

pub stack_is_within_limit : StackIsWithinLimit
stack_is_within_limit w notes h ok =
    let most : most_bytes w notes.entry 0 notes.function ≤ 116508 = most_below w notes.entry 0 116508 notes.function frame in
    omega (arith, most)
  where
    ninth : (f : FnNote) → CanBeEntered f → frame_bytes w f ≤ 116508
    ninth f c = let a = frame_below w f h in let b = c.stack in omega (arith, a, b)

    frame : (j : ℕ) (f : FnNote) → slice_get notes.function j ≡ Some f → (0 + j ≡ notes.entry) ⊎ (f.enter ≡ true) → frame_bytes w f ≤ 116508
    frame j f g o = ⊎_elim
        (λ e. let there : slice_get notes.function notes.entry ≡ Some f =
        subst (λ k. slice_get notes.function k ≡ Some f) (let z : j ≡ notes.entry = omega (arith, e) in z) g in
        let same : ok.entry.0 ≡ f = same_Some ok.entry.0 f (sym ok.entry.1 ∙ there) in
        ninth f (subst CanBeEntered same ok.entry.2))
        (λ e. ninth f ((ok.functions j f g).entered e))
        o

-- ---- what is placed

-- a range of an object of the script is at its base and has its size
pub record OfObject (w : ℕ) (notes : Notes) (os : List ScriptObject) (bs : List ℕ) (j : ℕ) (r : Range) : Type 0 where
  pub object : ScriptObject
  pub base : ℕ
  pub there : slice_get os j ≡ Some object
  pub at : slice_get bs j ≡ Some base
  pub is : record { base = base; size = object_bytes w notes (script_object object) } ≡ r

range_of_object : (w : ℕ) (notes : Notes) (os : List ScriptObject) (bs : List ℕ) (j : ℕ) (r : Range)
    → slice_get (script_ranges w notes os bs) j ≡ Some r → OfObject w notes os bs j r
unfolding script_ranges
range_of_object w notes [] bs j r g = absurd (none-some r g)
range_of_object w notes (o ∷ os) [] j r g = absurd (none-some r g)
range_of_object w notes (o ∷ os) (b ∷ bs) zero r g = record { object = o; base = b; there = refl; at = refl; is = same_Some _ r g }
range_of_object w notes (o ∷ os) (b ∷ bs) (suc j) r g =
    let q = range_of_object w notes os bs j r g in record { object = q.object; base = q.base; there = q.there; at = q.at; is = q.is }

module _ (w : ℕ) (world : World) (P : Placement) (h : IsWidth w) (ok : IsScript world.notes world.script) (image : 0 < world.image_size)
    (entered : world.notes.entry < length world.notes.function) (pl : IsPlacement w world P) (entries : ℕ) where
  above : (r : Range) → IsWithin w r → 0 < r.size → (1 ≤ r.base) × (r.base + r.size ≤ 2 ^ (8 * w))
  above r i some = (⊎_elim (λ l. l) (λ e. absurd (omega (arith, e, some))) i.above, i.below)

  -- a range is one of all that is ever placed, and takes bytes
  record Placed (k : ℕ) (r : Range) : Type 0 where
    ever : slice_get (all_ranges w world P) k ≡ Some r
    some : 0 < r.size

  stack_some : 0 < stack_bytes w world.notes
  stack_some = let f = within world.notes.function world.notes.entry entered in
      let m = most_above w world.notes.entry 0 world.notes.entry world.notes.function f.0 (omega arith) f.1 in
      omega (arith, m)
    where
      within : {X : Type 0} (xs : List X) (k : ℕ) → k < length xs → (x : X) × (slice_get xs k ≡ Some x)
      within [] k l = absurd (omega arith)
      within (x ∷ xs) zero l = (x, refl)
      within (x ∷ xs) (suc k) l = within xs k (omega arith)

  placed : (k : ℕ) (r : Range) → slice_get (placed_ranges w world P entries) k ≡ Some r → Placed k r
  unfolding placed_ranges
  placed zero r g = record { ever = g; some = subst (λ (q : Range). 0 < q.size) (same_Some (native_range world.notes P) r g) (omega arith) }
  placed (suc zero) r g = record {
    ever = g;
    some = subst (λ (q : Range). 0 < q.size)
        (same_Some (stack_range w world.notes P) r g) stack_some;
  }
  placed (suc (suc zero)) r g = record { ever = g; some = subst (λ (q : Range). 0 < q.size) (same_Some (image_range world P) r g) image }
  placed (suc (suc (suc j))) r g =
      let q = range_of_object w world.notes (placed_objects world.script entries) P.objects j r g in
      record {
        ever = subst (λ (x : Range). slice_get (script_ranges w world.notes
            (placed_objects world.script (length world.script.call)) P.objects) j ≡ Some x) q.is
            (script_ranges_at w world.notes _ P.objects j q.base q.object (placed_in_all world.script entries j q.object q.there) q.at);
        some = subst (λ (x : Range). 0 < x.size) q.is (object_takes_bytes w world.notes world.script h ok entries j q.object q.there);
      }

  pub lies_as_memory : LiesAsMemory w world P entries
  lies_as_memory = record {
    inside = λ k r g. let p = placed k r g in above r (All_at (IsWithin w) (all_ranges w world P) k r pl.within p.ever) p.some;
    apart = λ j k r q l a b. AllPairs_at AreDisjoint (all_ranges w world P) j k r q pl.apart (placed j r a).ever (placed k q b).ever l;
  }

pub ranges_lie_as_memory : RangesLieAsMemory
ranges_lie_as_memory w world P h ok image entered pl entries = lies_as_memory w world P h ok image entered pl entries
