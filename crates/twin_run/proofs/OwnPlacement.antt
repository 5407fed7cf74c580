-- The placement that this project takes is valid.
use Rattle.twin_run.proofs.Common.{◌≡◌, ℕ, suc, ◌+◌, ◌*◌, ◌%◌, ◌^◌, ◌<◌, ◌≤◌, List, [], ◌∷◌, length, refl, ap, arith, inl, AllByRecursion}
use Rattle.twin_run.proofs.Common.{sum_by, Range, IsWidth, Notes, ScriptObject, placed_objects, own_placement, all_pairs}
use Rattle.std.proofs.{Common.le_refl, lemmas.List.Sums.sum_by-append}
use Rattle.ebc_width.proofs.Laws.{by_width}
use Rattle.note_types.specs.Concrete.{AreDisjoint}
use Rattle.object_memory.specs.Memory.{first_base, padded}
use Rattle.host_model.specs.Placements.{IsWithin, area_bytes, bases_from, object_bytes, placed_ranges, script_ranges, stack_bytes}
use Rattle.host_model.specs.{Objects.script_object, Scripts.room_of}
use Rattle.neutral_machine.proofs.{PlacedObjects.bytes_le, Ranges.stack_is_within_limit}
use Rattle.twin_run.specs.OwnPlacement.{OwnPlacementIsValid}
use Rattle.step_sound.proofs.Items.{EachPair, all_items}

weaker : {A : Type 0} (P Q : A → Type 0) → ((x : A) → P x → Q x) → (xs : List A) → AllByRecursion P xs → AllByRecursion Q xs
weaker P Q h [] all = tt
weaker P Q h (x ∷ xs) all = (h x all.0, weaker P Q h xs all.1)

-- ---- what objects take

abbrev used : ℕ → Notes → List ScriptObject → ℕ
used w notes [] = 0
used w notes (o ∷ os) = padded (object_bytes w notes (script_object o)) + used w notes os

used_sum : (notes : Notes) (os : List ScriptObject) → used 8 notes os ≡ sum_by (room_of notes) os
used_sum notes [] = refl
used_sum notes (o ∷ os) =
    let rest = used_sum notes os in
    let one : sum_by (room_of notes) (o ∷ os) ≡ 0 + room_of notes o + sum_by (room_of notes) os =
    sum_by-append (room_of notes) (o ∷ []) os in
    omega (arith, rest, one)

used_grows : (w : ℕ) (notes : Notes) (os : List ScriptObject) → IsWidth w → used w notes os ≤ used 8 notes os
used_grows w notes [] h = le_refl 0
used_grows w notes (o ∷ os) h =
    let rest = used_grows w notes os h in
    let one = bytes_le w notes (script_object o) h in
    omega (arith, rest, one)

-- ---- the objects of the script

module _ (w : ℕ) (notes : Notes) where
  -- a range begins at an address or past it, and has so many bytes from there on at most
  abbrev Lies : ℕ → ℕ → Range → Type 0
  Lies b n r = (b ≤ r.base) × (r.base + r.size ≤ b + n)

  as_many : (b : ℕ) (os : List ScriptObject) → length (bases_from w notes b os) ≡ length os
  unfolding bases_from
  as_many b [] = refl
  as_many b (o ∷ os) = ap suc (as_many (b + padded (object_bytes w notes (script_object o))) os)

  within_from : (b : ℕ) (os : List ScriptObject) → AllByRecursion (Lies b (used w notes os))
      (script_ranges w notes os (bases_from w notes b os))
  unfolding bases_from script_ranges
  within_from b [] = tt
  within_from b (o ∷ os) =
      let n : ℕ = object_bytes w notes (script_object o) in (
        (le_refl b, omega arith),
        weaker (Lies (b + padded n) (used w notes os)) (Lies b (padded n + used w notes os))
            (λ r l. let x = l.0 in let y = l.1 in (omega (arith, x), omega (arith, y)))
            (script_ranges w notes os (bases_from w notes (b + padded n) os)) (within_from (b + padded n) os),
      )

  -- a range that ends before them is apart from each
  before : (r : Range) (b : ℕ) (os : List ScriptObject) → r.base + r.size ≤ b
      → AllByRecursion (AreDisjoint r) (script_ranges w notes os (bases_from w notes b os))
  before r b os l = weaker (Lies b (used w notes os)) (AreDisjoint r) (λ q m. let x = m.0 in inl (omega (arith, l, x)))
      (script_ranges w notes os (bases_from w notes b os)) (within_from b os)

  apart_from : (b : ℕ) (os : List ScriptObject) → EachPair AreDisjoint (script_ranges w notes os (bases_from w notes b os))
  unfolding bases_from script_ranges
  apart_from b [] = tt
  apart_from b (o ∷ os) =
      let n : ℕ = object_bytes w notes (script_object o) in
      (before (record { base = b; size = n }) (b + padded n) os (omega arith), apart_from (b + padded n) os)

  -- ---- all that is placed, one after the other

  abbrev at : ℕ → ℕ → Range
  at b n = record { base = b; size = n }

  abbrev ranges : (a n s i : ℕ) → List ScriptObject → List Range
  ranges a n s i os = at a n ∷ at (a + padded n) s ∷ at (a + padded n + padded s) i ∷ script_ranges w notes os
      (bases_from w notes (a + padded n + padded s + padded i) os)

  all_apart : (a n s i : ℕ) (os : List ScriptObject) → EachPair AreDisjoint (ranges a n s i os)
  all_apart a n s i os =
      let b : ℕ = a + padded n + padded s + padded i in (
        (inl (omega arith), (inl (omega arith), before (at a n) b os (omega arith))),
        (
          (inl (omega arith), before (at (a + padded n) s) b os (omega arith)),
          (
            before (at (a + padded n + padded s) i) b os (omega arith),
            apart_from b os,
          ),
        ),
      )

  all_within : (a n s i : ℕ) (os : List ScriptObject) → 0 < a → a + padded n + padded s + padded i + used w notes os ≤ 2 ^ (8 * w)
      → AllByRecursion (IsWithin w) (ranges a n s i os)
  all_within a n s i os some l =
      let b : ℕ = a + padded n + padded s + padded i in (
        record { above = inl some; below = omega (arith, l) },
        (
          record { above = inl (omega (arith, some)); below = omega (arith, l) },
          (
            record { above = inl (omega (arith, some)); below = omega (arith, l) },
            weaker (Lies b (used w notes os)) (IsWithin w) (λ r m. let x = m.0 in let y = m.1 in
                record { above = inl (omega (arith, some, x)); below = omega (arith, y, l) })
                (script_ranges w notes os (bases_from w notes b os)) (within_from b os),
          ),
        ),
      )

-- ---- the placement

base_some : (w : ℕ) → IsWidth w → 0 < first_base w
base_some w h = by_width (λ v. 0 < first_base v) w h (omega arith) (omega arith)

base_even : (w : ℕ) → IsWidth w → first_base w % 2 ≡ 0
base_even w h = by_width (λ v. first_base v % 2 ≡ 0) w h refl refl

-- 14 MiB from the first base on lie within the width
room_above : (w m : ℕ) → IsWidth w → m ≤ 14 * 2 ^ 20 → first_base w + m ≤ 2 ^ (8 * w)
room_above w m h l = by_width (λ v. first_base v + m ≤ 2 ^ (8 * v)) w h (omega (arith, l)) (omega (arith, l))

pub own_placement_is_valid : OwnPlacementIsValid
unfolding own_placement placed_ranges
own_placement_is_valid w image world h well_formed size notes few =
    let os : List ScriptObject = placed_objects world.script (length world.script.call) in
    let a : ℕ = first_base w in
    let n : ℕ = area_bytes world.notes in
    let s : ℕ = stack_bytes w world.notes in
    let i : ℕ = world.image_size in
    let methods = notes.few.methods in
    let functions = notes.few.functions in
    let stack = stack_is_within_limit w world.notes h notes in
    let most = well_formed.size in
    let grown = used_grows w world.notes os h in
    let sum = used_sum world.notes os in
    let m : padded n + padded s + padded i + used w world.notes os ≤ 14 * 2 ^ 20 =
    omega (arith, methods, functions, stack, size, most, grown, sum, few) in
    let top : a + (padded n + padded s + padded i + used w world.notes os) ≤ 2 ^ (8 * w) = room_above w _ h m in
    let even = base_even w h in
    record {
      each = as_many w world.notes (a + padded n + padded s + padded i) os;
      apart = all_pairs AreDisjoint (ranges w world.notes a n s i os) (all_apart w world.notes a n s i os);
      within = all_items (IsWithin w) (ranges w world.notes a n s i os)
          (all_within w world.notes a n s i os (base_some w h) (omega (arith, top)));
      even_native = even;
      even_image = (let e : (a + padded n + padded s) % 2 ≡ 0 = omega (arith, even) in e);
    }
