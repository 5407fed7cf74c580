-- Where an address lies is found by a walk over the objects of a run's memory.
use Rattle.std.proofs.Common.{◌≡◌, ℕ, suc, ◌+◌, ◌*◌, ◌-◌, ◌<◌, ◌≤◌, Bool, true, false, cond, List, [], ◌∷◌, ◌++◌, length, take, drop}
use Rattle.std.proofs.Common.{Some, None, refl, sym, ap, ◌∙◌, subst, arith, slice_get, if◌then◌else◌}
use Rattle.std.specs.List.{find, flat_map}
use Rattle.std.specs.Option.{option_map}
use Rattle.std.proofs.lemmas.Grind.{flat_map-append}
use Rattle.std.proofs.lemmas.List.{append_assoc, take-append-drop}
use Rattle.std.proofs.lemmas.Option.{none-some, same_Some}
use Rattle.ebc_base.proofs.Lists.{take-all}
use Rattle.ebc_width.specs.Ranges.{Range, covers}
use Rattle.ebc_width.proofs.ByteLaws.{length-window}
use Rattle.ebc_width.proofs.RangeLaws.{covers-bounds, covers-inside}
use Rattle.object_memory.specs.Memory.{first_base, padded}
use Rattle.note_types.specs.Concrete.{Concrete, rest_from, rest_of}
use Rattle.note_types.specs.declared.notes.Notes.{Notes}
use Rattle.note_types.specs.declared.script.Script.{Script}
use Rattle.note_types.specs.declared.script.ScriptObject.{ScriptObject}
use Rattle.host_model.specs.Objects.{objects_of, placed_objects, script_object}
use Rattle.host_model.specs.Placements.{area_bytes, bases_from, object_bytes, own_placement, placed_ranges, script_ranges, stack_bytes}
use Rattle.host_model.specs.World.{World}
use Rattle.run_trace.specs.Addresses.{located}
use Rattle.run_trace.specs.Walks.{AreInRow, IsWalk}

-- ---- one object

-- a range has no byte below its base, and none past its end
below : (r : Range) (a : ℕ) → a < r.base → covers a 1 r ≡ false
below r a less = either (covers a 1 r) refl where
  either : (b : Bool) → covers a 1 r ≡ b → b ≡ false
  either false is = refl
  either true is = let bounds = covers-bounds r a 1 is in let least = bounds.0 in absurd (omega (arith, least, less))

pub past : (r : Range) (a : ℕ) → r.base + r.size ≤ a → covers a 1 r ≡ false
past r a most = either (covers a 1 r) refl where
  either : (b : Bool) → covers a 1 r ≡ b → b ≡ false
  either false is = refl
  either true is = let bounds = covers-bounds r a 1 is in let less = bounds.1 in absurd (omega (arith, most, less))

located-here : (k : ℕ) (r : Range) (rs : List Range) (x : ℕ) → covers x 1 r ≡ true
    → located k (r ∷ rs) x ≡ Some (record { object = k; offset = x - r.base })
unfolding located
located-here k r rs x is = ap (λ b. if b then Some (record { object = k; offset = x - r.base }) else located (suc k) rs x) is

located-later : (k : ℕ) (r : Range) (rs : List Range) (x : ℕ) → covers x 1 r ≡ false → located k (r ∷ rs) x ≡ located (suc k) rs x
unfolding located
located-later k r rs x is = ap (λ b. if b then Some (record { object = k; offset = x - r.base }) else located (suc k) rs x) is

-- ---- a walk

-- below all objects there is none
none-above : (base k : ℕ) (rs : List Range) (x : ℕ) → AreInRow base rs → x < base → located k rs x ≡ None
unfolding located
none-above base k [] x row less = refl
none-above base k (r ∷ rs) x (at, (some, row)) less =
    located-later k r rs x (below r x (omega (arith, at, less)))
    ∙ none-above (base + padded r.size) (suc k) rs x row (omega (arith, less))

pub walk-above : (objects : List Range) (x base k : ℕ) → IsWalk objects x base k → x < base → None ≡ located 0 objects x
walk-above objects x base k walk less = sym (walk.found ∙ none-above base k walk.coming x walk.row less)

-- at the first base all are still to be looked at
pub walk-starts : (base : ℕ) (objects : List Range) (x : ℕ) → AreInRow base objects → IsWalk objects x base 0
walk-starts base objects x row = record { few = omega arith; coming = objects; row = row; found = refl; holder = λ a least. refl }

-- what lies at the base is the first of those that are still to be looked at
pub at-base : (s : Concrete) (base : ℕ) (coming : List Range) → find (covers base 1) s.objects ≡ find (covers base 1) coming
    → rest_from s base ≡ option_map (rest_of s.byte base) (find (covers base 1) coming)
unfolding rest_from
at-base s base coming same = ap (option_map (rest_of s.byte base)) same

pub first-is : (s : Concrete) (base : ℕ) (r : Range) (rs : List Range) → AreInRow base (r ∷ rs)
    → option_map (rest_of s.byte base) (find (covers base 1) (r ∷ rs)) ≡ Some (rest_of s.byte base r)
first-is s base r rs (at, (some, row)) =
    ap (λ b. option_map (rest_of s.byte base) (cond b (Some r) (find (covers base 1) rs)))
    (covers-inside r base 1 (omega (arith, at)) (omega (arith, at, some)))

-- it has as many bytes as lie there
pub size-is : (s : Concrete) (base : ℕ) (bytes : List ℕ) (r : Range) (rs : List Range) → AreInRow base (r ∷ rs)
    → option_map (rest_of s.byte base) (find (covers base 1) (r ∷ rs)) ≡ Some bytes → length bytes ≡ r.size
size-is s base bytes r rs (at, (some, row)) found =
    let same = ap length (same_Some _ bytes (sym (first-is s base r rs (at, (some, row))) ∙ found)) in
    let long = length-window s.byte base (r.base + r.size - base) in
    omega (arith, at, long, same)

module _ (s : Concrete) (objects : List Range) (same : s.objects ≡ objects) (x base k : ℕ) where
  there : (walk : IsWalk objects x base k) → find (covers base 1) s.objects ≡ find (covers base 1) walk.coming
  there walk = ap (find (covers base 1)) same ∙ walk.holder base (omega arith)

  -- where nothing lies the walk is over
  pub walk-over : IsWalk objects x base k → rest_from s base ≡ None → None ≡ located 0 objects x
  unfolding located
  walk-over walk none =
      over walk.coming walk.row walk.found (sym (at-base s base walk.coming (there walk)) ∙ none)
    where
      over : (coming : List Range) → AreInRow base coming → located 0 objects x ≡ located k coming x
          → option_map (rest_of s.byte base) (find (covers base 1) coming) ≡ None → None ≡ located 0 objects x
      over [] row is none = sym is
      over (r ∷ rs) row is none = absurd (none-some _ (sym none ∙ first-is s base r rs row))

  -- an object with the byte at x is found
  pub walk-finds : (bytes : List ℕ) → IsWalk objects x base k → rest_from s base ≡ Some bytes → base ≤ x → x - base < length bytes
      → Some (record { object = k; offset = x - base }) ≡ located 0 objects x
  walk-finds bytes walk found least less =
      finds walk.coming walk.row walk.found (sym (at-base s base walk.coming (there walk)) ∙ found)
    where
      finds : (coming : List Range) → AreInRow base coming → located 0 objects x ≡ located k coming x
          → option_map (rest_of s.byte base) (find (covers base 1) coming) ≡ Some bytes
          → Some (record { object = k; offset = x - base }) ≡ located 0 objects x
      finds [] row is found = absurd (none-some bytes found)
      finds (r ∷ rs) (at, (some, row)) is found =
          let size = size-is s base bytes r rs (at, (some, row)) found in
          let has : covers x 1 r ≡ true = covers-inside r x 1 (omega (arith, at, least)) (omega (arith, at, size, least, less)) in
          sym (is ∙ (located-here k r rs x has ∙ ap (λ b. Some (record { object = k; offset = x - b })) at))

  -- past an object without it the walk goes on
  pub walk-on : (bytes : List ℕ) → IsWalk objects x base k → rest_from s base ≡ Some bytes → base ≤ x → length bytes ≤ x - base
      → IsWalk objects x (base + padded (length bytes)) (k + 1)
  walk-on bytes walk found least more =
      on walk.coming walk.few walk.row walk.found walk.holder (sym (at-base s base walk.coming (there walk)) ∙ found)
    where
      on : (coming : List Range) → 16 * k ≤ base → AreInRow base coming → located 0 objects x ≡ located k coming x
          → ((a : ℕ) → base ≤ a → find (covers a 1) objects ≡ find (covers a 1) coming)
          → option_map (rest_of s.byte base) (find (covers base 1) coming) ≡ Some bytes
          → IsWalk objects x (base + padded (length bytes)) (k + 1)
      on [] few row is holder found = absurd (none-some bytes found)
      on (r ∷ rs) few (at, (some, row)) is holder found =
          let size = size-is s base bytes r rs (at, (some, row)) found in
          let far : r.base + r.size ≤ x = omega (arith, at, size, least, more) in
          let next : suc k ≡ k + 1 = omega arith in
          record {
            few = omega (arith, few);
            coming = rs;
            row = subst (λ n. AreInRow (base + padded n) rs) (sym size) row;
            found = is ∙ (located-later k r rs x (past r x far) ∙ ap (λ j. located j rs x) next);
            holder = λ a above. holder a (omega (arith, above))
                ∙ ap (λ b. cond b (Some r) (find (covers a 1) rs)) (past r a (omega (arith, at, size, above)));
          }

-- ---- the objects of a run lie in a row

-- the first objects of a script, where all of them get bases from an address on
objects-in-row : (w : ℕ) (notes : Notes) (base : ℕ) (os rest : List ScriptObject)
    → ((j : ℕ) (o : ScriptObject) → slice_get os j ≡ Some o → 0 < object_bytes w notes (script_object o))
    → AreInRow base (script_ranges w notes os (bases_from w notes base (os ++ rest)))
unfolding script_ranges bases_from
objects-in-row w notes base [] rest some = tt
objects-in-row w notes base (o ∷ os) rest some = (
  refl,
  (
    some 0 o refl,
    objects-in-row w notes (base + padded (object_bytes w notes (script_object o))) os rest
        (λ j p there. some (suc j) p there),
  ),
)

-- those that are there after some calls come before the others
all-placed : (script : Script) (n : ℕ) → placed_objects script n ++ flat_map objects_of (drop n script.call)
    ≡ placed_objects script (length script.call)
unfolding placed_objects
all-placed script n =
    append_assoc script.object (flat_map objects_of (take n script.call)) (flat_map objects_of (drop n script.call))
    ∙ ap (λ os. script.object ++ os) (sym (flat_map-append objects_of (take n script.call) (drop n script.call))
    ∙ ap (flat_map objects_of) (take-append-drop n script.call ∙ sym (take-all script.call)))

pub placed-in-row : (w : ℕ) (world : World) (n : ℕ) → 0 < stack_bytes w world.notes → 0 < world.image_size
    → ((j : ℕ) (o : ScriptObject) → slice_get (placed_objects world.script n) j ≡ Some o → 0 < object_bytes w world.notes (script_object o))
    → AreInRow (first_base w) (placed_ranges w world (own_placement w world) n)
unfolding placed_ranges own_placement
placed-in-row w world n stack image some =
    let base : ℕ = first_base w + padded (area_bytes world.notes) + padded (stack_bytes w world.notes) + padded world.image_size in
    let os : List ScriptObject = placed_objects world.script n in
    let rest : List ScriptObject = flat_map objects_of (drop n world.script.call) in (
      refl,
      (
        omega arith,
        (
          refl,
          (
            stack,
            (
              refl,
              (
                image,
                subst
                    (λ all. AreInRow base (script_ranges w world.notes os (bases_from w world.notes base all))) (all-placed world.script n)
                    (objects-in-row w world.notes base os rest some),
              ),
            ),
          ),
        ),
      ),
    )
