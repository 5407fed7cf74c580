-- Laws of the objects of a script that a host places: they come next, one after the other, and lie at their bases.
use Rattle.native_host.proofs.Common.{◌≡◌, ℕ, zero, suc, ◌+◌, ◌*◌, ◌-◌, ◌^◌, ◌<◌, ◌≤◌, List, [], ◌∷◌, ◌++◌, length, map, Some, slice_get}
use Rattle.native_host.proofs.Common.{slice_index, refl, sym, ap, ap₂, ◌∙◌, subst, arith, if◌then◌else◌, ⊎_elim, nat_lt, false, flat_map}
use Rattle.native_host.proofs.Common.{sum_by, append-nil, append_assoc, length-append, sum_by-cons, mul-le, none-some, same_Some, Range}
use Rattle.native_host.proofs.Common.{IsWidth, by_width, Memory, Object, first_base, next_base, padded, placed, range_of, ranges, used}
use Rattle.native_host.proofs.Common.{Concrete, size_at, Notes, Script, ScriptObject, filling, after_stores, with_object, with_objects}
use Rattle.native_host.proofs.Common.{made_objects, objects_of, placed_objects, script_object, shape_of, static_object, TypedObject}
use Rattle.native_host.proofs.Common.{Placement, all_ranges, area_bytes, bases_from, image_range, native_range, object_at, object_bytes}
use Rattle.native_host.proofs.Common.{object_range, own_placement, placed_ranges, script_ranges, stack_bytes, stack_range, IsScript}
use Rattle.native_host.proofs.Common.{all_made, bare_machine, start_machine, World, with_memory, AreComing, room_in, rooms_in, used-placed}
use Rattle.std.proofs.lemmas.Bool.{le-ltb}
use Rattle.ebc_base.proofs.Lists.{length-map, slice_get-append_right}
use Rattle.host_model.specs.{Placements.static_place, Scripts.IsObjectOf}
use Rattle.native_host.proofs.StartLaws.{all_count, all_placed, all_sum, ranges-count, ranges_sum, room_same, rooms_append, rooms_small}
use Rattle.native_host.proofs.{PlacedLaws.limits_placed, PlacedLaws.next_placed, PlacedLaws.objects_placed, StartLaws.sizes}

-- an object past the static ones lies at its base
object-past : (notes : Notes) (P : Placement) (j : ℕ) → object_at notes P (length notes.statics + j) ≡ slice_index P.objects j
unfolding object_at
object-past notes P j =
    let n : ℕ = length notes.statics in
    let no : nat_lt (n + j) n ≡ false = le-ltb (n + j) n (omega arith) in
    let left : n + j - n ≡ j = omega arith in
    ap (λ b. if b then P.image + static_place notes (n + j) else slice_index P.objects (n + j - n)) no ∙ ap (slice_index P.objects) left

-- an object of a script that was read has bytes
pub bytes_some : (w : ℕ) (notes : Notes) (made : List TypedObject) (n : ℕ) (o : ScriptObject) → IsWidth w → IsObjectOf notes made n o
    → 1 ≤ object_bytes w notes (script_object o)
bytes_some w notes made n o h is =
    by_width (λ v. 1 ≤ o.count * size_at v (shape_of notes o.shape)) w h
    (mul-le 1 1 o.count (size_at 4 (shape_of notes o.shape)) is.count.0 is.shape.at4.positive)
    (mul-le 1 1 o.count (size_at 8 (shape_of notes o.shape)) is.count.0 is.shape.at8.positive)

module _ (w : ℕ) (notes : Notes) (P : Placement) where
  -- the bases from number j on are these
  abbrev AreFrom : ℕ → List ℕ → Type 0
  AreFrom j bs = (i : ℕ) → slice_index P.objects (j + i) ≡ slice_index bs i

  from-next : (j b : ℕ) (bs : List ℕ) → AreFrom j (b ∷ bs) → AreFrom (j + 1) bs
  from-next j b bs from i = ap (slice_index P.objects) (let e : j + 1 + i ≡ j + suc i = omega arith in e) ∙ from (suc i)

  -- objects whose bases come next can be placed, one after the other
  pub are_coming : (os more : List ScriptObject) (j : ℕ) (m : Memory) → AreFrom j (bases_from w notes (next_base w m) (os ++ more))
      → used m + rooms_in (sizes w notes) os ≤ m.byte_limit → length m.objects + length os ≤ m.object_limit
      → ((k : ℕ) (o : ScriptObject) → slice_get os k ≡ Some o → 1 ≤ object_bytes w notes (script_object o))
      → rooms_in (sizes w notes) os < 2 ^ 32 → AreComing w notes P (length notes.statics + j) m os
  unfolding bases_from rooms_in
  are_coming [] more j m from bytes count some small = tt
  are_coming (o ∷ os) more j m from bytes count some small =
      let n : ℕ = object_bytes w notes (script_object o) in
      let room = room_same w notes o in
      let none : length notes.statics + (j + 1) ≡ length notes.statics + j + 1 = omega arith in
      let after = next_placed w m n in
      let took = used-placed w m n in
      let grew = objects_placed w m n in
      let limits = limits_placed w m n in
      let l = limits.0 in
      let k = limits.1 in
      let at : slice_index P.objects j ≡ next_base w m = ap (slice_index P.objects) (let e : j ≡ j + 0 = omega arith in e) ∙ from 0 in
      let rest : AreFrom (j + 1) (bases_from w notes (next_base w (placed w m n)) (os ++ more)) =
      subst (λ b. AreFrom (j + 1) (bases_from w notes b (os ++ more))) (sym after)
      (from-next j (next_base w m) (bases_from w notes (next_base w m + padded n) (os ++ more)) from) in (
        record {
          some = some 0 o refl;
          below = omega (arith, room, small);
          room = ⊎_elim (λ over. omega (arith, over, room, bytes)) (λ over. omega (arith, over, count));
          base = sym at ∙ sym (object-past notes P j);
        },
        subst (λ x. AreComing w notes P x (placed w m n) os) none
            (are_coming os more (j + 1) (placed w m n) rest (omega (arith, took, room, bytes, l)) (omega (arith, grew, count, k))
            (λ i x g. some (suc i) x g) (omega (arith, small))),
      )

  -- once they are placed they lie there
  pub lie_there : (os : List ScriptObject) (bs : List ℕ) (j : ℕ) (s : Concrete) → AreFrom j bs → length os ≤ length bs
      → (with_objects w notes P (length notes.statics + j) (map script_object os) s).objects ≡ s.objects ++ script_ranges w notes os bs
  unfolding with_objects with_object script_ranges
  lie_there [] bs j s from few = sym (append-nil s.objects)
  lie_there (o ∷ os) [] j s from few = absurd (omega (arith, few))
  lie_there (o ∷ os) (b ∷ bs) j s from few =
      let n : ℕ = length notes.statics in
      let r : Range = record { base = b; size = object_bytes w notes (script_object o) } in
      let at : slice_index P.objects j ≡ b = ap (slice_index P.objects) (let e : j ≡ j + 0 = omega arith in e) ∙ from 0 in
      let range : object_range w notes P (n + j) (script_object o) ≡ r =
      ap (λ x. record { base = x; size = object_bytes w notes (script_object o) }) (object-past notes P j ∙ at) in
      let next : suc (n + j) ≡ n + (j + 1) = omega arith in
      let t : Concrete = with_object s (object_range w notes P (n + j) (script_object o)) in
      ap (λ x. (with_objects w notes P x (map script_object os) t).objects) next
      ∙ (lie_there os bs (j + 1) t (from-next j b bs from) (omega (arith, few))
      ∙ (ap (λ q. (s.objects ++ q ∷ []) ++ script_ranges w notes os bs) range ∙ append_assoc s.objects (r ∷ [])
      (script_ranges w notes os bs)))

-- ---- the typed objects that are made

pub made_at_start : (notes : Notes) (script : Script)
    → map static_object notes.statics ++ map script_object script.object ≡ made_objects notes script 0
unfolding made_objects placed_objects
made_at_start notes script =
    ap (λ os. map static_object notes.statics ++ map script_object os) (sym (append-nil script.object))

get-map : (os : List ScriptObject) (k : ℕ) (o : ScriptObject) → slice_get os k ≡ Some o
    → slice_get (map script_object os) k ≡ Some (script_object o)
get-map [] k o g = absurd (none-some o g)
get-map (x ∷ os) zero o g = ap (λ z. Some (script_object z)) (same_Some x o g)
get-map (x ∷ os) (suc k) o g = get-map os k o g

-- those that were made last stand past those before
pub made_last : (made : List TypedObject) (os : List ScriptObject) (k : ℕ) (o : ScriptObject) → slice_get os k ≡ Some o
    → slice_get (made ++ map script_object os) (length made + k) ≡ Some (script_object o)
made_last made os k o g =
    slice_get-append_right made (map script_object os) (length made + k) (omega arith)
    ∙ (ap (slice_get (map script_object os)) (let e : length made + k - length made ≡ k = omega arith in e) ∙ get-map os k o g)

-- ---- the placement that this project takes

pub own_native : (w : ℕ) (world : World) (P : Placement) → P ≡ own_placement w world → P.native ≡ first_base w
unfolding own_placement
own_native w world P e = ap (λ (Q : Placement). Q.native) e

pub own_stack : (w : ℕ) (world : World) (P : Placement) → P ≡ own_placement w world → P.stack ≡ P.native + padded (area_bytes world.notes)
unfolding own_placement
own_stack w world P e =
    ap (λ (Q : Placement). Q.stack) e ∙ ap (λ n. n + padded (area_bytes world.notes)) (sym (own_native w world P e))

pub own_image : (w : ℕ) (world : World) (P : Placement) → P ≡ own_placement w world
    → P.image ≡ P.stack + padded (stack_bytes w world.notes)
unfolding own_placement
own_image w world P e =
    ap (λ (Q : Placement). Q.image) e
    ∙ ap (λ n. n + padded (stack_bytes w world.notes)) (sym (ap (λ (Q : Placement). Q.stack) e))

own-objects : (w : ℕ) (world : World) (P : Placement) → P ≡ own_placement w world → P.objects ≡ bases_from w world.notes
    (first_base w + padded (area_bytes world.notes) + padded (stack_bytes w world.notes) + padded world.image_size)
    (placed_objects world.script (length world.script.call))
unfolding own_placement
own-objects w world P e = ap (λ (Q : Placement). Q.objects) e

bases-count : (w : ℕ) (notes : Notes) (b : ℕ) (os : List ScriptObject) → length (bases_from w notes b os) ≡ length os
unfolding bases_from
bases-count w notes b [] = refl
bases-count w notes b (o ∷ os) = ap suc (bases-count w notes (b + padded (object_bytes w notes (script_object o))) os)

abbrev size_of : Range → ℕ
size_of r = padded r.size

used-ranges : (os : List Object) → sum_by (λ (o : Object). padded o.size) os ≡ sum_by size_of (map range_of os)
used-ranges [] = refl
used-ranges (o ∷ os) =
    let rest = used-ranges os in
    let one = sum_by-cons (λ (p : Object). padded p.size) o os in
    let other = sum_by-cons size_of (range_of o) (map range_of os) in
    omega (arith, rest, one, other)

-- ---- what is placed next

-- the bases of objects past others
bases-past : (w : ℕ) (notes : Notes) (b : ℕ) (xs ys : List ScriptObject) (i : ℕ)
    → slice_index (bases_from w notes b (xs ++ ys)) (length xs + i)
    ≡ slice_index (bases_from w notes (b + rooms_in (sizes w notes) xs) ys) i
unfolding bases_from rooms_in
bases-past w notes b [] ys i =
    ap₂ (λ a k. slice_index (bases_from w notes a ys) k) (let e : b ≡ b + 0 = omega arith in e) (let e : 0 + i ≡ i = omega arith in e)
bases-past w notes b (x ∷ xs) ys i =
    let n : ℕ = object_bytes w notes (script_object x) in
    let room = room_same w notes x in
    let past : b + padded n + rooms_in (sizes w notes) xs ≡ b + (room_in (sizes w notes) x + rooms_in (sizes w notes) xs) =
    omega (arith, room) in
    ap (slice_index (b ∷ bases_from w notes (b + padded n) (xs ++ ys)))
    (let e : suc (length xs) + i ≡ suc (length xs + i) = omega arith in e)
    ∙ (bases-past w notes (b + padded n) xs ys i ∙ ap (λ a. slice_index (bases_from w notes a ys) i) past)

-- where the first of some objects lie
ranges-front : (w : ℕ) (notes : Notes) (b : ℕ) (xs ys : List ScriptObject)
    → script_ranges w notes xs (bases_from w notes b (xs ++ ys)) ≡ script_ranges w notes xs (bases_from w notes b xs)
unfolding script_ranges bases_from
ranges-front w notes b [] ys = refl
ranges-front w notes b (x ∷ xs) ys =
    let n : ℕ = object_bytes w notes (script_object x) in
    ap (λ rs. record { base = b; size = n } ∷ rs) (ranges-front w notes (b + padded n) xs ys)

-- where those past them lie
ranges-past : (w : ℕ) (notes : Notes) (b : ℕ) (xs ys zs : List ScriptObject)
    → script_ranges w notes (xs ++ ys) (bases_from w notes b (xs ++ zs)) ≡ script_ranges w notes xs (bases_from w notes b (xs ++ zs))
    ++ script_ranges w notes ys (bases_from w notes (b + rooms_in (sizes w notes) xs) zs)
unfolding script_ranges bases_from rooms_in
ranges-past w notes b [] ys zs =
    ap (λ a. script_ranges w notes ys (bases_from w notes a zs)) (let e : b ≡ b + 0 = omega arith in e)
ranges-past w notes b (x ∷ xs) ys zs =
    let n : ℕ = object_bytes w notes (script_object x) in
    let room = room_same w notes x in
    let past : b + padded n + rooms_in (sizes w notes) xs ≡ b + (room_in (sizes w notes) x + rooms_in (sizes w notes) xs) =
    omega (arith, room) in
    ap (λ rs. record { base = b; size = n } ∷ rs)
    (ranges-past w notes (b + padded n) xs ys zs
    ∙ ap (λ a. script_ranges w notes xs (bases_from w notes (b + padded n) (xs ++ zs))
    ++ script_ranges w notes ys (bases_from w notes a zs)) past)

-- the address past the image
abbrev past_image : ℕ → World → ℕ
past_image w world =
    first_base w + padded (area_bytes world.notes) + padded (stack_bytes w world.notes) + padded world.image_size

-- The memory has the first objects of the script, `before`; `make` come next, and then the rest.
module _ (w : ℕ) (world : World) (P : Placement) (m : Memory) (before make rest : List ScriptObject) (own : P ≡ own_placement w world)
    (all : placed_objects world.script (length world.script.call) ≡ before ++ (make ++ rest))
    (lie : ranges m ≡ native_range world.notes P ∷ stack_range w world.notes P ∷ image_range world P
    ∷ script_ranges w world.notes before P.objects) where
  bases-are : P.objects ≡ bases_from w world.notes (past_image w world) (before ++ (make ++ rest))
  bases-are = own-objects w world P own ∙ ap (bases_from w world.notes (past_image w world)) all

  front-are : script_ranges w world.notes before P.objects
      ≡ script_ranges w world.notes before (bases_from w world.notes (past_image w world) before)
  front-are =
      ap (script_ranges w world.notes before) bases-are ∙ ranges-front w world.notes (past_image w world) before (make ++ rest)

  used-before : used m ≡ padded (area_bytes world.notes) + padded (stack_bytes w world.notes) + padded world.image_size
      + rooms_in (sizes w world.notes) before
  used-before =
      let rs : List Range = script_ranges w world.notes before P.objects in
      let r0 : Range = native_range world.notes P in
      let r1 : Range = stack_range w world.notes P in
      let r2 : Range = image_range world P in
      let sum2 = sum_by-cons size_of r2 rs in
      let sum1 = sum_by-cons size_of r1 (r2 ∷ rs) in
      let sum0 = sum_by-cons size_of r0 (r1 ∷ r2 ∷ rs) in
      let front = ap (sum_by size_of) front-are ∙ ranges_sum w world.notes (past_image w world) before in
      used-ranges m.objects ∙ (ap (sum_by size_of) lie ∙ omega (arith, sum2, sum1, sum0, front))

  count-before : length m.objects ≡ length before + 3
  count-before =
      let front = ap length front-are ∙ ranges-count w world.notes (past_image w world) before in
      sym (length-map range_of m.objects) ∙ (ap length lie ∙ omega (arith, front))

  next-is : next_base w m ≡ past_image w world + rooms_in (sizes w world.notes) before
  next-is = let took = used-before in omega (arith, took)

  from-before : AreFrom w world.notes P (length before) (bases_from w world.notes (next_base w m) (make ++ rest))
  from-before i =
      ap (λ bs. slice_index bs (length before + i)) bases-are
      ∙ (bases-past w world.notes (past_image w world) before (make ++ rest) i
      ∙ ap (λ a. slice_index (bases_from w world.notes a (make ++ rest)) i) (sym next-is))

  pub next_coming : IsWidth w → IsScript world.notes world.script
      → m.byte_limit ≡ sum_by (λ (r : Range). padded r.size) (all_ranges w world P)
      → m.object_limit ≡ length (all_ranges w world P)
      → ((k : ℕ) (o : ScriptObject) → slice_get make k ≡ Some o → 1 ≤ object_bytes w world.notes (script_object o))
      → AreComing w world.notes P (length world.notes.statics + length before) m make
  next_coming width script bytes count some =
      let took = used-before in
      let three = count-before in
      let limit = bytes ∙ (ap (λ Q. sum_by size_of (all_ranges w world Q)) own ∙ all_sum w world) in
      let number = count ∙ (ap (λ Q. length (all_ranges w world Q)) own ∙ all_count w world) in
      let rooms = ap (rooms_in (sizes w world.notes)) all ∙ rooms_append (sizes w world.notes) before (make ++ rest) in
      let more = rooms_append (sizes w world.notes) make rest in
      let small = rooms_small world.notes world.script script w width in
      let both = ap length all ∙ length-append before (make ++ rest) in
      let last = length-append make rest in
      are_coming w world.notes P make rest (length before) m from-before (omega (arith, took, limit, rooms, more))
      (omega (arith, three, number, both, last)) some (omega (arith, rooms, more, small))

  -- the ranges once they are placed
  pub next_ranges : (s : Concrete) → (with_objects w world.notes P (length world.notes.statics + length before) (map script_object make)
      (with_memory s m)).objects ≡ native_range world.notes P ∷ stack_range w world.notes P ∷ image_range world P
      ∷ script_ranges w world.notes (before ++ make) P.objects
  next_ranges s =
      let bs : List ℕ = bases_from w world.notes (next_base w m) (make ++ rest) in
      let few = bases-count w world.notes (next_base w m) (make ++ rest) in
      let last = length-append make rest in
      let tail : script_ranges w world.notes (before ++ make) P.objects
      ≡ script_ranges w world.notes before P.objects ++ script_ranges w world.notes make bs =
      ap (script_ranges w world.notes (before ++ make)) bases-are
      ∙ (ranges-past w world.notes (past_image w world) before make (make ++ rest)
      ∙ ap₂ (λ u v. script_ranges w world.notes before u ++ script_ranges w world.notes make (bases_from w world.notes v (make ++ rest)))
      (sym bases-are) (sym next-is)) in
      lie_there w world.notes P make bs (length before) (with_memory s m) from-before (omega (arith, few, last))
      ∙ (ap (λ rs. rs ++ script_ranges w world.notes make bs) lie
      ∙ ap (λ rs. native_range world.notes P ∷ stack_range w world.notes P ∷ image_range world P ∷ rs) (sym tail))

-- ---- what is placed at the start

module _ (w : ℕ) (world : World) (P : Placement) (m : Memory) (own : P ≡ own_placement w world)
    (lie : ranges m ≡ native_range world.notes P ∷ stack_range w world.notes P ∷ image_range world P ∷ []) where
  bare : ranges m ≡ native_range world.notes P ∷ stack_range w world.notes P ∷ image_range world P
      ∷ script_ranges w world.notes [] P.objects
  unfolding script_ranges
  bare = lie

  no_more : length world.notes.statics + 0 ≡ length world.notes.statics
  no_more = omega arith

  pub start_coming : IsWidth w → IsScript world.notes world.script
      → m.byte_limit ≡ sum_by (λ (r : Range). padded r.size) (all_ranges w world (own_placement w world))
      → m.object_limit ≡ length (all_ranges w world (own_placement w world))
      → AreComing w world.notes P (length world.notes.statics) m world.script.object
  start_coming width script bytes count =
      subst (λ n. AreComing w world.notes P n m world.script.object) no_more
      (next_coming w world P m [] world.script.object (flat_map objects_of world.script.call) own (all_placed world.script) bare width
      script (bytes ∙ ap (λ Q. sum_by size_of (all_ranges w world Q)) (sym own)) (count ∙ ap (λ Q. length (all_ranges w world Q)) (sym own))
      (λ k o g. bytes_some w world.notes (all_made world.notes world.script) (length world.notes.statics + k) o width
      (script.objects k o g)))

  -- the ranges once the objects are placed that are there from the start
  pub start_ranges : (s : Concrete) → (with_objects w world.notes P (length world.notes.statics) (map script_object world.script.object)
      (with_memory s m)).objects ≡ placed_ranges w world P 0
  unfolding placed_ranges placed_objects
  start_ranges s =
      ap (λ n. (with_objects w world.notes P n (map script_object world.script.object) (with_memory s m)).objects) (sym no_more)
      ∙ (next_ranges w world P m [] world.script.object (flat_map objects_of world.script.call) own (all_placed world.script) bare s
      ∙ ap (λ zs. native_range world.notes P ∷ stack_range w world.notes P ∷ image_range world P
      ∷ script_ranges w world.notes zs P.objects) (sym (append-nil world.script.object)))

-- where the native area, the stack and the image lie
pub bare_ranges : (w : ℕ) (world : World) (P : Placement) (f : ℕ → ℕ) (m : Memory)
    → with_memory (bare_machine w world P f) m ≡ bare_machine w world P f
    → ranges m ≡ native_range world.notes P ∷ stack_range w world.notes P ∷ image_range world P ∷ []
unfolding bare_machine
bare_ranges w world P f m e = ap (λ (s : Concrete). s.objects) e

-- the state once they are filled
module _ (w : ℕ) (world : World) (P : Placement) (f : ℕ → ℕ) (m n : Memory) (first : ℕ) (os : List ScriptObject)
    (made : List TypedObject) (at : first ≡ length world.notes.statics) (these : os ≡ world.script.object)
    (is : made ≡ made_objects world.notes world.script 0)
    (bare : with_memory (bare_machine w world P f) m ≡ bare_machine w world P f)
    (filled : (s : Concrete) (slots : List ℕ) → after_stores w world.notes P made slots (filling world.notes first os)
    (with_objects w world.notes P first (map script_object os) (with_memory s m)) ≡ with_memory s n) where
  start-is : start_machine w world P f ≡ with_memory (bare_machine w world P f) n
  unfolding start_machine
  start-is =
      let s : Concrete = bare_machine w world P f in
      let k : ℕ = length world.notes.statics in
      ap (λ t. after_stores w world.notes P (made_objects world.notes world.script 0) [] (filling world.notes k world.script.object)
      (with_objects w world.notes P k (map script_object world.script.object) t)) (sym bare)
      ∙ (ap (λ ts. after_stores w world.notes P ts [] (filling world.notes k world.script.object)
      (with_objects w world.notes P k (map script_object world.script.object) (with_memory s m))) (sym is)
      ∙ (ap₂ (λ x zs. after_stores w world.notes P made [] (filling world.notes x zs)
      (with_objects w world.notes P x (map script_object zs) (with_memory s m))) (sym at) (sym these) ∙ filled s []))

  pub start_state : with_memory (start_machine w world P f) n ≡ start_machine w world P f
  start_state = ap (λ s. with_memory s n) start-is ∙ sym start-is
