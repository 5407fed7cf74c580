-- Laws of memories, for the crates above.
use Rattle.std.proofs.Common.{◌≡◌, ℕ, zero, suc, ◌+◌, ◌-◌, ◌*◌, ◌^◌, ◌<◌, ◌≤◌, ◌⊎◌, inl, inr, ⊎_elim, Bool, true, false, cond}
use Rattle.std.proofs.Common.{if◌then◌else◌, List, [], ◌∷◌, length, map, drop, replicate, get_or, refl, sym, ap, ap₂, subst, subst₂}
use Rattle.std.proofs.Common.{◌∙◌, arith, Option, Some, None}
use Rattle.std.specs.Prelude.{slice_get, slice_index, All, AllPairs}
use Rattle.std.proofs.lemmas.Option.{none-some, same_Some, slice_get_within, slice_get-get_or, get_or_from_slice_get}
use Rattle.std.specs.List.{list_any, find}
use Rattle.std.specs.Option.{option_map_or, option_or}
use Rattle.std.proofs.lemmas.List.Sums.{sum_by_push}
use Rattle.std.proofs.lemmas.List.Folds.{find-append, map_fixed}
use Rattle.std.proofs.lemmas.List.Elements.{All-head, All-tail, All-map, All-push, All-weaker}
use Rattle.std.proofs.lemmas.List.Quantifiers.{all_pairs_push}
use Rattle.std.proofs.lemmas.List.{get_or-map, get_or-drop, length-map, length-drop, length-replicate, length_push, ext_get_or}
use Rattle.std.proofs.lemmas.Bool.{cases_lt, or_cases, or_left, or_right, true≢false}
use Rattle.ebc_width.specs.Width.{IsWidth}
use Rattle.ebc_width.proofs.Laws.{by_width}
use Rattle.ebc_width.proofs.ByteLaws.{put-apart, put-agree, put-below, overlaid-apart, overlaid-agree, overlaid-below, window-agree}
use Rattle.ebc_width.proofs.ByteLaws.{little_endian-agree, length-window, get_or-window}
use Rattle.ebc_width.proofs.RangeLaws.{covers-inside, holds-within}
use Rattle.object_memory.specs.declared.ObjId.{ObjId}
use Rattle.object_memory.proofs.Lists.{sum_by-map, get_or-zeros, find_none}
use Rattle.ebc_width.specs.Bytes.{little_endian, put, overlaid, window}
use Rattle.ebc_width.specs.Ranges.{covers, holds}
use Rattle.object_memory.specs.Memory.{Object, Memory, range_of, ranges, has_byte, object_at, byte_of, byte_at, held_number, rest_from}
use Rattle.object_memory.specs.Memory.{offset_of, object_with, with_bytes, memory_after, memory_filled, padded, used, first_base, next_base}
use Rattle.object_memory.specs.Memory.{placed, top_limit, IsPlaced, LiesBelow, IsMemory, IsOwner}

-- ---- what a memory holds

pub object_at-none : (m : Memory) (x : ℕ) → holds (ranges m) x 1 ≡ false → object_at m x ≡ None
unfolding holds object_at
object_at-none m x none = find_none (covers x 1) range_of m.objects none

-- the object that holds a byte, of those that lie apart
pub object_at-found : (m : Memory) (x i : ℕ) (o : Object) → AllPairs LiesBelow m.objects → slice_get m.objects i ≡ Some o
    → has_byte x o ≡ true → object_at m x ≡ Some o
unfolding object_at
object_at-found m x i o apart at covered = each m.objects i apart at
  where
    missed : (p : Object) → LiesBelow p o → has_byte x p ≡ false
    missed p below = grind arith

    each : (os : List Object) (i : ℕ) → AllPairs LiesBelow os → slice_get os i ≡ Some o → find (has_byte x) os ≡ Some o
    each [] i apart at = absurd (omega (arith, slice_get_within [] i o at))
    each (p ∷ os) zero apart at = rw (same_Some p o at, covered) refl
    each (p ∷ os) (suc i) apart at =
        let within = slice_get_within os i o at in
        let below : LiesBelow p o = subst (LiesBelow p) (get_or_from_slice_get os i o o at)
        (apart 0 (suc i) o (omega arith) (omega arith)) in
        rw (missed p below) (each os i (λ a b d less inside. apart (suc a) (suc b) d (omega arith) (omega arith)) at)

-- no byte is where no object is
pub byte_at-none : (m : Memory) (x : ℕ) → holds (ranges m) x 1 ≡ false → byte_at m x ≡ 0
unfolding byte_at
byte_at-none m x none = rw (object_at-none m x none) refl

-- ---- loads and stores

pub held_number-held : (m : Memory) (a k : ℕ) → holds (ranges m) a k ≡ true → held_number m a k ≡ Some (little_endian (byte_at m) a k)
unfolding held_number
held_number-held m a k held = rw held refl

pub held_number-absent : (m : Memory) (a k : ℕ) → holds (ranges m) a k ≡ false → held_number m a k ≡ None
unfolding held_number
held_number-absent m a k absent = rw absent refl

pub offset_of-held : (w : ℕ) (m : Memory) (x : ℕ) → holds (ranges m) x 1 ≡ true → offset_of w m x ≡ Some (x - first_base w)
unfolding offset_of
offset_of-held w m x held = rw held refl

pub offset_of-absent : (w : ℕ) (m : Memory) (x : ℕ) → holds (ranges m) x 1 ≡ false → offset_of w m x ≡ None
unfolding offset_of
offset_of-absent w m x absent = rw absent refl

-- the byte at an offset is held, at the offset past the first base
pub offset_of-some : (w : ℕ) (m : Memory) (x i : ℕ) → offset_of w m x ≡ Some i → (holds (ranges m) x 1 ≡ true) × (x - first_base w ≡ i)
unfolding offset_of
offset_of-some w m x i is = either (holds (ranges m) x 1) refl is
  where
    either : (held : Bool) → holds (ranges m) x 1 ≡ held → (if held then Some (x - first_base w) else None) ≡ Some i
        → (holds (ranges m) x 1 ≡ true) × (x - first_base w ≡ i)
    either true held some = (held, same_Some (x - first_base w) i some)
    either false held none = absurd (none-some i none)

pub memory_after-held : (m : Memory) (a k v : ℕ) → holds (ranges m) a k ≡ true → memory_after m a k v ≡ with_bytes m (put (byte_at m) a k v)
unfolding memory_after
memory_after-held m a k v held = rw held refl

pub memory_after-absent : (m : Memory) (a k v : ℕ) → holds (ranges m) a k ≡ false → memory_after m a k v ≡ m
unfolding memory_after
memory_after-absent m a k v absent = rw absent refl

pub memory_filled-held : (m : Memory) (a : ℕ) (over : List ℕ) → holds (ranges m) a (length over) ≡ true
    → memory_filled m a over ≡ with_bytes m (overlaid (byte_at m) a over)
unfolding memory_filled
memory_filled-held m a over held = rw held refl

pub memory_filled-absent : (m : Memory) (a : ℕ) (over : List ℕ) → holds (ranges m) a (length over) ≡ false → memory_filled m a over ≡ m
unfolding memory_filled
memory_filled-absent m a over absent = rw absent refl

pub rest_from-found : (m : Memory) (x : ℕ) (o : Object) → object_at m x ≡ Some o → rest_from m x ≡ Some (drop (x - o.base) o.bytes)
unfolding rest_from
rest_from-found m x o found = rw found refl

pub rest_from-absent : (m : Memory) (x : ℕ) → holds (ranges m) x 1 ≡ false → rest_from m x ≡ None
unfolding rest_from
rest_from-absent m x absent = rw (object_at-none m x absent) refl

-- ---- a store leaves each object where it is

pub ranges-with_bytes : (m : Memory) (f : ℕ → ℕ) → ranges (with_bytes m f) ≡ ranges m
ranges-with_bytes m f = each m.objects
  where
    each : (os : List Object) → map range_of (map (object_with f) os) ≡ map range_of os
    each [] = refl
    each (o ∷ os) = ap (λ rs. range_of o ∷ rs) (each os)

pub ranges-memory_after : (m : Memory) (a k v : ℕ) → ranges (memory_after m a k v) ≡ ranges m
unfolding memory_after
ranges-memory_after m a k v = either (holds (ranges m) a k)
  where
    either : (held : Bool) → ranges (if held then with_bytes m (put (byte_at m) a k v) else m) ≡ ranges m
    either true = ranges-with_bytes m (put (byte_at m) a k v)
    either false = refl

pub holds-with_bytes : (m : Memory) (f : ℕ → ℕ) (a k : ℕ) → holds (ranges (with_bytes m f)) a k ≡ holds (ranges m) a k
holds-with_bytes m f a k = ap (λ rs. holds rs a k) (ranges-with_bytes m f)

pub holds-memory_after : (m : Memory) (a k v b n : ℕ) → holds (ranges (memory_after m a k v)) b n ≡ holds (ranges m) b n
holds-memory_after m a k v b n = ap (λ rs. holds rs b n) (ranges-memory_after m a k v)

used-with_bytes : (m : Memory) (f : ℕ → ℕ) → used (with_bytes m f) ≡ used m
used-with_bytes m f = sum_by-map (λ (o : Object). padded o.size) (object_with f) m.objects

-- ---- and changes exactly its bytes

byte_with : (f : ℕ → ℕ) (x : ℕ) (os : List Object) → list_any (covers x 1) (map range_of os) ≡ true
    → option_map_or (byte_of x) (find (has_byte x) (map (object_with f) os)) 0 ≡ f x
byte_with f x [] some = absurd (true≢false (sym some))
byte_with f x (o ∷ os) some =
    chosen (has_byte x o) (find (has_byte x) (map (object_with f) os)) (λ here. at o here) (λ there. byte_with f x os (rw there at some))
  where
    at : (p : Object) → has_byte x p ≡ true → byte_of x (object_with f p) ≡ f x
    at p covered =
        let from : p.base ≤ x = grind arith in
        let to : x - p.base < p.size = grind arith in
        get_or-window f p.base p.size (x - p.base) 0 to ∙ ap f (omega arith)

    chosen : (here : Bool) (rest : Option Object) → (here ≡ true → byte_of x (object_with f o) ≡ f x)
        → (here ≡ false → option_map_or (byte_of x) rest 0 ≡ f x)
        → option_map_or (byte_of x) (cond here (Some (object_with f o)) rest) 0 ≡ f x
    chosen true rest is other = is refl
    chosen false rest is other = other refl

pub byte_at-with_bytes : (m : Memory) (f : ℕ → ℕ) (x : ℕ) → holds (ranges m) x 1 ≡ true → byte_at (with_bytes m f) x ≡ f x
unfolding byte_at object_at holds
byte_at-with_bytes m f x held = byte_with f x m.objects held

-- bytes that differ from the memory's only where one object holds them are the bytes of all addresses
byte_at-changed : (m : Memory) (f : ℕ → ℕ) (a n x : ℕ) → holds (ranges m) a n ≡ true → ((x < a) ⊎ (a + n ≤ x) → f x ≡ byte_at m x)
    → byte_at (with_bytes m f) x ≡ f x
byte_at-changed m f a n x held apart = either (holds (ranges m) x 1) refl
  where
    outside : holds (ranges m) x 1 ≡ false → (x < a) ⊎ (a + n ≤ x)
    outside none =
        ⊎_elim
        (λ below. inl below)
        (λ from. ⊎_elim
        (λ to. absurd (true≢false (sym (holds-within (ranges m) a n x 1 held from (omega arith)) ∙ none)))
        (λ above. inr above)
        (cases_lt x (a + n)))
        (cases_lt x a)

    either : (here : Bool) → holds (ranges m) x 1 ≡ here → byte_at (with_bytes m f) x ≡ f x
    either true is = byte_at-with_bytes m f x is
    either false is = byte_at-none (with_bytes m f) x (holds-with_bytes m f x 1 ∙ is)
        ∙ (sym (byte_at-none m x is) ∙ sym (apart (outside is)))

pub byte_at-memory_after : (m : Memory) (a k v x : ℕ) → holds (ranges m) a k ≡ true
    → byte_at (memory_after m a k v) x ≡ put (byte_at m) a k v x
byte_at-memory_after m a k v x held =
    ap (λ n. byte_at n x) (memory_after-held m a k v held) ∙ byte_at-changed m (put (byte_at m) a k v) a k x held
    (put-apart (byte_at m) a k v x)

pub byte_at-memory_filled : (m : Memory) (a : ℕ) (over : List ℕ) (x : ℕ) → holds (ranges m) a (length over) ≡ true
    → byte_at (memory_filled m a over) x ≡ overlaid (byte_at m) a over x
byte_at-memory_filled m a over x held =
    ap (λ n. byte_at n x) (memory_filled-held m a over held) ∙ byte_at-changed m (overlaid (byte_at m) a over) a (length over) x held
    (overlaid-apart (byte_at m) a over x)

-- ---- a new object

pub used-placed : (w : ℕ) (m : Memory) (n : ℕ) → used (placed w m n) ≡ used m + padded n
unfolding placed
used-placed w m n = sum_by_push (λ (o : Object). padded o.size) m.objects (record { base = next_base w m; size = n; bytes = replicate n 0 })

-- no byte changes: those of the new object are zeros
pub byte_at-placed : (w : ℕ) (m : Memory) (n x : ℕ) → byte_at (placed w m n) x ≡ byte_at m x
unfolding byte_at object_at placed
byte_at-placed w m n x =
    ap (λ r. option_map_or (byte_of x) r 0) (find-append (has_byte x) m.objects (new ∷ []))
    ∙ either (find (has_byte x) m.objects) (has_byte x new)
  where
    new : Object
    new = record { base = next_base w m; size = n; bytes = replicate n 0 }

    either : (old : Option Object) (here : Bool) → option_map_or (byte_of x)
        (option_or old (cond here (Some (record { base = next_base w m; size = n; bytes = replicate n 0 })) None)) 0 ≡ option_map_or
        (byte_of x) old 0
    either (Some o) here = refl
    either None true = get_or-zeros n (x - next_base w m)
    either None false = refl

-- ---- what holds of each memory

pub limit-no_wrap : (w limit : ℕ) → IsWidth w → limit ≤ top_limit w → first_base w + limit ≤ 2 ^ (8 * w)
limit-no_wrap w limit width bounded = by_width (λ v. limit ≤ top_limit v → first_base v + limit ≤ 2 ^ (8 * v)) w width
    (λ below. omega arith) (λ below. omega arith) bounded

pub limit-below : (w limit : ℕ) → IsWidth w → limit ≤ top_limit w → first_base w + limit < 2 ^ 64
limit-below w limit width bounded = by_width (λ v. limit ≤ top_limit v → first_base v + limit < 2 ^ 64) w width
    (λ below. omega arith) (λ below. omega arith) bounded

-- a memory with no object
pub IsMemory-empty : (w limit most : ℕ) → IsWidth w → limit ≤ top_limit w
    → IsMemory w (record { objects = []; byte_limit = limit; object_limit = most })
unfolding byte_at object_at
IsMemory-empty w limit most width bounded = record {
  width = width;
  placed = λ i d within. absurd (omega arith);
  apart = λ i j d less within. absurd (omega arith);
  no_wrap = limit-no_wrap w limit width bounded;
  bytes = λ x. omega arith;
  bytes_kept = omega arith;
  objects_kept = omega arith;
}

-- an address that is held lies between the first base and the next one
pub holds-bounds : (w : ℕ) (m : Memory) (a k : ℕ) → IsMemory w m → holds (ranges m) a k ≡ true → (first_base w ≤ a)
    × (a + k ≤ next_base w m)
unfolding holds
holds-bounds w m a k memory held = each m.objects memory.placed held
  where
    inside : (o : Object) → IsPlaced w m o → covers a k (range_of o) ≡ true → (first_base w ≤ a) × (a + k ≤ next_base w m)
    inside o is covered =
        let above : first_base w ≤ o.base = is.above in
        let below : o.base + padded o.size ≤ next_base w m = is.below in
        let from : o.base ≤ a = grind arith in
        let to : a + k ≤ o.base + o.size = grind arith in
        (omega arith, omega arith)

    each : (os : List Object) → All (IsPlaced w m) os → list_any (covers a k) (map range_of os) ≡ true → (first_base w ≤ a)
        × (a + k ≤ next_base w m)
    each [] all some = absurd (true≢false (sym some))
    each (o ∷ os) all some =
        ⊎_elim
        (λ here. inside o (All-head (IsPlaced w m) o os all) here)
        (λ there. each os (All-tail (IsPlaced w m) o os all) there)
        (or_cases (covers a k (range_of o)) (list_any (covers a k) (map range_of os)) some)

-- no object has a byte from the next base on
pub byte_at-above : (w : ℕ) (m : Memory) (x : ℕ) → IsMemory w m → next_base w m ≤ x → byte_at m x ≡ 0
byte_at-above w m x memory above = byte_at-none m x (either (holds (ranges m) x 1) refl)
  where
    either : (held : Bool) → holds (ranges m) x 1 ≡ held → holds (ranges m) x 1 ≡ false
    either true is = absurd (omega (arith, above, (holds-bounds w m x 1 memory is).1))
    either false is = is

-- no two addresses have one offset
pub offset_of-alone : (w : ℕ) (m : Memory) (x y i : ℕ) → IsMemory w m → offset_of w m x ≡ Some i → offset_of w m y ≡ Some i → x ≡ y
offset_of-alone w m x y i memory at also =
    let here = offset_of-some w m x i at in let there = offset_of-some w m y i also in
    omega (arith, here.1, there.1, (holds-bounds w m x 1 memory here.0).0, (holds-bounds w m y 1 memory there.0).0)

-- any object, as what a little_endian past the end gives
abbrev nowhere : Object
nowhere = record { base = 0; size = 0; bytes = [] }

pub IsMemory-with_bytes : (w : ℕ) (m : Memory) (f : ℕ → ℕ) → IsMemory w m → ((x : ℕ) → f x < 256) → IsMemory w (with_bytes m f)
IsMemory-with_bytes w m f memory below = record {
  width = memory.width;
  placed = All-map (IsPlaced w (with_bytes m f)) (object_with f) m.objects (λ i d within.
      let o : Object = get_or m.objects i d in
      let old : IsPlaced w m o = memory.placed i d within in
      record {
        above = old.above;
        below = omega (arith, old.below, taken);
        some = old.some;
        whole = length-window f o.base o.size;
      });
  apart = λ i j d less within.
      let count : length (map (object_with f) m.objects) ≡ length m.objects = length-map m.objects (object_with f) in
      rw (get_or-map (object_with f) m.objects i nowhere d (omega arith), get_or-map (object_with f) m.objects j nowhere d (omega arith))
      (memory.apart i j nowhere less (omega arith));
  no_wrap = memory.no_wrap;
  bytes = λ x. byte x (holds (ranges m) x 1) refl;
  bytes_kept = omega (arith, taken, memory.bytes_kept);
  objects_kept = rw (length-map m.objects (object_with f)) memory.objects_kept;
}
  where
    taken : used (with_bytes m f) ≡ used m
    taken = used-with_bytes m f

    byte : (x : ℕ) (held : Bool) → holds (ranges m) x 1 ≡ held → byte_at (with_bytes m f) x < 256
    byte x true is = rw (byte_at-with_bytes m f x is) (below x)
    byte x false is = rw (byte_at-none (with_bytes m f) x (holds-with_bytes m f x 1 ∙ is)) (omega arith)

pub IsMemory-memory_after : (w : ℕ) (m : Memory) (a k v : ℕ) → IsMemory w m → IsMemory w (memory_after m a k v)
unfolding memory_after
IsMemory-memory_after w m a k v memory = either (holds (ranges m) a k)
  where
    either : (held : Bool) → IsMemory w (if held then with_bytes m (put (byte_at m) a k v) else m)
    either true = IsMemory-with_bytes w m (put (byte_at m) a k v) memory (λ x. put-below (byte_at m) a k v x (memory.bytes x))
    either false = memory

pub IsMemory-memory_filled : (w : ℕ) (m : Memory) (a : ℕ) (over : List ℕ) → IsMemory w m → ((i : ℕ) → slice_index over i < 256)
    → IsMemory w (memory_filled m a over)
unfolding memory_filled
IsMemory-memory_filled w m a over memory each = either (holds (ranges m) a (length over))
  where
    either : (held : Bool) → IsMemory w (if held then with_bytes m (overlaid (byte_at m) a over) else m)
    either true = IsMemory-with_bytes w m (overlaid (byte_at m) a over) memory
        (λ x. overlaid-below (byte_at m) a over x each (memory.bytes x))
    either false = memory

pub IsMemory-placed : (w : ℕ) (m : Memory) (n : ℕ) → IsMemory w m → 1 ≤ n → used m + padded n ≤ m.byte_limit
    → length m.objects < m.object_limit → IsMemory w (placed w m n)
unfolding placed
IsMemory-placed w m n memory some room more = record {
  width = memory.width;
  placed = All-push (IsPlaced w (placed w m n)) m.objects new
      (All-weaker (IsPlaced w m) (IsPlaced w (placed w m n)) (λ o old. record {
        above = old.above;
        below = omega (arith, old.below, taken);
        some = old.some;
        whole = old.whole;
      }) m.objects memory.placed)
      (record { above = omega arith; below = omega (arith, taken); some = some; whole = length-replicate n 0 });
  apart = all_pairs_push LiesBelow m.objects new memory.apart (λ i d within. (memory.placed i d within).below);
  no_wrap = memory.no_wrap;
  bytes = λ x. rw (byte_at-placed w m n x) (memory.bytes x);
  bytes_kept = omega (arith, taken, room);
  objects_kept = rw (length_push m.objects new) (omega (arith, more));
}
  where
    new : Object
    new = record { base = next_base w m; size = n; bytes = replicate n 0 }

    taken : used (placed w m n) ≡ used m + padded n
    taken = used-placed w m n

-- ---- one object holds a byte

object_at-place : (m : Memory) (x : ℕ) (o : Object) → object_at m x ≡ Some o → (i : ℕ) × (slice_get m.objects i ≡ Some o)
    × (has_byte x o ≡ true)
unfolding object_at
object_at-place m x o found = each m.objects found
  where
    each : (os : List Object) → find (has_byte x) os ≡ Some o → (i : ℕ) × (slice_get os i ≡ Some o) × (has_byte x o ≡ true)
    each [] found = absurd (cc)
    each (p ∷ os) found = either (has_byte x p) refl found (λ rest. each os rest)
      where
        either : (here : Bool) → has_byte x p ≡ here → cond here (Some p) (find (has_byte x) os) ≡ Some o
            → (find (has_byte x) os ≡ Some o → (i : ℕ) × (slice_get os i ≡ Some o) × (has_byte x o ≡ true)) → (i : ℕ)
            × (slice_get (p ∷ os) i ≡ Some o) × (has_byte x o ≡ true)
        either true covered is rest = (0, is, subst (λ (q : Object). has_byte x q ≡ true) (same_Some p o is) covered)
        either false covered is rest = let r = rest is in (suc r.0, r.1, r.2)

byte_at-found : (m : Memory) (x : ℕ) (o : Object) → object_at m x ≡ Some o → byte_at m x ≡ byte_of x o
unfolding byte_at
byte_at-found m x o found = rw found refl

-- an element of the list, as the list has it
pub element : (P : Object → Type 0) (os : List Object) (i : ℕ) (o : Object) → All P os → slice_get os i ≡ Some o → P o
element P os i o all at = subst P (get_or_from_slice_get os i o o at) (all i o (slice_get_within os i o at))

-- the rest of an object, by the addresses of its bytes
pub rest_from-window : (w : ℕ) (m : Memory) (x : ℕ) (o : Object) → IsMemory w m → object_at m x ≡ Some o
    → rest_from m x ≡ Some (window (byte_at m) x (o.base + o.size - x))
rest_from-window w m x o memory found =
    rest_from-found m x o found
    ∙ ap Some (ext_get_or 0 (drop (x - o.base) o.bytes) (window (byte_at m) x (o.base + o.size - x))
    (count ∙ sym (length-window (byte_at m) x (o.base + o.size - x))) each)
  where
    place : (i : ℕ) × (slice_get m.objects i ≡ Some o) × (has_byte x o ≡ true)
    place = object_at-place m x o found

    bounds : has_byte x o ≡ true → (o.base ≤ x) × (x < o.base + o.size)
    bounds covered = (grind arith, grind arith)

    count : length (drop (x - o.base) o.bytes) ≡ o.base + o.size - x
    count =
        let here = bounds place.2 in
        let whole : length o.bytes ≡ o.size = (element (IsPlaced w m) m.objects place.0 o memory.placed place.1).whole in
        length-drop (x - o.base) o.bytes ∙ omega arith

    each : (j : ℕ) → j < length (drop (x - o.base) o.bytes) → get_or (drop (x - o.base) o.bytes) j 0 ≡ get_or
        (window (byte_at m) x (o.base + o.size - x)) j 0
    each j within =
        let here = bounds place.2 in
        let below : j < o.base + o.size - x = rw count at within in
        let covered : has_byte (x + j) o ≡ true = grind arith in
        get_or-drop (x - o.base) o.bytes j 0
        ∙ (ap (λ k. get_or o.bytes k 0) (omega arith)
        ∙ (sym (byte_at-found m (x + j) o (object_at-found m (x + j) place.0 o memory.apart place.1 covered))
        ∙ sym (get_or-window (byte_at m) x (o.base + o.size - x) j 0 below)))

IsOwner-object_at : (w : ℕ) (m : Memory) (x i : ℕ) (id : ObjId) → IsMemory w m → (is : IsOwner m x id i) → object_at m x ≡ Some is.found.0
IsOwner-object_at w m x i id memory is =
    let base : is.found.0.base ≡ id.base = is.found.2 in
    let below : i < is.found.0.size = is.found.3 in
    let place : id.base + i ≡ x = is.place in
    object_at-found m x id.number is.found.0 memory.apart is.found.1 (grind arith)

-- the object that holds a byte is one, and so is the byte's offset in it
pub IsOwner-same : (w : ℕ) (m : Memory) (x i j : ℕ) (id other : ObjId) → IsMemory w m → IsOwner m x id i → IsOwner m x other j
    → (id ≡ other) × (i ≡ j)
IsOwner-same w m x i j id other memory is also = (
  ap₂ (λ n b. record { number = n; base = b }) number base,
  omega (arith, base, is.place, also.place),
)
  where
    same : is.found.0 ≡ also.found.0
    same = same_Some is.found.0 also.found.0 (sym (IsOwner-object_at w m x i id memory is) ∙ IsOwner-object_at w m x j other memory also)

    base : id.base ≡ other.base
    base = sym is.found.2 ∙ ap (λ (o : Object). o.base) same ∙ also.found.2

    apart : (n k : ℕ) (o p : Object) → o ≡ p → slice_get m.objects n ≡ Some o → slice_get m.objects k ≡ Some p → n < k → ⊥
    apart n k o p e at to less =
        let below : LiesBelow o p = subst₂ LiesBelow (get_or_from_slice_get m.objects n o o at) (get_or_from_slice_get m.objects k p o to)
        (memory.apart n k o less (slice_get_within m.objects k p to)) in
        let bases : o.base ≡ p.base = ap (λ (q : Object). q.base) e in
        omega arith

    number : id.number ≡ other.number
    number =
        ⊎_elim
        (λ less. absurd (apart id.number other.number is.found.0 also.found.0 same is.found.1 also.found.1 less))
        (λ le. ⊎_elim
        (λ more. absurd (apart other.number id.number also.found.0 is.found.0 (sym same) also.found.1 is.found.1 more))
        (λ ge. omega arith)
        (cases_lt other.number id.number))
        (cases_lt id.number other.number)

-- ---- one change of bytes after another

pub with_bytes-twice : (m : Memory) (f g : ℕ → ℕ) → with_bytes (with_bytes m f) g ≡ with_bytes m g
with_bytes-twice m f g = ap (λ os. record m { objects = os }) (each m.objects)
  where
    each : (os : List Object) → map (object_with g) (map (object_with f) os) ≡ map (object_with g) os
    each [] = refl
    each (o ∷ os) = ap (λ ps. object_with g o ∷ ps) (each os)

-- only the bytes of objects count
pub with_bytes-agree : (m : Memory) (f g : ℕ → ℕ) → ((x : ℕ) → holds (ranges m) x 1 ≡ true → f x ≡ g x) → with_bytes m f ≡ with_bytes m g
unfolding holds
with_bytes-agree m f g same = ap (λ os. record m { objects = os }) (each m.objects same)
  where
    each : (os : List Object) → ((x : ℕ) → list_any (covers x 1) (map range_of os) ≡ true → f x ≡ g x)
        → map (object_with f) os ≡ map (object_with g) os
    each [] same = refl
    each (o ∷ os) same =
        ap₂ (λ p ps. p ∷ ps)
        (ap (λ bytes. record o { bytes = bytes }) (window-agree f g o.base o.size
        (λ x from to. same x (or_left _ _ (covers-inside (range_of o) x 1 from (omega arith))))))
        (each os (λ x there. same x (or_right _ _ there)))

-- a memory has the bytes that it has
pub with_bytes-same : (w : ℕ) (m : Memory) → IsMemory w m → with_bytes m (byte_at m) ≡ m
with_bytes-same w m memory = ap (λ os. record m { objects = os }) (map_fixed (object_with (byte_at m)) m.objects each)
  where
    its : (o p : Object) (i : ℕ) → slice_get m.objects i ≡ Some o → IsPlaced w m o → object_with (byte_at m) o ≡ o
    its o p i at placed =
        let some : 1 ≤ o.size = placed.some in
        let here : has_byte o.base o ≡ true = covers-inside (range_of o) o.base 1 (omega arith) (omega arith) in
        let found : object_at m o.base ≡ Some o = object_at-found m o.base i o memory.apart at here in
        let count : o.base + o.size - o.base ≡ o.size = omega arith in
        let none : o.base - o.base ≡ 0 = omega arith in
        let bytes : drop (o.base - o.base) o.bytes ≡ window (byte_at m) o.base (o.base + o.size - o.base) =
        same_Some _ _ (sym (rest_from-found m o.base o found) ∙ rest_from-window w m o.base o memory found) in
        let whole : o.bytes ≡ window (byte_at m) o.base o.size = rw none at (rw count at bytes) in
        ap (λ bytes. record o { bytes = bytes }) (sym whole)

    each : All (λ o. object_with (byte_at m) o ≡ o) m.objects
    each i d within = its (get_or m.objects i d) d i (slice_get-get_or m.objects i d within) (memory.placed i d within)

-- a store, a fill and a load where the bytes are known
changed-with_bytes : (m old : Memory) (f : ℕ → ℕ) (change : (ℕ → ℕ) → ℕ → ℕ) → old ≡ with_bytes m f
    → ((x : ℕ) → byte_at old x ≡ f x → change (byte_at old) x ≡ change f x)
    → with_bytes old (change (byte_at old)) ≡ with_bytes m (change f)
changed-with_bytes m old f change is agree =
    ap (λ n. with_bytes n (change (byte_at old))) is
    ∙ (with_bytes-twice m f (change (byte_at old))
    ∙ with_bytes-agree m (change (byte_at old)) (change f) (λ x there. agree x (ap (λ n. byte_at n x) is ∙ byte_at-with_bytes m f x there)))

pub memory_after-with_bytes : (m old : Memory) (f : ℕ → ℕ) (a k v : ℕ) → old ≡ with_bytes m f → holds (ranges old) a k ≡ true
    → memory_after old a k v ≡ with_bytes m (put f a k v)
memory_after-with_bytes m old f a k v is held =
    memory_after-held old a k v held ∙ changed-with_bytes m old f (λ b. put b a k v) is (put-agree (byte_at old) f a k v)

pub memory_filled-with_bytes : (m old : Memory) (f : ℕ → ℕ) (a : ℕ) (over : List ℕ) → old ≡ with_bytes m f
    → holds (ranges old) a (length over) ≡ true → memory_filled old a over ≡ with_bytes m (overlaid f a over)
memory_filled-with_bytes m old f a over is held =
    memory_filled-held old a over held ∙ changed-with_bytes m old f (λ b. overlaid b a over) is (overlaid-agree (byte_at old) f a over)

pub held_number-with_bytes : (m old : Memory) (f : ℕ → ℕ) (a k : ℕ) → old ≡ with_bytes m f → holds (ranges old) a k ≡ true
    → held_number old a k ≡ Some (little_endian f a k)
held_number-with_bytes m old f a k is held =
    held_number-held old a k held
    ∙ ap Some (little_endian-agree (byte_at old) f a k (λ x from to.
    let there : holds (ranges old) x 1 ≡ true = holds-within (ranges old) a k x 1 held from (omega arith) in
    let first : holds (ranges m) x 1 ≡ true = sym (holds-with_bytes m f x 1) ∙ (ap (λ n. holds (ranges n) x 1) (sym is) ∙ there) in
    ap (λ n. byte_at n x) is ∙ byte_at-with_bytes m f x first))
