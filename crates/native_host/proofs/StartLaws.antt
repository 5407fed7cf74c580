-- Laws of the start: what is counted over a script and notes, and what all that is placed takes.
use Rattle.native_host.proofs.Common.{◌≡◌, ℕ, zero, suc, ◌+◌, ◌*◌, ◌^◌, ◌<◌, ◌≤◌, true, List, [], ◌∷◌, ◌++◌, length, map, take, Some, None}
use Rattle.native_host.proofs.Common.{refl, sym, ap, ap₂, ◌∙◌, subst, arith, le_refl, nat_le, nat_eq, slice_get, if◌then◌else◌, Option}
use Rattle.native_host.proofs.Common.{none-some, same_Some, flat_map, sum_by, and_parts, append-nil, length-append, sum_by-cons, mul-le}
use Rattle.native_host.proofs.Common.{IsWidth, by_width, Range, first_base, padded, IsNotes, size_at, FnNote, Notes, Param, Script}
use Rattle.native_host.proofs.Common.{ScriptCall, ScriptObject, made_objects, objects_of, placed_objects, script_object, shape_of}
use Rattle.native_host.proofs.Common.{static_object, all_ranges, area_bytes, bases_from, frame_bytes, most_bytes, object_bytes}
use Rattle.native_host.proofs.Common.{own_placement, params_bytes, placed_ranges, script_ranges, slot_bytes, stack_bytes, World, IsScript}
use Rattle.native_host.proofs.Common.{callbacks_of, all_events, bases_in, bases_made, rest_events, rest_made, room_in, rooms_in, rooms_made}
use Rattle.std.proofs.{Common.◌||◌, lemmas.Bool.eq-eqb, lemmas.Bool.leb-true, lemmas.List.nil_from_length}
use Rattle.ebc_base.proofs.Lists.{length-map, take-all, within_some}
use Rattle.note_types.specs.Records.{CanBeEntered}
use Rattle.note_types.specs.declared.cell.SlotKind.TheVariants.{N, Q, D}
use Rattle.host_model.specs.{Placements.pair_at, Scripts.have_room, Scripts.room_of}
use Rattle.native_host.proofs.KeptLaws.{index-sizes}

-- ---- counts over a script

made-calls : (cs : List ScriptCall) → length (flat_map objects_of cs) ≡ rest_made cs
unfolding rest_made
made-calls [] = refl
made-calls (c ∷ cs) = length-append c.make (flat_map objects_of cs) ∙ ap (λ n. length c.make + n) (made-calls cs)

pub all_rest_made : (script : Script) → length script.object + rest_made script.call ≡ length (placed_objects script (length script.call))
unfolding placed_objects
all_rest_made script =
    ap (λ n. length script.object + n) (sym (made-calls script.call))
    ∙ (sym (length-append script.object (flat_map objects_of script.call))
    ∙ ap (λ cs. length (script.object ++ flat_map objects_of cs)) (sym (take-all script.call)))

events-calls : (cs : List ScriptCall) → rest_events cs ≡ 2 * length cs + 2 * sum_by callbacks_of cs
unfolding rest_events
events-calls [] = refl
events-calls (c ∷ cs) =
    let rest = events-calls cs in
    let sum = sum_by-cons callbacks_of c cs in
    omega (arith, rest, sum)

pub all_rest_events : (script : Script) → 1 + 2 * length script.notify + rest_events script.call ≡ all_events script
all_rest_events script = let calls = events-calls script.call in omega (arith, calls)

-- ---- the stack

slot_small : (w : ℕ) (p : Param) → IsWidth w → slot_bytes w p.kind ≤ 8
slot_small w p h = by_width (λ v. slot_bytes v p.kind ≤ 8) w h (at 4 p.kind (omega arith)) (at 8 p.kind (omega arith)) where
  at : (v : ℕ) (k : _) → v ≤ 8 → slot_bytes v k ≤ 8
  at v N l = l
  at v Q l = omega arith
  at v D l = omega arith

pub params_small : (w : ℕ) (ps : List Param) → IsWidth w → params_bytes w ps ≤ 8 * length ps
params_small w [] h = le_refl 0
params_small w (p ∷ ps) h =
    let one = slot_small w p h in
    let rest = params_small w ps h in
    omega (arith, one, rest)

pair_small : (w : ℕ) (f : FnNote) → IsWidth w → pair_at w f.need ≤ 8 * f.need.n + f.need.c
pair_small w f h =
    let n : ℕ = f.need.n in
    let c : ℕ = f.need.c in
    by_width (λ v. n * v + c ≤ 8 * n + c) w h (omega arith) (omega arith)

pub frame_small : (w : ℕ) (f : FnNote) → IsWidth w → CanBeEntered f → 9 * frame_bytes w f ≤ 2 ^ 20
frame_small w f h c =
    let params = params_small w f.params h in
    let pair = pair_small w f h in
    let stack = c.stack in
    omega (arith, params, pair, stack)

-- the functions that the firmware enters can be entered: those that are marked so, and the entry function
pub is_entered : (notes : Notes) (k : ℕ) (f : FnNote) → IsNotes notes → slice_get notes.function k ≡ Some f → f.enter ≡ true
    → CanBeEntered f
is_entered notes k f h g e = (h.functions k f g).entered e

same_some : {A : Type 0} (o : Option A) (x y : A) → o ≡ Some x → o ≡ Some y → x ≡ y
same_some None x y p q = absurd (none-some x p)
same_some (Some z) x y p q = same_Some x y (sym p ∙ q)

pub is_entry : (notes : Notes) (k : ℕ) (f : FnNote) → IsNotes notes → slice_get notes.function k ≡ Some f → k ≡ notes.entry → CanBeEntered f
is_entry notes k f h g e =
    let there : slice_get notes.function k ≡ Some h.entry.0 = ap (slice_get notes.function) e ∙ h.entry.1 in
    subst CanBeEntered (same_some (slice_get notes.function k) h.entry.0 f there g) h.entry.2

-- the most that a function takes is at least what one takes
most_least : (w entry i k : ℕ) (fs : List FnNote) (f : FnNote) → slice_get fs k ≡ Some f → i + k ≡ entry
    → frame_bytes w f ≤ most_bytes w entry i fs
unfolding most_bytes
most_least w entry i k [] f g e = absurd (none-some f g)
most_least w entry i zero (x ∷ fs) f g e =
    let same : x ≡ f = same_Some x f g in
    let here : nat_eq i entry ≡ true = eq-eqb i entry (omega (arith, e)) in
    let is : (if nat_eq i entry || x.enter then frame_bytes w x else 0) ≡ frame_bytes w f =
    ap (λ b. if b || x.enter then frame_bytes w x else 0) here ∙ ap (frame_bytes w) same in
    omega (arith, is)
most_least w entry i (suc k) (x ∷ fs) f g e =
    let rest = most_least w entry (i + 1) k fs f g (omega (arith, e)) in
    omega (arith, rest)

-- the stack has some bytes
pub stack_some : (w : ℕ) (notes : Notes) → IsNotes notes → 1 ≤ stack_bytes w notes
stack_some w notes h =
    let least = most_least w notes.entry 0 notes.entry notes.function h.entry.0 h.entry.1 (omega arith) in
    omega (arith, least)

-- ---- where objects lie, by the sizes of the shapes alone

pub rooms_append : (sizes : List ℕ) (xs ys : List ScriptObject) → rooms_in sizes (xs ++ ys) ≡ rooms_in sizes xs + rooms_in sizes ys
unfolding rooms_in
rooms_append sizes [] ys = omega arith
rooms_append sizes (x ∷ xs) ys = let rest = rooms_append sizes xs ys in omega (arith, rest)

bases_append : (sizes : List ℕ) (b : ℕ) (xs ys : List ScriptObject)
    → bases_in sizes b (xs ++ ys) ≡ bases_in sizes b xs ++ bases_in sizes (b + rooms_in sizes xs) ys
unfolding rooms_in bases_in
bases_append sizes b [] ys = ap (λ a. bases_in sizes a ys) (let e : b ≡ b + 0 = omega arith in e)
bases_append sizes b (x ∷ xs) ys =
    let e : b + room_in sizes x + rooms_in sizes xs ≡ b + (room_in sizes x + rooms_in sizes xs) = omega arith in
    ap (λ zs. b ∷ zs) (bases_append sizes (b + room_in sizes x) xs ys
    ∙ ap (λ a. bases_in sizes (b + room_in sizes x) xs ++ bases_in sizes a ys) e)

rooms_calls : (sizes : List ℕ) (cs : List ScriptCall) → rooms_in sizes (flat_map objects_of cs) ≡ rooms_made sizes cs
unfolding rooms_in rooms_made
rooms_calls sizes [] = refl
rooms_calls sizes (c ∷ cs) =
    rooms_append sizes c.make (flat_map objects_of cs) ∙ ap (λ n. rooms_in sizes c.make + n) (rooms_calls sizes cs)

bases_calls : (sizes : List ℕ) (b : ℕ) (cs : List ScriptCall) → bases_in sizes b (flat_map objects_of cs) ≡ bases_made sizes b cs
unfolding bases_in bases_made
bases_calls sizes b [] = refl
bases_calls sizes b (c ∷ cs) =
    bases_append sizes b c.make (flat_map objects_of cs)
    ∙ ap (λ zs. bases_in sizes b c.make ++ zs) (bases_calls sizes (b + rooms_in sizes c.make) cs)

pub all_placed : (script : Script) → placed_objects script (length script.call) ≡ script.object ++ flat_map objects_of script.call
unfolding placed_objects
all_placed script = ap (λ cs. script.object ++ flat_map objects_of cs) (take-all script.call)

pub all_rooms : (sizes : List ℕ) (script : Script)
    → rooms_in sizes (placed_objects script (length script.call)) ≡ rooms_in sizes script.object + rooms_made sizes script.call
all_rooms sizes script =
    ap (rooms_in sizes) (all_placed script) ∙ (rooms_append sizes script.object (flat_map objects_of script.call)
    ∙ ap (λ n. rooms_in sizes script.object + n) (rooms_calls sizes script.call))

pub all_bases : (sizes : List ℕ) (b : ℕ) (script : Script) → bases_in sizes b (placed_objects script (length script.call))
    ≡ bases_in sizes b script.object ++ bases_made sizes (b + rooms_in sizes script.object) script.call
all_bases sizes b script =
    ap (bases_in sizes b) (all_placed script) ∙ (bases_append sizes b script.object (flat_map objects_of script.call)
    ∙ ap (λ zs. bases_in sizes b script.object ++ zs) (bases_calls sizes (b + rooms_in sizes script.object) script.call))

-- ---- by the sizes that notes give

-- the sizes that notes give
abbrev pub sizes : ℕ → Notes → List ℕ
sizes w notes = map (size_at w) notes.shape

pub room_same : (w : ℕ) (notes : Notes) (o : ScriptObject) → room_in (sizes w notes) o ≡ padded (object_bytes w notes (script_object o))
room_same w notes o = ap (λ n. padded (o.count * n)) (index-sizes w notes.shape o.shape)

pub bases_same : (w : ℕ) (notes : Notes) (b : ℕ) (os : List ScriptObject) → bases_in (sizes w notes) b os ≡ bases_from w notes b os
unfolding bases_in bases_from
bases_same w notes b [] = refl
bases_same w notes b (o ∷ os) =
    ap (λ zs. b ∷ zs) (ap (λ n. bases_in (sizes w notes) (b + n) os) (room_same w notes o)
    ∙ bases_same w notes (b + padded (object_bytes w notes (script_object o))) os)

-- at either width an object takes no more than at width 8
bytes_grow : (w : ℕ) (notes : Notes) (o : ScriptObject) → IsWidth w
    → object_bytes w notes (script_object o) ≤ object_bytes 8 notes (script_object o)
bytes_grow w notes o h =
    let n : ℕ = (shape_of notes o.shape).n in
    let c : ℕ = (shape_of notes o.shape).c in
    by_width (λ v. o.count * (n * v + c) ≤ o.count * (n * 8 + c)) w h
    (mul-le o.count (n * 4 + c) o.count (n * 8 + c) (le_refl o.count) (omega arith)) (le_refl (o.count * (n * 8 + c)))

rooms_grow : (w : ℕ) (notes : Notes) (os : List ScriptObject) → IsWidth w → rooms_in (sizes w notes) os ≤ sum_by (room_of notes) os
unfolding rooms_in
rooms_grow w notes [] h = le_refl 0
rooms_grow w notes (o ∷ os) h =
    let rest = rooms_grow w notes os h in
    let same = room_same w notes o in
    let grown = bytes_grow w notes o h in
    let sum = sum_by-cons (room_of notes) o os in
    omega (arith, rest, same, grown, sum)

-- ---- what the objects of a script take

module _ (notes : Notes) (script : Script) (h : IsScript notes script) where
  abbrev Few : List ScriptObject → Type 0
  Few os = (sum_by (room_of notes) os ≤ 2 ^ 23) × (length os ≤ 4096)

  few : (os : List ScriptObject) → have_room notes os ≡ true → Few os
  few os e =
      let parts = and_parts (nat_le (sum_by (room_of notes) os) (2 ^ 23)) (nat_le (length os) 4096) e in
      (leb-true (sum_by (room_of notes) os) (2 ^ 23) parts.0, leb-true (length os) 4096 parts.1)

  -- those at the start: the limit is tried at the last one
  start_few : (n : ℕ) → length script.object ≡ n → Few script.object
  start_few zero e = subst Few (sym (nil_from_length script.object e)) (leb-true 0 (2 ^ 23) refl, leb-true 0 4096 refl)
  start_few (suc n) e =
      let s = within_some script.object n (omega (arith, e)) in
      let all : have_room notes (take (length script.object) script.object) ≡ true =
      subst (λ k. have_room notes (take k script.object) ≡ true) (let m : n + 1 ≡ length script.object = omega (arith, e) in m)
      (h.room n s.0 s.1) in
      few script.object (subst (λ os. have_room notes os ≡ true) (take-all script.object) all)

  -- and all: the limit is tried at the last call, or at the last object where there is no call
  few_after : (n : ℕ) → length script.call ≡ n → Few (placed_objects script n)
  unfolding placed_objects
  few_after zero e = subst Few (sym (append-nil script.object)) (start_few (length script.object) refl)
  few_after (suc n) e =
      let s = within_some script.call n (omega (arith, e)) in
      subst (λ k. Few (placed_objects script k)) (let m : n + 1 ≡ suc n = omega arith in m)
      (few (placed_objects script (n + 1)) (h.calls n s.0 s.1).room)

  pub all_few : Few (placed_objects script (length script.call))
  all_few = few_after (length script.call) refl

  pub objects_few : length (placed_objects script (length script.call)) ≤ 4096
  objects_few = all_few.1

  -- there are few calls, with few callbacks: the limits are tried at the last one
  calls_few : (n : ℕ) → length script.call ≡ n → (length script.call ≤ 16384) × (sum_by callbacks_of script.call ≤ 16384)
  calls_few zero e = (
    omega (arith, e),
    subst (λ cs. sum_by callbacks_of cs ≤ 16384) (sym (nil_from_length script.call e)) (leb-true 0 16384 refl),
  )
  calls_few (suc n) e =
      let s = within_some script.call n (omega (arith, e)) in
      let count = (h.calls n s.0 s.1).few in
      let all : n + 1 ≡ length script.call = omega (arith, e) in (
        omega (arith, e, count),
        subst (λ cs. sum_by callbacks_of cs ≤ 16384) (ap (λ k. take k script.call) all ∙ take-all script.call)
            (h.calls n s.0 s.1).callbacks,
      )

  pub events_few : all_events script < 2 ^ 32
  events_few =
      let calls = calls_few (length script.call) refl in
      let count = calls.0 in
      let callbacks = calls.1 in
      let notify = h.notify.few in
      omega (arith, count, callbacks, notify)

  pub rooms_small : (w : ℕ) → IsWidth w → rooms_in (sizes w notes) (placed_objects script (length script.call)) ≤ 2 ^ 23
  rooms_small w width =
      let grown = rooms_grow w notes (placed_objects script (length script.call)) width in
      let all = all_few.0 in
      omega (arith, grown, all)

-- ---- what all that is placed takes

abbrev size_of : Range → ℕ
size_of r = padded r.size

pub ranges_sum : (w : ℕ) (notes : Notes) (b : ℕ) (os : List ScriptObject)
    → sum_by size_of (script_ranges w notes os (bases_from w notes b os)) ≡ rooms_in (sizes w notes) os
unfolding script_ranges bases_from rooms_in
ranges_sum w notes b [] = refl
ranges_sum w notes b (o ∷ os) =
    let n : ℕ = object_bytes w notes (script_object o) in
    let rest = ranges_sum w notes (b + padded n) os in
    let same = room_same w notes o in
    let sum = sum_by-cons size_of (record { base = b; size = n }) (script_ranges w notes os (bases_from w notes (b + padded n) os)) in
    omega (arith, rest, same, sum)

pub all_sum : (w : ℕ) (world : World) → sum_by (λ (r : Range). padded r.size) (all_ranges w world (own_placement w world))
    ≡ padded (area_bytes world.notes) + padded (stack_bytes w world.notes) + padded world.image_size
    + rooms_in (sizes w world.notes) (placed_objects world.script (length world.script.call))
unfolding placed_ranges own_placement
all_sum w world =
    let os : List ScriptObject = placed_objects world.script (length world.script.call) in
    let a : ℕ = first_base w in
    let s : ℕ = a + padded (area_bytes world.notes) in
    let i : ℕ = s + padded (stack_bytes w world.notes) in
    let b : ℕ = i + padded world.image_size in
    let rs : List Range = script_ranges w world.notes os (bases_from w world.notes b os) in
    let r0 : Range = record { base = a; size = area_bytes world.notes } in
    let r1 : Range = record { base = s; size = stack_bytes w world.notes } in
    let r2 : Range = record { base = i; size = world.image_size } in
    let rest = ranges_sum w world.notes b os in
    let sum2 = sum_by-cons size_of r2 rs in
    let sum1 = sum_by-cons size_of r1 (r2 ∷ rs) in
    let sum0 = sum_by-cons size_of r0 (r1 ∷ r2 ∷ rs) in
    omega (arith, rest, sum2, sum1, sum0)

-- ---- and how many things there are

pub made_count : (notes : Notes) (script : Script) (accepted : ℕ)
    → length (made_objects notes script accepted) ≡ length notes.statics + length (placed_objects script accepted)
unfolding made_objects
made_count notes script accepted =
    let os : List ScriptObject = placed_objects script accepted in
    length-append (map static_object notes.statics) (map script_object os)
    ∙ ap₂ (λ a b. a + b) (length-map static_object notes.statics) (length-map script_object os)

pub ranges-count : (w : ℕ) (notes : Notes) (b : ℕ) (os : List ScriptObject)
    → length (script_ranges w notes os (bases_from w notes b os)) ≡ length os
unfolding script_ranges bases_from
ranges-count w notes b [] = refl
ranges-count w notes b (o ∷ os) = ap suc (ranges-count w notes (b + padded (object_bytes w notes (script_object o))) os)

pub all_count : (w : ℕ) (world : World)
    → length (all_ranges w world (own_placement w world)) ≡ length (placed_objects world.script (length world.script.call)) + 3
unfolding placed_ranges own_placement
all_count w world =
    let n = ranges-count w world.notes (first_base w + padded (area_bytes world.notes) + padded (stack_bytes w world.notes)
    + padded world.image_size) (placed_objects world.script (length world.script.call)) in
    omega (arith, n)
