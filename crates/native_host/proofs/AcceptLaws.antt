-- Laws of a call that is accepted: what it makes comes next, lies at its bases, and is there afterwards.
use Rattle.native_host.proofs.Common.{◌≡◌, ℕ, zero, suc, ◌+◌, ◌^◌, ◌<◌, ◌≤◌, List, [], ◌∷◌, ◌++◌, length, map, take, drop, Option, Some}
use Rattle.native_host.proofs.Common.{None, slice_get, refl, sym, ap, ◌∙◌, subst, arith, add-one, vec_capacity, flat_map, option_map_or}
use Rattle.native_host.proofs.Common.{append-nil, append_assoc, length-append, map-append, none-some, same_Some, IsWidth, Memory, ranges}
use Rattle.native_host.proofs.Common.{Concrete, IsNotes, Notes, Signature, Script, ScriptCall, signature_params, with_objects, made_objects}
use Rattle.native_host.proofs.Common.{objects_of, placed_objects, script_object, static_object, Placement, image_range, native_range}
use Rattle.native_host.proofs.Common.{own_placement, placed_ranges, script_ranges, stack_range, IsScript, all_made, World, with_memory}
use Rattle.native_host.proofs.Common.{host_world, IsOf, placement_of, AreComing, Host, Places}
use Rattle.native_host.specs.Hosts.{HasStack, IsMemoryOf, IsServing}
use Rattle.native_host.proofs.{ComingLaws.bytes_some, ComingLaws.next_coming, ComingLaws.next_ranges, StartLaws.all_placed}
use Rattle.native_host.proofs.StartLaws.{made_count, objects_few}

-- ---- what a call makes

taken-more : (cs : List ScriptCall) (e : ℕ) (c : ScriptCall) → slice_get cs e ≡ Some c
    → flat_map objects_of (take (suc e) cs) ≡ flat_map objects_of (take e cs) ++ c.make
taken-more [] e c g = absurd (none-some c g)
taken-more (x ∷ cs) zero c g = append-nil x.make ∙ ap objects_of (same_Some x c g)
taken-more (x ∷ cs) (suc e) c g =
    ap (λ os. x.make ++ os) (taken-more cs e c g) ∙ sym (append_assoc x.make (flat_map objects_of (take e cs)) c.make)

calls-split : (cs : List ScriptCall) (e : ℕ) (c : ScriptCall) → slice_get cs e ≡ Some c
    → flat_map objects_of cs ≡ flat_map objects_of (take e cs) ++ (c.make ++ flat_map objects_of (drop (suc e) cs))
calls-split [] e c g = absurd (none-some c g)
calls-split (x ∷ cs) zero c g = ap (λ (y : ScriptCall). y.make ++ flat_map objects_of cs) (same_Some x c g)
calls-split (x ∷ cs) (suc e) c g =
    ap (λ os. x.make ++ os) (calls-split cs e c g)
    ∙ sym (append_assoc x.make (flat_map objects_of (take e cs)) (c.make ++ flat_map objects_of (drop (suc e) cs)))

module _ (script : Script) (e : ℕ) (c : ScriptCall) (there : slice_get script.call e ≡ Some c) where
  placed-more : placed_objects script (e + 1) ≡ placed_objects script e ++ c.make
  unfolding placed_objects
  placed-more =
      ap (λ k. script.object ++ flat_map objects_of (take k script.call)) (add-one e)
      ∙ (ap (λ os. script.object ++ os) (taken-more script.call e c there)
      ∙ sym (append_assoc script.object (flat_map objects_of (take e script.call)) c.make))

  placed-split : placed_objects script (length script.call)
      ≡ placed_objects script e ++ (c.make ++ flat_map objects_of (drop (suc e) script.call))
  unfolding placed_objects
  placed-split =
      all_placed script
      ∙ (ap (λ os. script.object ++ os) (calls-split script.call e c there)
      ∙ sym (append_assoc script.object (flat_map objects_of (take e script.call))
      (c.make ++ flat_map objects_of (drop (suc e) script.call))))

  made-more : (notes : Notes) → made_objects notes script (e + 1) ≡ made_objects notes script e ++ map script_object c.make
  unfolding made_objects
  made-more notes =
      ap (λ os. map static_object notes.statics ++ map script_object os) placed-more
      ∙ (ap (λ os. map static_object notes.statics ++ os) (map-append script_object (placed_objects script e) c.make)
      ∙ sym (append_assoc (map static_object notes.statics) (map script_object (placed_objects script e)) (map script_object c.make)))

  -- there is room for what it makes, and there are few objects
  pub made-within : (notes : Notes) → length (made_objects notes script e) + length c.make ≤ length (all_made notes script)
  made-within notes =
      let here = made_count notes script e in
      let all = made_count notes script (length script.call) in
      let both = ap length placed-split
      ∙ length-append (placed_objects script e) (c.make ++ flat_map objects_of (drop (suc e) script.call)) in
      let last = length-append c.make (flat_map objects_of (drop (suc e) script.call)) in
      omega (arith, here, all, both, last)

  pub made-few : (notes : Notes) → IsNotes notes → IsScript notes script
      → length (made_objects notes script e) + length c.make < 2 ^ 63
  made-few notes read scripted =
      let within = made-within notes in
      let all = made_count notes script (length script.call) in
      let statics = read.few.statics in
      let objects = objects_few notes script scripted in
      omega (arith, within, all, statics, objects)

-- a signature has few parameters
pub params-few : (notes : Notes) (g : ℕ) → IsNotes notes → length (signature_params notes g) ≤ 16
params-few notes g read = go (slice_get notes.signature g) refl
  where
    go : (o : Option Signature) → slice_get notes.signature g ≡ o
        → length (option_map_or (λ (s : Signature). s.params) o []) ≤ 16
    go None is = omega arith
    go (Some s) is = (read.signatures g s is).few

-- ---- it comes next

-- the stack is the second thing that is placed
pub stack-there : (w : ℕ) (world : World) (P : Placement) (e : ℕ) (m : Memory) → IsMemoryOf w world P e m → HasStack w world.notes P m
unfolding placed_ranges
stack-there w world P e m is = ap (λ rs. slice_get rs 1) is.objects

module _ (w : ℕ) (world : World) (P : Placement) (m : Memory) (e : ℕ) (c : ScriptCall) (own : P ≡ own_placement w world)
    (there : slice_get world.script.call e ≡ Some c) (is : IsMemoryOf w world P e m) where
  lies : ranges m ≡ native_range world.notes P ∷ stack_range w world.notes P ∷ image_range world P
      ∷ script_ranges w world.notes (placed_objects world.script e) P.objects
  unfolding placed_ranges
  lies = is.objects

  pub call_coming : IsWidth w → IsScript world.notes world.script
      → AreComing w world.notes P (length (made_objects world.notes world.script e)) m c.make
  call_coming width script =
      subst (λ n. AreComing w world.notes P n m c.make) (sym (made_count world.notes world.script e))
      (next_coming w world P m (placed_objects world.script e) c.make (flat_map objects_of (drop (suc e) world.script.call)) own
      (placed-split world.script e c there) lies width script is.bytes is.count
      (λ k o g. bytes_some w world.notes (all_made world.notes world.script) (length (made_objects world.notes world.script e) + k) o width
      ((script.calls e c there).make k o g)))

  -- the ranges once it is placed
  pub call_ranges : (s : Concrete) → (with_objects w world.notes P (length (made_objects world.notes world.script e))
      (map script_object c.make) (with_memory s m)).objects ≡ placed_ranges w world P (e + 1)
  unfolding placed_ranges
  call_ranges s =
      ap (λ n. (with_objects w world.notes P n (map script_object c.make) (with_memory s m)).objects)
      (made_count world.notes world.script e)
      ∙ (next_ranges w world P m (placed_objects world.script e) c.make (flat_map objects_of (drop (suc e) world.script.call)) own
      (placed-split world.script e c there) lies s
      ∙ ap (λ zs. native_range world.notes P ∷ stack_range w world.notes P ∷ image_range world P
      ∷ script_ranges w world.notes zs P.objects) (sym (placed-more world.script e c there)))

-- ---- the host once it has accepted a call

module _ (w : ℕ) (notes : Notes) (script : Script) (h k : Host w) (c : ScriptCall) (serves : IsServing w notes script h)
    (there : slice_get script.call h.entries ≡ Some c) (places : k.places ≡ h.places) (entries : k.entries ≡ h.entries + 1) where
  world-same : host_world notes script k ≡ host_world notes script h
  world-same = ap (λ (p : Places). record { notes = notes; script = script; image_size = p.image_size }) places

  pub serving-accepted : k.made.items ≡ h.made.items ++ map script_object c.make → vec_capacity h.made ≤ vec_capacity k.made
      → IsServing w notes script k
  serving-accepted made grown =
      let reserved = serves.reserved in
      record {
        read = serves.read;
        scripted = serves.scripted;
        host = record {
          placement = ap placement_of places ∙ (serves.host.placement ∙ ap (own_placement w) (sym world-same));
          size = refl;
          notes = subst (IsOf w notes) (sym places) serves.host.notes;
          made = made ∙ (ap (λ ts. ts ++ map script_object c.make) serves.host.made
              ∙ (sym (made-more script h.entries c there notes) ∙ ap (made_objects notes script) (sym entries)));
        };
        reserved = omega (arith, reserved, grown);
      }

pub memory-accepted : (w : ℕ) (notes : Notes) (script : Script) (h : Host w) (p : Places) (e : ℕ) (m n : Memory) → p ≡ h.places
    → e ≡ h.entries + 1
    → IsMemoryOf w (host_world notes script h) (placement_of h.places) h.entries m
    → ranges n ≡ placed_ranges w (host_world notes script h) (placement_of h.places) (h.entries + 1)
    → n.byte_limit ≡ m.byte_limit → n.object_limit ≡ m.object_limit
    → IsMemoryOf w (record { notes = notes; script = script; image_size = p.image_size }) (placement_of p) e n
memory-accepted w notes script h p e m n places entries is lie bytes count =
    subst (λ x. IsMemoryOf w (record { notes = notes; script = script; image_size = p.image_size }) (placement_of p) x n) (sym entries)
    (subst (λ (q : Places). IsMemoryOf w (record { notes = notes; script = script; image_size = q.image_size }) (placement_of q)
    (h.entries + 1) n) (sym places)
    (record { objects = lie; bytes = bytes ∙ is.bytes; count = count ∙ is.count }))
