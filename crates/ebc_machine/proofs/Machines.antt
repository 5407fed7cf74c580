-- A machine and its memory are a state that a machine can be in.
use Rattle.std.proofs.Common.{◌≡◌, ℕ, ◌+◌, ◌^◌, ◌*◌, ◌<◌, ◌≤◌, inl, List, Option, Some, None, map, refl, sym, subst, subst₂, ◌∙◌, arith}
use Rattle.std.specs.Prelude.{slice_get}
use Rattle.std.specs.Option.{option_map}
use Rattle.std.proofs.lemmas.Option.{same_Some, slice_get_within, get_or_from_slice_get, slice_get-map}
use Rattle.ebc_width.specs.Ranges.{Range}
use Rattle.object_memory.specs.Memory.{Object, range_of, first_base, next_base, padded, IsPlaced, LiesBelow}
use Rattle.object_memory.proofs.Laws.{byte_at-none, element}
use Rattle.note_types.specs.Concrete.{AreDisjoint}
use Rattle.ebc_machine.specs.Laws.{MachineIsConcrete}

-- the object that lies at a range of the list
object_of : (os : List Object) (k : ℕ) (r : Range) → slice_get (map range_of os) k ≡ Some r → (o : Object) × (slice_get os k ≡ Some o)
    × (range_of o ≡ r)
object_of os k r at = either (slice_get os k) refl (sym (slice_get-map range_of os k) ∙ at)
  where
    either : (found : Option Object) → slice_get os k ≡ found → option_map range_of found ≡ Some r → (o : Object)
        × (slice_get os k ≡ Some o) × (range_of o ≡ r)
    either None is e = absurd (cc)
    either (Some o) is e = (o, is, same_Some (range_of o) r e)

first_some : (w : ℕ) → 1 ≤ first_base w
first_some w = grind arith

pub machine_is_concrete : MachineIsConcrete
machine_is_concrete w c m memory machine = record {
  width = memory.width;
  eight = machine.eight;
  registers = machine.registers;
  ip = machine.ip;
  gate = machine.gate;
  flags = machine.flags;
  bytes = memory.bytes;
  zeros = λ x none. byte_at-none m x none;
  inside = λ k r at.
      let found = object_of m.objects k r at in
      subst (λ (q : Range). (1 ≤ q.base) × (q.base + q.size ≤ 2 ^ (8 * w))) found.2
      (within found.0 (element (IsPlaced w m) m.objects k found.0 memory.placed found.1));
  apart = λ j k r q less at to.
      let one = object_of m.objects j r at in
      let two = object_of m.objects k q to in
      subst (λ (a : Range). AreDisjoint a q) one.2 (subst (λ (b : Range). AreDisjoint (range_of one.0) b) two.2
      (inl (ends_before j k one.0 two.0 less one.1 two.1)));
}
  where
    within : (o : Object) → IsPlaced w m o → (1 ≤ o.base) × (o.base + o.size ≤ 2 ^ (8 * w))
    within o placed =
        let some = first_some w in
        let above : first_base w ≤ o.base = placed.above in
        let below : o.base + padded o.size ≤ next_base w m = placed.below in
        let kept = memory.bytes_kept in
        let limit = memory.no_wrap in
        (omega arith, omega arith)

    ends_before : (j k : ℕ) (o p : Object) → j < k → slice_get m.objects j ≡ Some o → slice_get m.objects k ≡ Some p
        → o.base + o.size ≤ p.base
    ends_before j k o p less at to =
        let first = get_or_from_slice_get m.objects j o o at in
        let second = get_or_from_slice_get m.objects k p o to in
        let below : LiesBelow o p = subst₂ LiesBelow first second (memory.apart j k o less (slice_get_within m.objects k p to)) in
        omega arith
