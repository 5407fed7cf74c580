-- The smallest index, by its relation and as a function.
use Rattle.std.proofs.Common.{◌≡◌, ℕ, ◌+◌, ◌-◌, ◌^◌, ◌<◌, ◌≤◌, zero, suc, Option, Some, None, Bool, true, false, refl, ap, arith, nat_lt}
use Rattle.std.proofs.Common.{nat_le, inl, inr, IfSome, IfNone, ◌&&◌}
use Rattle.std.proofs.lemmas.Bool.Decides.{nat_tests}
use Rattle.std.proofs.lemmas.Bool.{cases_Bool, cases_lt}
use Rattle.natural_index.specs.declared.Index.{Index}
use Rattle.natural_index.specs.Index.{HasRoom, IsIndex, natural_bits}
use Rattle.asm_text.specs.Indexes.{has_room, least_tag, smallest_of}
use Rattle.ebc_base.proofs.Truth.{three_true}

room_true : (bits t n c : ℕ) → HasRoom bits t n c → has_room bits t n c ≡ true
room_true bits t n c h =
    let split = h.split in
    let units = h.units in
    let bytes = h.bytes in
    let a : nat_le (natural_bits bits t) (bits - 4) ≡ true = grind (arith, nat_tests) in
    let b : nat_lt n (2 ^ natural_bits bits t) ≡ true = grind (arith, nat_tests) in
    let d : nat_lt c (2 ^ (bits - 4 - natural_bits bits t)) ≡ true = grind (arith, nat_tests) in
    rw (a, b, d) refl

pub room_from : (bits t n c : ℕ) → t < 8 → has_room bits t n c ≡ true → HasRoom bits t n c
room_from bits t n c tag h =
    let p = three_true (nat_le (natural_bits bits t) (bits - 4)) (nat_lt n (2 ^ natural_bits bits t))
    (nat_lt c (2 ^ (bits - 4 - natural_bits bits t))) h in
    let p0 : nat_le (natural_bits bits t) (bits - 4) ≡ true = p.0 in
    let p1 : nat_lt n (2 ^ natural_bits bits t) ≡ true = p.1 in
    let p2 : nat_lt c (2 ^ (bits - 4 - natural_bits bits t)) ≡ true = p.2 in
    record { tag = tag; split = grind (arith, nat_tests); units = grind (arith, nat_tests); bytes = grind (arith, nat_tests) }

room_false : (bits t n c : ℕ) → t < 8 → ¬ HasRoom bits t n c → has_room bits t n c ≡ false
room_false bits t n c tag none = elim (cases_Bool (has_room bits t n c)) [
  | inl has ↦ absurd (none (room_from bits t n c tag has))
  | inr no_ ↦ no_
]

least_some : (k t u bits n c : ℕ) → t ≤ u → u < t + k → t + k ≤ 8 → HasRoom bits u n c → ((v : ℕ) → v < u → ¬ HasRoom bits v n c)
    → least_tag k t bits n c ≡ Some u
unfolding least_tag
least_some zero t u bits n c low high most room before = absurd (omega arith)
least_some (suc k) t u bits n c low high most room before = elim (cases_lt t u) [
  | inl more ↦ rw (room_false bits t n c (omega arith) (before t more))
      (least_some k (t + 1) u bits n c (omega arith) (omega arith) (omega arith) room before)
  | inr here ↦
      let same : t ≡ u = omega arith in
      rw (same, room_true bits u n c room) refl
]

least_none : (k t bits n c : ℕ) → t + k ≤ 8 → ((v : ℕ) → ¬ HasRoom bits v n c) → least_tag k t bits n c ≡ None
unfolding least_tag
least_none zero t bits n c most none = refl
least_none (suc k) t bits n c most none = rw (room_false bits t n c (omega arith) (none t))
    (least_none k (t + 1) bits n c (omega arith) none)

pub smallest_is : (bits : ℕ) (neg : Bool) (n c : ℕ) (r : Option Index)
    → IfSome r (IsIndex bits)
    → IfSome r (λ i. i ≡ record { neg = neg; tag = i.tag; units = n; bytes = c })
    → IfSome r (λ i. (t : ℕ) → t < i.tag → ¬ HasRoom bits t n c)
    → IfNone r ((t : ℕ) → ¬ HasRoom bits t n c)
    → r ≡ smallest_of bits neg n c
unfolding smallest_of
smallest_is bits neg n c None fits numbers least none = rw (least_none 8 0 bits n c (omega arith) none) refl
smallest_is bits neg n c (Some i) fits numbers least none =
    let units : i.units ≡ n = ap (λ (j : Index). j.units) numbers in
    let bytes : i.bytes ≡ c = ap (λ (j : Index). j.bytes) numbers in
    let room : HasRoom bits i.tag n c = rw (← units, ← bytes) fits in
    rw (least_some 8 0 i.tag bits n c (omega arith) (omega (arith, room.tag)) (omega arith) room least) (ap Some numbers)
