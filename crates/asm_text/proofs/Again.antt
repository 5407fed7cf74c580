-- Indexes that are written are read again.
use Rattle.std.proofs.Common.{◌≡◌, ℕ, ◌*◌, ◌/◌, ◌^◌, ◌<◌, ◌≤◌, [], ◌∷◌, ◌++◌, zero, suc, Option, Some, None, Bool, true, false, ◌==◌, refl}
use Rattle.std.proofs.Common.{arith, option_map, inl, inr, Ok}
use Rattle.std.proofs.lemmas.Bool.Decides.{nat_tests}
use Rattle.std.proofs.lemmas.Bool.{cases_Bool, and_parts}
use Rattle.std.specs.Fmt.{decimal}
use Rattle.natural_index.specs.declared.Index.{Index}
use Rattle.natural_index.specs.Index.{IsIndexSize, IsIndex, natural_bits, raw_of, index_of}
use Rattle.natural_index.proofs.Laws.{index_again, raw_below}
use Rattle.asm_text.specs.Indexes.{least_tag, smallest_of, is_tag, is_minus_zero, by_numbers, pair_text, raw_text, index_text, index}
use Rattle.asm_text.proofs.Digits.{decimal_again, hex_read}
use Rattle.asm_text.proofs.Pieces.{not_true, until_first, decimal_above, above_lacks, length_hex}

-- an index is what its numbers spell, where the tag is the same
same_tag : (i : Index) (o : Option ℕ) → is_tag i.tag (option_map
    (λ t. record { neg = i.neg; tag = t; units = i.units; bytes = i.bytes }) o) ≡ true
    → option_map (λ t. record { neg = i.neg; tag = t; units = i.units; bytes = i.bytes }) o ≡ Some i
same_tag i None h = cc h
same_tag i (Some t) h = let e : t ≡ i.tag = grind (arith, nat_tests) in rw e refl

pub is_smallest : (bits : ℕ) (i : Index) → is_tag i.tag (smallest_of bits i.neg i.units i.bytes) ≡ true
    → smallest_of bits i.neg i.units i.bytes ≡ Some i
unfolding smallest_of
is_smallest bits i h = same_tag i (least_tag 8 0 bits i.units i.bytes) h

read_pair : (bits : ℕ) (neg : Bool) (n c : ℕ) (i : Index) → n < 2 ^ 64 → c < 2 ^ 64 → is_minus_zero neg n c ≡ false
    → smallest_of bits neg n c ≡ Some i
    → index bits (pair_text neg n c) ≡ Ok i
unfolding index
read_pair bits true n c i fits_n fits_c some is =
    let dn = decimal_above n fits_n in
    let dc = decimal_above c fits_c in
    rw (
      until_first 44 (decimal n) (45 ∷ (decimal c ++ 41 ∷ [])) (above_lacks 44 (decimal n) (omega arith) dn),
      until_first 41 (decimal c) [] (above_lacks 41 (decimal c) (omega arith) dc),
      above_lacks 40 (decimal n) (omega arith) dn,
      above_lacks 41 (decimal n) (omega arith) dn,
      above_lacks 40 (decimal c) (omega arith) dc,
      above_lacks 44 (decimal c) (omega arith) dc,
      (decimal_again n fits_n).1,
      (decimal_again c fits_c).1,
      some,
      is,
    ) refl
read_pair bits false n c i fits_n fits_c some is =
    let dn = decimal_above n fits_n in
    let dc = decimal_above c fits_c in
    rw (
      until_first 44 (decimal n) (43 ∷ (decimal c ++ 41 ∷ [])) (above_lacks 44 (decimal n) (omega arith) dn),
      until_first 41 (decimal c) [] (above_lacks 41 (decimal c) (omega arith) dc),
      above_lacks 40 (decimal n) (omega arith) dn,
      above_lacks 41 (decimal n) (omega arith) dn,
      above_lacks 40 (decimal c) (omega arith) dc,
      above_lacks 44 (decimal c) (omega arith) dc,
      (decimal_again n fits_n).1,
      (decimal_again c fits_c).1,
      is,
    ) refl

pub size_four : (bits : ℕ) → IsIndexSize bits → (16 ^ (bits / 4) ≡ 2 ^ bits) × (2 ^ bits ≤ 2 ^ 64) × (4 ≤ bits) × (bits ≤ 64)
size_four bits (inl h) = rw h (refl, omega arith, omega arith, omega arith)
size_four bits (inr (inl h)) = rw h (refl, omega arith, omega arith, omega arith)
size_four bits (inr (inr h)) = rw h (refl, omega arith, omega arith, omega arith)

read_raw : (bits n : ℕ) (i : Index) → IsIndexSize bits → n < 2 ^ bits → index_of bits n ≡ Some i → index bits (raw_text bits n) ≡ Ok i
unfolding index
read_raw bits n i size below is =
    let s = size_four bits size in
    let same : (bits / 4 == bits / 4) ≡ true = grind (arith, nat_tests) in
    rw (length_hex (bits / 4) n, same, hex_read (bits / 4) n (rw s.0 below) (omega (arith, below, s.1)), is) refl

more_times : (k m : ℕ) → 0 < k → m ≤ k * m
more_times zero m h = absurd (omega arith)
more_times (suc k) m h = omega arith

-- the numbers of an index are small
pub numbers_small : (bits : ℕ) (i : Index) → IsIndexSize bits → IsIndex bits i → (i.units < 2 ^ 64) × (i.bytes < 2 ^ 64)
numbers_small bits i size a =
    let s = size_four bits size in
    let below = raw_below bits i s.2 a in
    let some : 0 < 2 ^ natural_bits bits i.tag = omega (arith, a.units) in
    let part : i.bytes ≤ 2 ^ natural_bits bits i.tag * i.bytes = more_times _ i.bytes some in
    (omega (arith, below, s.1), omega (arith, below, s.1, part))

pub index_read : (bits : ℕ) (i : Index) → IsIndexSize bits → IsIndex bits i → index bits (index_text bits i) ≡ Ok i
unfolding index_text
index_read bits i size a = elim (cases_Bool (by_numbers bits i)) [
  | inl yes_ ↦
      let p = and_parts _ _ yes_ in
      let small = numbers_small bits i size a in
      rw yes_ (read_pair bits i.neg i.units i.bytes i small.0 small.1 (not_true _ p.0) (is_smallest bits i p.1))
  | inr raw ↦
      let s = size_four bits size in
      rw raw (read_raw bits (raw_of bits i) i size (raw_below bits i s.2 a) (index_again bits i s.2 a))
]
