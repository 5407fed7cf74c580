-- Raw numbers worked out by hand, as the definitions have them.
use Rattle.std.proofs.Common.{◌≡◌, true, false, refl, pos, neg_ℤ, Some, None, arith}
use Rattle.natural_index.specs.Index.{HasRoom, natural_bits, raw_of, fields_of, index_of, pair_of, index_value}
use Rattle.natural_index.specs.declared.Index.{Index}

-- sign, tag 2, so 4 natural bits that hold 8, and 4 bytes
abbrev minus_eight_and_four : Index
minus_eight_and_four = record { neg = true; tag = 2; units = 8; bytes = 4 }

read_A048 : index_of 16 0xA048 ≡ Some minus_eight_and_four
unfolding fields_of
read_A048 = refl

written_A048 : raw_of 16 minus_eight_and_four ≡ 0xA048
written_A048 = refl

pair_A048 : pair_of minus_eight_and_four ≡ (neg_ℤ (pos 8), neg_ℤ (pos 4))
pair_A048 = refl

value_A048_at_4 : index_value 4 minus_eight_and_four ≡ neg_ℤ (pos 36)
value_A048_at_4 = refl

value_A048_at_8 : index_value 8 minus_eight_and_four ≡ neg_ℤ (pos 68)
value_A048_at_8 = refl

-- minus zero
abbrev minus_zero : Index
minus_zero = record { neg = true; tag = 0; units = 0; bytes = 0 }

read_8000 : index_of 16 0x8000 ≡ Some minus_zero
unfolding fields_of
read_8000 = refl

pair_8000 : pair_of minus_zero ≡ (pos 0, pos 0)
pair_8000 = refl

-- tag 7 of 16 bits
read_7000 : index_of 16 0x7000 ≡ None
read_7000 = refl

written_1001 : raw_of 16 record { neg = false; tag = 1; units = 1; bytes = 0 } ≡ 0x1001
written_1001 = refl

written_9022 : raw_of 16 record { neg = true; tag = 1; units = 2; bytes = 8 } ≡ 0x9022
written_9022 = refl

natural_bits_of_six : natural_bits 16 6 ≡ 12
natural_bits_of_six = refl

no_room_for_4096 : ¬ HasRoom 16 6 4096 0
no_room_for_4096 room = absurd (omega (arith, room.units))

-- 12 natural bits and 16 for the bytes
abbrev of_32_bits : Index
of_32_bits = record { neg = true; tag = 3; units = 0x123; bytes = 0xABCD }

read_32_bits : index_of 32 0xBABC_D123 ≡ Some of_32_bits
unfolding fields_of
read_32_bits = refl

written_32_bits : raw_of 32 of_32_bits ≡ 0xBABC_D123
written_32_bits = refl

-- 40 natural bits and 20 for the bytes
abbrev of_64_bits : Index
of_64_bits = record { neg = false; tag = 5; units = 0x12_3456_789A; bytes = 0xB_CDEF }

read_64_bits : index_of 64 0x5BCD_EF12_3456_789A ≡ Some of_64_bits
unfolding fields_of
read_64_bits = refl

written_64_bits : raw_of 64 of_64_bits ≡ 0x5BCD_EF12_3456_789A
written_64_bits = refl
