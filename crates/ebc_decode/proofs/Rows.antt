-- Worked rows of the reading.
use Rattle.std.proofs.Common.{◌≡◌, ℕ, true, false, [], ◌∷◌, refl, pos, Some, None, Ok, Err}
use Rattle.std.specs.Prelude.{negsuc}
use Rattle.natural_index.specs.Index.{fields_of}
use Rattle.ebc_insn.specs.declared.Operand.{Operand}
use Rattle.ebc_insn.specs.declared.Extra.TheVariants.{Nothing, Imm, Idx}
use Rattle.ebc_insn.specs.declared.Cond.TheVariants.{Set, Clear}
use Rattle.ebc_insn.specs.declared.Size.TheVariants.{Qword}
use Rattle.ebc_insn.specs.declared.CmpOp.TheVariants.{Eq}
use Rattle.ebc_insn.specs.declared.ArithOp.TheVariants.{Add}
use Rattle.ebc_insn.specs.declared.Insn.TheVariants.{Arith, Call, CompareImm, Jump, Jump8, Move, MoveImm, MoveImmNatural, Ret}
use Rattle.ebc_decode.specs.declared.DecodeFault.TheVariants.{Short, Opcode, Reserved, IndexTag, DirectIndex}
use Rattle.ebc_decode.specs.Reading.{field_at, form_at, has_left_index, insn_at, is_reserved, parts_at, read, size1_at, size2_at}

abbrev r : ℕ → Operand
r n = record { reg = n; indirect = false }

abbrev at : ℕ → Operand
at n = record { reg = n; indirect = true }

-- ---- instructions, and what follows them

-- CALL32EXa @R5(+2,+24)
call_native :
    read (0x83 ∷ 0x2D ∷ 0x82 ∷ 0x01 ∷ 0x00 ∷ 0x10 ∷ 0x04 ∷ [])
    ≡ Ok (Call false true false (at 5) (Idx record { neg = false; tag = 1; units = 2; bytes = 24 }), 6)
unfolding read form_at is_reserved has_left_index size1_at size2_at parts_at field_at insn_at fields_of
call_native = refl

-- MOVqw R0, R0(-2,-8)
move_frame :
    read (0x60 ∷ 0x00 ∷ 0x22 ∷ 0x90 ∷ [])
    ≡ Ok (Move Qword 16 (r 0) (r 0) None (Some record { neg = true; tag = 1; units = 2; bytes = 8 }), 4)
unfolding read form_at is_reserved has_left_index size1_at size2_at parts_at field_at insn_at fields_of
move_frame = refl

-- MOVInw R4, (+1,+0)
move_natural :
    read (0x78 ∷ 0x04 ∷ 0x01 ∷ 0x10 ∷ 0x6D ∷ 0x04 ∷ [])
    ≡ Ok (MoveImmNatural 16 (r 4) None record { neg = false; tag = 1; units = 1; bytes = 0 }, 4)
unfolding read form_at is_reserved has_left_index size1_at size2_at parts_at field_at insn_at fields_of
move_natural = refl

-- CMPI64weq R4, 8
compare_imm : read (0x6D ∷ 0x04 ∷ 0x08 ∷ 0x00 ∷ 0x04 ∷ 0x00 ∷ []) ≡ Ok (CompareImm Eq true (r 4) None false (pos 8), 4)
unfolding read form_at is_reserved has_left_index size1_at size2_at parts_at field_at insn_at
compare_imm = refl

-- CMPI64deq R4, -2
compare_imm_long :
    read (0xED ∷ 0x04 ∷ 0xFE ∷ 0xFF ∷ 0xFF ∷ 0xFF ∷ []) ≡ Ok (CompareImm Eq true (r 4) None true (negsuc 1), 6)
unfolding read form_at is_reserved has_left_index size1_at size2_at parts_at field_at insn_at
compare_imm_long = refl

-- MOVIqw R7, -32768
movi_low : read (0x77 ∷ 0x37 ∷ 0x00 ∷ 0x80 ∷ 0x04 ∷ []) ≡ Ok (MoveImm Qword 16 (r 7) None (negsuc 32767), 4)
unfolding read form_at is_reserved has_left_index size1_at size2_at parts_at field_at insn_at
movi_low = refl

-- ADD32 R1, R2
add_narrow : read (0x0C ∷ 0x21 ∷ 0x04 ∷ 0x00 ∷ []) ≡ Ok (Arith Add false (r 1) (r 2) Nothing, 2)
unfolding read form_at is_reserved has_left_index size1_at size2_at parts_at field_at insn_at
add_narrow = refl

-- ADD64 R1, R2 -1
add_one_less : read (0xCC ∷ 0x21 ∷ 0xFF ∷ 0xFF ∷ []) ≡ Ok (Arith Add true (r 1) (r 2) (Imm (negsuc 0)), 4)
unfolding read form_at is_reserved has_left_index size1_at size2_at parts_at field_at insn_at
add_one_less = refl

jump8_clear : read (0x82 ∷ 0xFE ∷ []) ≡ Ok (Jump8 Clear (negsuc 1), 2)
unfolding read form_at is_reserved has_left_index size1_at size2_at parts_at field_at insn_at
jump8_clear = refl

-- JMP32cs R1
jump_set : read (0x01 ∷ 0xD1 ∷ []) ≡ Ok (Jump Set false true (r 1) Nothing, 2)
unfolding read form_at is_reserved has_left_index size1_at size2_at parts_at field_at insn_at
jump_set = refl

ret : read (0x04 ∷ 0x00 ∷ []) ≡ Ok (Ret, 2)
unfolding read form_at is_reserved has_left_index size1_at size2_at parts_at field_at insn_at
ret = refl

-- ---- faults

one_byte : read (0x77 ∷ []) ≡ Err Short
unfolding read
one_byte = refl

short_immediate : read (0x77 ∷ 0x31 ∷ 0x05 ∷ []) ≡ Err Short
unfolding read form_at is_reserved has_left_index size1_at size2_at
short_immediate = refl

no_opcode : read (0x27 ∷ 0x00 ∷ []) ≡ Err Opcode
unfolding read form_at
no_opcode = refl

ret_with_bit : read (0x04 ∷ 0x01 ∷ []) ≡ Err Reserved
unfolding read form_at is_reserved
ret_with_bit = refl

set_without_condition : read (0x42 ∷ 0x00 ∷ []) ≡ Err Reserved
unfolding read form_at is_reserved
set_without_condition = refl

far_without_address : read (0x41 ∷ 0x00 ∷ []) ≡ Err Reserved
unfolding read form_at is_reserved
far_without_address = refl

index_of_register : read (0xA0 ∷ 0x12 ∷ 0x00 ∷ 0x00 ∷ []) ≡ Err DirectIndex
unfolding read form_at is_reserved has_left_index
index_of_register = refl

-- A reserved bit is told before an index of a direct operand 1, and that before a missing byte.
reserved_first : read (0x37 ∷ 0x41 ∷ []) ≡ Err Reserved
unfolding read form_at is_reserved
reserved_first = refl

direct_before_short : read (0xA0 ∷ 0x12 ∷ []) ≡ Err DirectIndex
unfolding read form_at is_reserved has_left_index
direct_before_short = refl

-- A missing byte is told before a tag.
tag_seven : read (0x78 ∷ 0x04 ∷ 0x00 ∷ 0x70 ∷ []) ≡ Err IndexTag
unfolding read form_at is_reserved has_left_index size1_at size2_at parts_at field_at insn_at
tag_seven = refl

short_before_tag : read (0xE0 ∷ 0x1A ∷ 0x00 ∷ 0x70 ∷ 0x00 ∷ []) ≡ Err Short
unfolding read form_at is_reserved has_left_index size1_at size2_at
short_before_tag = refl
