-- Worked rows of the spelling.
use Rattle.std.proofs.Common.{◌≡◌, ℕ, true, false, [], ◌∷◌, refl, pos, arith, Some, None}
use Rattle.std.specs.Prelude.{negsuc}
use Rattle.natural_index.specs.declared.Index.{Index}
use Rattle.ebc_insn.specs.declared.Operand.{Operand}
use Rattle.ebc_insn.specs.declared.Extra.TheVariants.{Nothing, Imm, Idx}
use Rattle.ebc_insn.specs.declared.Cond.TheVariants.{Always, Set, Clear}
use Rattle.ebc_insn.specs.declared.Size.TheVariants.{Byte, Dword, Qword, Natural}
use Rattle.ebc_insn.specs.declared.CmpOp.TheVariants.{Eq, Ugte}
use Rattle.ebc_insn.specs.declared.ArithOp.TheVariants.{Add, Extd}
use Rattle.ebc_insn.specs.declared.Insn.TheVariants.{Arith, Break, Call, Compare, CompareImm, Jump, Jump8, LoadSpecial, Move, MoveImm}
use Rattle.ebc_insn.specs.declared.Insn.TheVariants.{MoveImmNatural, MoveRelative, MoveSigned, PopNatural, Push, Ret, StoreSpecial}
use Rattle.ebc_insn.specs.Spelling.{WellFormed, bytes_of, field_bytes, spelling}

abbrev r : ℕ → Operand
r n = record { reg = n; indirect = false }

abbrev at : ℕ → Operand
at n = record { reg = n; indirect = true }

-- so many natural units and bytes, forward, under a tag
abbrev forward : ℕ → ℕ → ℕ → Index
forward t n c = record { neg = false; tag = t; units = n; bytes = c }

-- MOVIqw R1, 5
movi : spelling (MoveImm Qword 16 (r 1) None (pos 5)) ≡ 0x77 ∷ 0x31 ∷ 0x05 ∷ 0x00 ∷ []
unfolding bytes_of field_bytes
movi = refl

-- MOVIbd @R2(+1,+0), -1
movi_byte :
    spelling (MoveImm Byte 32 (at 2) (Some (forward 1 1 0)) (negsuc 0))
    ≡ 0xB7 ∷ 0x4A ∷ 0x01 ∷ 0x10 ∷ 0xFF ∷ 0xFF ∷ 0xFF ∷ 0xFF ∷ []
unfolding bytes_of field_bytes
movi_byte = refl

-- ADD32 R1, R2
add_narrow : spelling (Arith Add false (r 1) (r 2) Nothing) ≡ 0x0C ∷ 0x21 ∷ []
unfolding bytes_of field_bytes
add_narrow = refl

-- ADD64 R1, R2 -1
add_one_less : spelling (Arith Add true (r 1) (r 2) (Imm (negsuc 0))) ≡ 0xCC ∷ 0x21 ∷ 0xFF ∷ 0xFF ∷ []
unfolding bytes_of field_bytes
add_one_less = refl

-- EXTNDD64 @R1, @R7(+1,+0)
extend : spelling (Arith Extd true (at 1) (at 7) (Idx (forward 1 1 0))) ≡ 0xDC ∷ 0xF9 ∷ 0x01 ∷ 0x10 ∷ []
unfolding bytes_of field_bytes
extend = refl

-- CMP64eq R3, R4 258
compare_past : spelling (Compare Eq true 3 (r 4) (Imm (pos 0x0102))) ≡ 0xC5 ∷ 0x43 ∷ 0x02 ∷ 0x01 ∷ []
unfolding bytes_of field_bytes
compare_past = refl

-- CMPI64weq R4, 8
compare_imm : spelling (CompareImm Eq true (r 4) None false (pos 8)) ≡ 0x6D ∷ 0x04 ∷ 0x08 ∷ 0x00 ∷ []
unfolding bytes_of field_bytes
compare_imm = refl

-- CMPI32dugte @R4(+1,+0), -2
compare_imm_long :
    spelling (CompareImm Ugte false (at 4) (Some (forward 1 1 0)) true (negsuc 1))
    ≡ 0xB1 ∷ 0x1C ∷ 0x01 ∷ 0x10 ∷ 0xFE ∷ 0xFF ∷ 0xFF ∷ 0xFF ∷ []
unfolding bytes_of field_bytes
compare_imm_long = refl

-- JMP8cc, two words back
jump8_clear : spelling (Jump8 Clear (negsuc 1)) ≡ 0x82 ∷ 0xFE ∷ []
unfolding bytes_of field_bytes
jump8_clear = refl

-- JMP32cs R1, past the next instruction by 4 more than R1 has
jump_relative : spelling (Jump Set false true (r 1) (Imm (pos 4))) ≡ 0x81 ∷ 0xD1 ∷ 0x04 ∷ 0x00 ∷ 0x00 ∷ 0x00 ∷ []
unfolding bytes_of field_bytes
jump_relative = refl

-- JMP64 to the address 4096
jump_far :
    spelling (Jump Always true false (r 0) (Imm (pos 0x1000)))
    ≡ 0xC1 ∷ 0x00 ∷ 0x00 ∷ 0x10 ∷ 0x00 ∷ 0x00 ∷ 0x00 ∷ 0x00 ∷ 0x00 ∷ 0x00 ∷ []
unfolding bytes_of field_bytes
jump_far = refl

-- CALL32EXa @R5(+2,+24)
call_native :
    spelling (Call false true false (at 5) (Idx (forward 1 2 24))) ≡ 0x83 ∷ 0x2D ∷ 0x82 ∷ 0x01 ∷ 0x00 ∷ 0x10 ∷ []
unfolding bytes_of field_bytes
call_native = refl

ret : spelling Ret ≡ 0x04 ∷ 0x00 ∷ []
unfolding bytes_of field_bytes
ret = refl

break_three : spelling (Break 3) ≡ 0x00 ∷ 0x03 ∷ []
unfolding bytes_of field_bytes
break_three = refl

-- MOVqw R0, R0(-2,-8)
move_frame :
    spelling (Move Qword 16 (r 0) (r 0) None (Some record { neg = true; tag = 1; units = 2; bytes = 8 }))
    ≡ 0x60 ∷ 0x00 ∷ 0x22 ∷ 0x90 ∷ []
unfolding bytes_of field_bytes
move_frame = refl

-- MOVdd @R1(+1,+0), @R2(+0,+4)
move_both :
    spelling (Move Dword 32 (at 1) (at 2) (Some (forward 1 1 0)) (Some (forward 0 0 4)))
    ≡ 0xE3 ∷ 0xA9 ∷ 0x01 ∷ 0x00 ∷ 0x00 ∷ 0x10 ∷ 0x04 ∷ 0x00 ∷ 0x00 ∷ 0x00 ∷ []
unfolding bytes_of field_bytes
move_both = refl

-- MOVqq R1, R2
move_quad : spelling (Move Qword 64 (r 1) (r 2) None None) ≡ 0x28 ∷ 0x21 ∷ []
unfolding bytes_of field_bytes
move_quad = refl

-- MOVnd R1, @R2
move_natural : spelling (Move Natural 32 (r 1) (at 2) None None) ≡ 0x33 ∷ 0xA1 ∷ []
unfolding bytes_of field_bytes
move_natural = refl

-- MOVsnw R1, R2 5
move_signed : spelling (MoveSigned 16 (r 1) (r 2) None (Imm (pos 5))) ≡ 0x65 ∷ 0x21 ∷ 0x05 ∷ 0x00 ∷ []
unfolding bytes_of field_bytes
move_signed = refl

-- MOVInw R4, minus zero
move_imm_natural :
    spelling (MoveImmNatural 16 (r 4) None record { neg = true; tag = 0; units = 0; bytes = 0 })
    ≡ 0x78 ∷ 0x04 ∷ 0x00 ∷ 0x80 ∷ []
unfolding bytes_of field_bytes
move_imm_natural = refl

-- MOVRELw @R1(+1,+0), -2
move_relative :
    spelling (MoveRelative 16 (at 1) (Some (forward 1 1 0)) (negsuc 1))
    ≡ 0x79 ∷ 0x49 ∷ 0x01 ∷ 0x10 ∷ 0xFE ∷ 0xFF ∷ []
unfolding bytes_of field_bytes
move_relative = refl

load : spelling (LoadSpecial 5) ≡ 0x29 ∷ 0x50 ∷ []
unfolding bytes_of field_bytes
load = refl

-- STORESP R5, IP
store : spelling (StoreSpecial 5 1) ≡ 0x2A ∷ 0x15 ∷ []
unfolding bytes_of field_bytes
store = refl

-- PUSH64 @R3(+1,+0)
push : spelling (Push true (at 3) (Idx (forward 1 1 0))) ≡ 0xEB ∷ 0x0B ∷ 0x01 ∷ 0x10 ∷ []
unfolding bytes_of field_bytes
push = refl

-- POPn R3
pop_natural : spelling (PopNatural (r 3) Nothing) ≡ 0x36 ∷ 0x03 ∷ []
unfolding bytes_of field_bytes
pop_natural = refl

-- ---- what has no spelling

past_registers : WellFormed (Compare Eq true 8 (r 2) Nothing) → ⊥
past_registers h = omega (arith, h.0)

index_of_register : WellFormed (Arith Add true (r 1) (r 2) (Idx (forward 1 1 0))) → ⊥
index_of_register h = cc (h.2.0)

immediate_of_memory : WellFormed (Push true (at 1) (Imm (pos 1))) → ⊥
immediate_of_memory h = cc (h.1.0)

index_of_left_register : WellFormed (MoveRelative 16 (r 1) (Some (forward 1 1 0)) (pos 0)) → ⊥
index_of_left_register h = cc (h.2.0)

past_word : WellFormed (MoveImm Qword 16 (r 1) None (pos 0x8000)) → ⊥
past_word h = omega (arith, h.4)

move_of_natural : WellFormed (MoveImm Natural 16 (r 1) None (pos 5)) → ⊥
move_of_natural h = h.1

bytes_by_quad : WellFormed (Move Byte 64 (r 1) (r 2) None None) → ⊥
bytes_by_quad h = omega (arith, h.0)

far_from_register : WellFormed (Jump Always true false (r 1) (Imm (pos 0))) → ⊥
far_from_register h = omega (arith, h.0)

far_without_address : WellFormed (Jump Always true false (r 0) Nothing) → ⊥
far_without_address h = h

other_special : WellFormed (StoreSpecial 5 2) → ⊥
other_special h = omega (arith, h.1)
