-- Steps worked by hand.
use Rattle.std.specs.Prelude.{◌≡◌, ℕ, ◌-◌, ◌∷◌, [], List, slice_index, nat_lt, if◌then◌else◌, refl}
use Rattle.natural_index.specs.Index.{fields_of}
use Rattle.ebc_decode.specs.Reading.{form_at, is_reserved, has_left_index, size1_at, size2_at, field_at, insn_at, parts_at}
use Rattle.ebc_decode.specs.Reading as reading
use Rattle.machine_alu.specs.Alu.{computed}
use Rattle.ebc_width.specs.Bytes.{little_endian, put, window}
use Rattle.ebc_width.specs.Ranges.{holds}
use Rattle.note_types.specs.Concrete.{Concrete, loaded, stored, rest_from, with_register, at_ip}
use Rattle.note_types.specs.declared.exception.Exception.TheVariants as raises
use Rattle.ebc_machine.specs.declared.StepEnd.TheVariants as ends
use Rattle.ebc_machine.specs.Results.{goes}
use Rattle.ebc_machine.specs.Operands.{sum_at, address, loaded_at, stored_at, value, written}
use Rattle.ebc_machine.specs.Data.{arith_row}
use Rattle.ebc_machine.specs.Moves.{move_imm_natural_row}
use Rattle.ebc_machine.specs.Stack.{lowered_by, raised_by, popped, pop_row}
use Rattle.ebc_machine.specs.Flow.{target_number, target_at, called, call_row}
use Rattle.ebc_machine.specs.Fetch.{fetched}
use Rattle.ebc_machine.specs.Step.{executed, instruction_done, machine_step}

-- a machine at code of four bytes, at the start of an object of 32 bytes; the others are 0xFF, and R0 is in their middle
abbrev code_at : List ℕ → Concrete
code_at code = record {
  registers = 0x1010 ∷ 0xFFFF_FFFF_0000_0001 ∷ 0xFFFF_FFFF ∷ 0 ∷ 0 ∷ 0 ∷ 0 ∷ 0 ∷ [];
  ip = 0x1000;
  flags = 0;
  gate = 0;
  objects = record { base = 0x1000; size = 32 } ∷ [];
  byte = λ x. if nat_lt x 0x1004 then slice_index code (x - 0x1000) else 0xFF;
}

-- MOVInw R4, (+1,+0)
natural_unit_4 : (machine_step 4
    (code_at (0x78 ∷ 0x04 ∷ 0x01 ∷ 0x10 ∷ []))).1.registers ≡ 0x1010 ∷ 0xFFFF_FFFF_0000_0001 ∷ 0xFFFF_FFFF ∷ 0 ∷ 4 ∷ 0 ∷ 0 ∷ 0 ∷ []
unfolding machine_step instruction_done executed fetched rest_from window reading.read form_at is_reserved has_left_index size1_at size2_at
    field_at insn_at parts_at fields_of move_imm_natural_row written with_register goes at_ip
natural_unit_4 = refl

natural_unit_8 : (machine_step 8
    (code_at (0x78 ∷ 0x04 ∷ 0x01 ∷ 0x10 ∷ []))).1.registers ≡ 0x1010 ∷ 0xFFFF_FFFF_0000_0001 ∷ 0xFFFF_FFFF ∷ 0 ∷ 8 ∷ 0 ∷ 0 ∷ 0 ∷ []
unfolding machine_step instruction_done executed fetched rest_from window reading.read form_at is_reserved has_left_index size1_at size2_at
    field_at insn_at parts_at fields_of move_imm_natural_row written with_register goes at_ip
natural_unit_8 = refl

-- ADD32 R1, R2: the upper half is cleared
sum_narrow : (machine_step 8 (code_at (0x0C ∷ 0x21 ∷ 0 ∷ 0 ∷ []))).1.registers ≡ 0x1010 ∷ 0 ∷ 0xFFFF_FFFF ∷ 0 ∷ 0 ∷ 0 ∷ 0 ∷ 0 ∷ []
unfolding machine_step instruction_done executed fetched rest_from window reading.read form_at is_reserved has_left_index size1_at size2_at
    field_at insn_at parts_at arith_row value sum_at computed written with_register goes at_ip
sum_narrow = refl

-- DIV64 R1, R3
by_zero : (machine_step 8 (code_at (0x50 ∷ 0x31 ∷ 0 ∷ 0 ∷ []))).0 ≡ ends.Raised raises.DivideError
unfolding machine_step instruction_done executed fetched rest_from window reading.read form_at is_reserved has_left_index size1_at size2_at
    field_at insn_at parts_at arith_row value sum_at computed written with_register goes at_ip
by_zero = refl

-- POP32 R4: the sign, and R0
popped_sign : (machine_step 8
    (code_at (0x2C ∷ 0x04 ∷ 0 ∷ 0 ∷ []))).1.registers ≡ 0x1014 ∷ 0xFFFF_FFFF_0000_0001 ∷ 0xFFFF_FFFF ∷ 0 ∷ 0xFFFF_FFFF_FFFF_FFFF ∷ 0 ∷ 0 ∷ 0
    ∷ []
unfolding machine_step instruction_done executed fetched rest_from window reading.read form_at is_reserved has_left_index size1_at size2_at
    field_at insn_at parts_at pop_row loaded_at loaded holds little_endian address sum_at popped raised_by with_register goes at_ip
popped_sign = refl

-- CALL32 R2, to an odd target
call_target : (machine_step 4 (code_at (0x03 ∷ 0x02 ∷ 0 ∷ 0 ∷ []))).0 ≡ ends.Raised raises.AlignmentCheck
unfolding machine_step instruction_done executed fetched rest_from window reading.read form_at is_reserved has_left_index size1_at size2_at
    field_at insn_at parts_at call_row target_at target_number called stored_at stored holds put address sum_at lowered_by with_register
    goes at_ip
call_target = refl
