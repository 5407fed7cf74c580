-- Worked rows of the plain check and of the plain run.
use Rattle.plain_check.proofs.Common.{◌≡◌, ℕ, List, [], ◌∷◌, refl, size1_at, size2_at, insn_at, read, Decode, Form, Target, End, Verdict}
use Rattle.plain_check.proofs.Common.{Neutral, Refused, plain_verdict, first_refusal, reached, GoesOn, Returned, Stopped, plain_machine}
use Rattle.plain_check.proofs.Common.{plain_run, plain_step, computed, compared, with_register, with_flags, at_ip, goes, value, written}
use Rattle.plain_check.proofs.Common.{sum_at, arith_row, compare_row, move_imm_row, jump8_row, executed}
use Rattle.ebc_decode.specs.Reading.{form_at, is_reserved, has_left_index, field_at, parts_at}
use Rattle.note_types.specs.declared.exception.Exception.TheVariants as raises
use Rattle.ebc_machine.specs.declared.StepEnd.TheVariants as ends

-- ---- verdicts

VerdictIs : List ℕ → Verdict → Type 0
VerdictIs code verdict = plain_verdict code ≡ verdict

move_and_return : VerdictIs (0x77 ∷ 0x31 ∷ 0x05 ∷ 0x00 ∷ 0x04 ∷ 0x00 ∷ []) Neutral
unfolding VerdictIs plain_verdict first_refusal reached form_at is_reserved has_left_index size1_at size2_at field_at insn_at parts_at read
move_and_return = refl

jump_to_itself : VerdictIs (0x02 ∷ 0xFF ∷ []) Neutral
unfolding VerdictIs plain_verdict first_refusal reached form_at is_reserved has_left_index size1_at size2_at field_at insn_at parts_at read
jump_to_itself = refl

empty : VerdictIs [] (Refused 0 End)
unfolding VerdictIs plain_verdict
empty = refl

no_return : VerdictIs (0x77 ∷ 0x31 ∷ 0x05 ∷ 0x00 ∷ []) (Refused 0 End)
unfolding VerdictIs plain_verdict first_refusal reached form_at is_reserved has_left_index size1_at size2_at field_at insn_at parts_at read
no_return = refl

jump_to_the_end : VerdictIs (0x02 ∷ 0x00 ∷ []) (Refused 0 Target)
unfolding VerdictIs plain_verdict first_refusal reached form_at is_reserved has_left_index size1_at size2_at field_at insn_at parts_at read
jump_to_the_end = refl

jump_to_half : VerdictIs (0x02 ∷ 0x00 ∷ 0x04 ∷ []) (Refused 0 Target)
unfolding VerdictIs plain_verdict first_refusal reached form_at is_reserved has_left_index size1_at size2_at field_at insn_at parts_at read
jump_to_half = refl

half_an_instruction : VerdictIs (0x04 ∷ 0x00 ∷ 0x04 ∷ []) (Refused 2 Decode)
unfolding VerdictIs plain_verdict first_refusal reached form_at is_reserved has_left_index size1_at size2_at field_at insn_at parts_at read
half_an_instruction = refl

-- ---- runs

-- MOVIqw R1, -1; ADD64 R1, R1; RET
doubled : List ℕ
doubled = 0x77 ∷ 0x31 ∷ 0xFF ∷ 0xFF ∷ 0x4C ∷ 0x11 ∷ 0x04 ∷ 0x00 ∷ []

doubled_ends : plain_run 4 doubled 3 ≡ record {
  progress = Returned;
  machine = record plain_machine { ip = 6; registers = 0 ∷ 0xFFFFFFFFFFFFFFFE ∷ 0 ∷ 0 ∷ 0 ∷ 0 ∷ 0 ∷ 0 ∷ [] };
}
unfolding doubled plain_run plain_step executed move_imm_row arith_row compare_row jump8_row value written sum_at computed compared
    with_register with_flags at_ip goes form_at is_reserved has_left_index size1_at size2_at field_at insn_at parts_at read
doubled_ends = refl

-- CMP64eq R0, R0; JMP8cs back to the start
compared_back : List ℕ
compared_back = 0x45 ∷ 0x00 ∷ 0xC2 ∷ 0xFE ∷ []

compared_jumps : plain_run 8 compared_back 2 ≡ record { progress = GoesOn; machine = record plain_machine { flags = 1 } }
unfolding compared_back plain_run plain_step executed move_imm_row arith_row compare_row jump8_row value written sum_at computed compared
    with_register with_flags at_ip goes form_at is_reserved has_left_index size1_at size2_at field_at insn_at parts_at read
compared_jumps = refl

-- a jump that leaves the code isn't cut, leads to no instruction, and so isn't neutral
leaving : List ℕ
leaving = 0x02 ∷ 0x80 ∷ []

leaving_narrow : (plain_run 4 leaving 1).machine.ip ≡ 0xFFFFFFFFFFFFFF02
unfolding leaving plain_run plain_step executed move_imm_row arith_row compare_row jump8_row value written sum_at computed compared
    with_register with_flags at_ip goes form_at is_reserved has_left_index size1_at size2_at field_at insn_at parts_at read
leaving_narrow = refl

leaving_wide : (plain_run 8 leaving 1).machine.ip ≡ 0xFFFFFFFFFFFFFF02
unfolding leaving plain_run plain_step executed move_imm_row arith_row compare_row jump8_row value written sum_at computed compared
    with_register with_flags at_ip goes form_at is_reserved has_left_index size1_at size2_at field_at insn_at parts_at read
leaving_wide = refl

leaving_raises : (plain_run 8 leaving 2).progress ≡ Stopped (ends.Raised raises.MemoryFault)
unfolding leaving plain_run plain_step executed move_imm_row arith_row compare_row jump8_row value written sum_at computed compared
    with_register with_flags at_ip goes form_at is_reserved has_left_index size1_at size2_at field_at insn_at parts_at read
leaving_raises = refl

leaving_refused : VerdictIs leaving (Refused 0 Target)
unfolding leaving VerdictIs plain_verdict first_refusal reached form_at is_reserved has_left_index size1_at size2_at field_at insn_at
    parts_at read
leaving_refused = refl

-- ADD32 R1, R2 is decoded, and isn't plain code
other_form : VerdictIs (0x0C ∷ 0x21 ∷ 0x04 ∷ 0x00 ∷ []) (Refused 0 Form)
unfolding VerdictIs plain_verdict first_refusal reached form_at is_reserved has_left_index size1_at size2_at field_at insn_at parts_at read
other_form = refl

-- ADD64 @R1, R2 adds to memory, and isn't plain code
to_memory : VerdictIs (0x4C ∷ 0x29 ∷ 0x04 ∷ 0x00 ∷ []) (Refused 0 Form)
unfolding VerdictIs plain_verdict first_refusal reached form_at is_reserved has_left_index size1_at size2_at field_at insn_at parts_at read
to_memory = refl
