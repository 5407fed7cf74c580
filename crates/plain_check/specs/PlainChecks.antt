-- Meaning: the plain check of raw code: docs/PLAIN.md, "The check". Instructions are those of the UEFI specification, EFI
-- Byte Code Virtual Machine; a place is an offset in bytes from the start of the code.
use Rattle.std.specs.Prelude.{ℕ, ◌+◌, ◌-◌, zero, suc, nat_eq, Bool, true, false, ◌&&◌, not, if◌then◌else◌, List, [], ◌∷◌, length, drop}
use Rattle.std.specs.Prelude.{slice_get, Option, Some, None, unwrap_or, Result, Ok, Err, is_ok, ℤ, pos, negsuc, ◌+ℤ◌, ◌*ℤ◌}
use Rattle.std.specs.List.{list_any}
use Rattle.ebc_insn.specs.declared.Operand.{Operand}
use Rattle.ebc_insn.specs.declared.Cond.TheVariants.{Always}
use Rattle.ebc_insn.specs.declared.Size.TheVariants.{Qword}
use Rattle.ebc_insn.specs.declared.CmpOp.TheVariants.{Eq}
use Rattle.ebc_insn.specs.declared.ArithOp.TheVariants.{Add}
use Rattle.ebc_insn.specs.declared.Insn.{Insn}
use Rattle.ebc_insn.specs.declared.Insn.TheVariants.{Jump8, Ret, Compare, Arith, MoveImm}
use Rattle.ebc_decode.specs.declared.DecodeFault.{DecodeFault}
use Rattle.ebc_decode.specs.Reading.{read}
use Rattle.note_types.specs.declared.rule.RuleName.{RuleName}
use Rattle.note_types.specs.declared.rule.RuleName.TheVariants.{Decode, Form, Target, End}
use Rattle.plain_check.specs.declared.verdict.Verdict.{Verdict}
use Rattle.plain_check.specs.declared.verdict.Verdict.TheVariants.{Neutral, Refused}

-- a place that lengths reach from the start, and the instruction that decodes there with its length
pub record Reached : Type 0 where
  pub place : ℕ
  pub found : Result (Insn × ℕ) DecodeFault

-- lengths lead on from an instruction, and end where none decodes
abbrev pub reach : ℕ → Result (Insn × ℕ) DecodeFault → (ℕ → List Reached) → List Reached
reach place (Ok (i, n)) others = record { place = place; found = Ok (i, n) } ∷ others (n - 1)
reach place (Err fault) others = record { place = place; found = Err fault } ∷ []

-- the places that lengths reach in these bytes, which begin at a place; the first of them, so many, belong
-- to the instruction before
unfoldable pub reached : ℕ → ℕ → List ℕ → List Reached
reached place inside [] = []
reached place (suc inside) (b ∷ bytes) = reached (place + 1) inside bytes
reached place zero (b ∷ bytes) = reach place (read (b ∷ bytes)) (λ inside. reached (place + 1) inside bytes)

-- the places that lengths reach in the code
abbrev pub places : List ℕ → List Reached
places code = reached 0 0 code

-- whether a place is a start: reached by lengths, and an instruction decodes there
abbrev pub is_start : List Reached → ℕ → Bool
is_start all place = list_any (λ r. nat_eq r.place place && is_ok r.found) all

-- the starts of the code, as a test on places
abbrev pub starts : List ℕ → ℕ → Bool
starts code place = is_start (places code) place

-- whether an operand is a register, and not memory
abbrev pub is_register : Operand → Bool
is_register operand = not operand.indirect

-- whether an instruction is one of the forms of plain code: JMP8, RET, and on registers CMP64eq, ADD64 and MOVIqw
abbrev pub is_plain : Insn → Bool
is_plain (Jump8 cond words) = true
is_plain Ret = true
is_plain (Compare Eq true left right extra) = is_register right
is_plain (Arith Add true left right extra) = is_register left && is_register right
is_plain (MoveImm Qword bits left lidx imm) = nat_eq bits 16 && is_register left
is_plain i = false

-- where a JMP8 leads, if it is taken: words of two bytes from the next instruction on
abbrev pub jump_target : ℕ → ℤ → ℤ
jump_target next words = pos next +ℤ pos 2 *ℤ words

-- whether an address, which may lie before the code, passes a test on places
abbrev pub passes : (ℕ → Bool) → ℤ → Bool
passes test (pos place) = test place
passes test (negsuc before) = false

-- whether the target of a jump is a start
abbrev pub lands : (ℕ → Bool) → ℕ → Insn → Bool
lands is_started next (Jump8 cond words) = passes is_started (jump_target next words)
lands is_started next i = true

-- whether control may go on at the next instruction
abbrev pub falls_through : Insn → Bool
falls_through (Jump8 Always words) = false
falls_through Ret = false
falls_through i = true

-- the first rule that fails at an instruction that ends before the place next, in code of a size in bytes
abbrev pub instruction_rule : (ℕ → Bool) → ℕ → ℕ → Insn → Option RuleName
instruction_rule is_started size next i =
    if not (is_plain i) then Some Form
    else if not (lands is_started next i) then Some Target
    else if nat_eq next size && falls_through i then Some End
    else None

-- the first rule that fails at a place
abbrev pub failing_rule : (ℕ → Bool) → ℕ → ℕ → Result (Insn × ℕ) DecodeFault → Option RuleName
failing_rule is_started size place (Err fault) = Some Decode
failing_rule is_started size place (Ok (i, n)) = instruction_rule is_started size (place + n) i

-- a place at which a rule fails comes before the others
abbrev pub judged : ℕ → Option RuleName → Verdict → Verdict
judged place None others = others
judged place (Some rule) others = Refused place rule

-- the first of these places at which a rule fails
unfoldable pub first_refusal : (ℕ → Bool) → ℕ → List Reached → Verdict
first_refusal is_started size [] = Neutral
first_refusal is_started size (r ∷ others) = judged r.place (failing_rule is_started size r.place r.found)
    (first_refusal is_started size others)

-- Code is neutral where it isn't empty and no rule fails at a place that lengths reach; else the first such
-- place is refused by the first rule that fails there, and empty code for its end.
unfoldable pub plain_verdict : List ℕ → Verdict
plain_verdict [] = Refused 0 End
plain_verdict (b ∷ bytes) = let code = b ∷ bytes in first_refusal (starts code) (length code) (places code)

-- whether a place is marked in a list of marks for the bytes
abbrev pub marked : List Bool → ℕ → Bool
marked marks place = unwrap_or (slice_get marks place) false

-- what the places from one on say: those from the next one on, or the rule that fails
abbrev pub after_place : (ℕ → Bool) → List ℕ → ℕ → Result ℕ RuleName → Verdict
after_place is_started code place (Ok next) = first_refusal is_started (length code) (reached next 0 (drop next code))
after_place is_started code place (Err rule) = Refused place rule
