-- Meaning: Jumps, and the places that they and calls go to. docs/RULES.md, "Control", has the words.
use Rattle.std.specs.Prelude.{ℕ, Bool, true, false, not, ◌&&◌, nat_eq, nat_le, nat_lt, if◌then◌else◌, Option, Some, None, is_some, Ok, Err}
use Rattle.std.specs.Prelude.{ℤ, pos, ◌+ℤ◌, ◌*ℤ◌, slice_get}
use Rattle.ebc_insn.specs.declared.Cond.{Cond}
use Rattle.ebc_insn.specs.declared.Cond.TheVariants.{Always, Set, Clear}
use Rattle.ebc_insn.specs.declared.Extra.{Extra}
use Rattle.ebc_insn.specs.declared.Extra.TheVariants.{Imm}
use Rattle.ebc_insn.specs.declared.Operand.{Operand}
use Rattle.note_types.specs.declared.notes.FnNote.{FnNote}
use Rattle.note_types.specs.declared.notes.Notes.{Notes}
use Rattle.note_types.specs.declared.notes.Point.{Point}
use Rattle.note_types.specs.declared.rule.RuleName.TheVariants as rule
use Rattle.note_types.specs.declared.state.State.{State}
use Rattle.rules_base.specs.declared.here.Here.{Here}
use Rattle.rules_base.specs.Parts.{and_then}
use Rattle.rules_flow.specs.declared.successors.Successors.{Successors}
use Rattle.rules_flow.specs.Narrowing.{narrow}
use Rattle.rules_flow.specs.Successors.{goes, parts}
use Rattle.ebc_base.specs.Steps.{or_else, ◌>>=◌, only_if}
use Rattle.rules_flow.specs.Found.{number_from}
use Rattle.rules_base.specs.Outcomes.{OrRule}

-- ---- targets

-- the place that a relocated immediate names, where there is one
abbrev pub absolute : Option ℕ → OrRule ℤ
absolute None = Err rule.Relocation
absolute (Some place) = Ok (pos place)

-- the place so many bytes past the next instruction, of an instruction that isn't relocated
abbrev pub relative : Here → ℤ → OrRule ℤ
relative here imm = if is_some here.reloc then Err rule.Relocation else Ok (pos here.next +ℤ imm)

-- a form that has no target known beforehand
abbrev pub no_target : Here → OrRule ℤ
no_target here = if is_some here.reloc then Err rule.Relocation else Err rule.Form

-- the place to which a jump or a byte code call goes: an immediate of 64 bits, relocated or relative, or a relative one
-- beside R0
unfoldable pub target_of : Here → Bool → Bool → Operand → Extra → OrRule ℤ
target_of here true true op (Imm imm) = relative here imm
target_of here true false op (Imm imm) = absolute here.reloc
target_of here false true op (Imm imm) = if nat_eq op.reg 0 && not op.indirect then relative here imm else no_target here
target_of here far rel op extra = no_target here

-- ---- points

-- the place of a point, where the function's code has it
abbrev pub place_within : FnNote → Point → Option ℕ
place_within f p = only_if (nat_le f.place p.place && nat_lt p.place f.end) p.place

-- the place, where the function has a point there
unfoldable pub point_at : Notes → FnNote → ℤ → Option ℕ
point_at notes f place =
    and_then (and_then (number_from (λ (p : Point). p.place) notes.point place) (slice_get notes.point)) (place_within f)

-- ---- jumps

-- both successors of a jump, narrowed by what a comparison said
abbrev pub jumps : State → ℕ → Cond → Successors
jumps s place Always = goes place s
jumps s place Set = parts (narrow s false) place (narrow s true)
jumps s place Clear = parts (narrow s true) place (narrow s false)

-- a jump to a place
abbrev pub jump_to : Notes → FnNote → State → Cond → ℤ → OrRule Successors
jump_to notes f s cond place = or_else rule.Target (point_at notes f place) >>= λ p. Ok (jumps s p cond)

-- JMP
unfoldable pub jump_row : Notes → FnNote → Here → State → Cond → Bool → Bool → Operand → Extra → OrRule Successors
jump_row notes f here s cond far rel op extra = target_of here far rel op extra >>= jump_to notes f s cond

-- JMP8
unfoldable pub jump8_row : Notes → FnNote → Here → State → Cond → ℤ → OrRule Successors
jump8_row notes f here s cond words = relative here (words *ℤ pos 2) >>= jump_to notes f s cond
