-- Meaning: the rows of the instructions of control and of the stack. docs/RULES.md, "Control" and "The stack", has the
-- tables.
use Rattle.std.specs.Prelude.{ℕ, Bool, false, not, ◌&&◌, is_none, nat_eq, if◌then◌else◌, Option, Some, None, slice_get, Ok, Err}
use Rattle.natural_index.specs.declared.Index.{Index}
use Rattle.ebc_insn.specs.declared.Insn.{Insn}
use Rattle.ebc_insn.specs.declared.Insn.TheVariants as insn
use Rattle.ebc_insn.specs.declared.Operand.{Operand}
use Rattle.ebc_insn.specs.declared.Size.{Size}
use Rattle.ebc_insn.specs.declared.Size.TheVariants.{Qword}
use Rattle.note_types.specs.declared.cell.SlotKind.{SlotKind}
use Rattle.note_types.specs.declared.cell.SlotKind.TheVariants.{N, Q, D}
use Rattle.note_types.specs.declared.notes.FnNote.{FnNote}
use Rattle.note_types.specs.declared.notes.Notes.{Notes}
use Rattle.note_types.specs.declared.rule.RuleName.TheVariants as rule
use Rattle.note_types.specs.declared.state.State.{State}
use Rattle.note_types.specs.declared.types.Ty.{Ty}
use Rattle.rules_base.specs.declared.here.Here.{Here}
use Rattle.rules_base.specs.Operands.{index_distance}
use Rattle.rules_base.specs.Things.{relocated, takes_address}
use Rattle.rules_flow.specs.declared.successors.Successors.{Successors}
use Rattle.rules_flow.specs.Calls.{break_row, call_native_row, call_row, return_row}
use Rattle.rules_flow.specs.Frames.{frame_row, pop_row, push_row}
use Rattle.rules_flow.specs.Jumps.{jump8_row, jump_row}
use Rattle.ebc_base.specs.Steps.{or_else, ◌>>=◌}
use Rattle.note_types.specs.declared.rule.RuleName.{RuleName}
use Rattle.rules_base.specs.Outcomes.{OrRule}

-- a move to R0: MOVq from R0 makes locals and drops items, and no other writes R0
abbrev pub frame_move : Notes → FnNote → State → Size → Operand → Operand → Option Index → OrRule Successors
frame_move notes f s Qword left right ridx =
    if left.indirect then Err rule.Form
    else if nat_eq left.reg 0 && (not right.indirect && nat_eq right.reg 0) then frame_row notes f s (index_distance ridx)
    else Err rule.Stack
frame_move notes f s _ left right ridx = if left.indirect then Err rule.Form else Err rule.Stack

-- another move of a register other than R0 or to memory isn't one of these instructions
abbrev pub to_stack : Operand → RuleName
to_stack left = if left.indirect then rule.Form else rule.Stack

-- the kind of the slot that a form of 64 or of 32 bits pushes or pops
abbrev pub slot_kind : Bool → SlotKind
slot_kind wide = if wide then Q else D

-- the row of an instruction that isn't relocated, other than JMP and CALL; those on data have none here
abbrev pub plain_row : Notes → FnNote → Here → State → Insn → OrRule Successors
plain_row notes f here s (insn.Break code) = break_row notes s code
plain_row notes f here s insn.Ret = return_row f s
plain_row notes f here s (insn.Call far native rel op extra) = call_native_row notes f here s far rel op extra
plain_row notes f here s (insn.Push wide op extra) = push_row notes f s (slot_kind wide) op extra
plain_row notes f here s (insn.Pop wide op extra) = pop_row notes f s (slot_kind wide) op extra
plain_row notes f here s (insn.PushNatural op extra) = push_row notes f s N op extra
plain_row notes f here s (insn.PopNatural op extra) = pop_row notes f s N op extra
plain_row notes f here s (insn.Move size bits left right lidx ridx) = frame_move notes f s size left right ridx
plain_row notes f here s (insn.MoveSigned bits left right lidx extra) = Err (to_stack left)
plain_row notes f here s (insn.MoveImm size bits left lidx imm) = Err (to_stack left)
plain_row notes f here s (insn.MoveImmNatural bits left lidx idx) = Err (to_stack left)
plain_row notes f here s (insn.MoveRelative bits left lidx imm) = Err (to_stack left)
plain_row notes f here s _ = Err rule.Form

-- the row of an instruction that isn't relocated
abbrev pub unrelocated : Notes → FnNote → Here → State → Insn → OrRule Successors
unrelocated notes f here s i = if is_none here.reloc then plain_row notes f here s i else Err rule.Relocation

-- an address moved to R0: first whether its relocation is allowed
abbrev pub rule_or : RuleName → OrRule Ty → RuleName
rule_or r (Ok t) = r
rule_or r (Err q) = q

abbrev pub address_rule : Notes → Option ℕ → Bool → Operand → RuleName
address_rule notes None takes left = to_stack left
address_rule notes (Some place) takes left = rule_or (to_stack left) (relocated notes takes place)

-- the row of an instruction
abbrev pub flow_row : Notes → FnNote → Here → State → Insn → OrRule Successors
flow_row notes f here s (insn.Jump cond far rel op extra) = jump_row notes f here s cond far rel op extra
flow_row notes f here s (insn.Jump8 cond words) = jump8_row notes f here s cond words
flow_row notes f here s (insn.Call far false rel op extra) = call_row notes f here s far rel op extra
flow_row notes f here s (insn.MoveImm size bits left lidx imm) =
    Err (address_rule notes here.reloc (takes_address size bits left.indirect) left)
flow_row notes f here s i = unrelocated notes f here s i

-- the states after an instruction of control or of the stack, or the first rule that fails
unfoldable pub after_flow : Notes → Here → State → Insn → OrRule Successors
after_flow notes here s i = or_else rule.Function (slice_get notes.function here.func) >>= λ f. flow_row notes f here s i
