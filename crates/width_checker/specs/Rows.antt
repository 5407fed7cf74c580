-- Meaning: the row of an instruction: what rules_data or rules_flow gives for it. docs/RULES.md has the rows.
use Rattle.std.specs.Prelude.{ℕ, Bool, true, false, not, ◌&&◌, nat_eq, if◌then◌else◌}
use Rattle.ebc_insn.specs.declared.Insn.{Insn}
use Rattle.ebc_insn.specs.declared.Insn.TheVariants as insn
use Rattle.ebc_insn.specs.declared.Operand.{Operand}
use Rattle.note_types.specs.declared.notes.Notes.{Notes}
use Rattle.note_types.specs.declared.state.State.{State}
use Rattle.pe_image.specs.declared.image.Image.{Image}
use Rattle.rules_base.specs.declared.here.Here.{Here}
use Rattle.rules_base.specs.Outcomes.{gives_map, OrRule}
use Rattle.rules_data.specs.Data.{after_data}
use Rattle.rules_image.specs.Images.{reloc_at}
use Rattle.rules_flow.specs.declared.successors.Successors.{Successors}
use Rattle.rules_flow.specs.Flow.{after_flow}
use Rattle.rules_flow.specs.Successors.{falls}

-- where an instruction of function `func` stands
abbrev pub here_at : Image → ℕ → ℕ → ℕ → Here
here_at image func place next = record { place = place; next = next; func = func; reloc = reloc_at image next }

-- an operand is R0 itself
abbrev pub is_r0 : Operand → Bool
is_r0 op = not op.indirect && nat_eq op.reg 0

-- whether an instruction is one of control or of the stack: BREAK, JMP, JMP8, CALL, RET, the pushes and pops, and the moves
-- to R0 itself
abbrev pub is_flow : Insn → Bool
is_flow (insn.Break code) = true
is_flow (insn.Jump cond far rel op extra) = true
is_flow (insn.Jump8 cond words) = true
is_flow (insn.Call far native rel op extra) = true
is_flow insn.Ret = true
is_flow (insn.Push wide op extra) = true
is_flow (insn.Pop wide op extra) = true
is_flow (insn.PushNatural op extra) = true
is_flow (insn.PopNatural op extra) = true
is_flow (insn.Move size bits left right lidx ridx) = is_r0 left
is_flow (insn.MoveSigned bits left right lidx extra) = is_r0 left
is_flow (insn.MoveImm size bits left lidx imm) = is_r0 left
is_flow (insn.MoveImmNatural bits left lidx idx) = is_r0 left
is_flow (insn.MoveRelative bits left lidx imm) = is_r0 left
is_flow i = false

-- the states after an instruction in a state, or the first rule of its row that fails
unfoldable pub row_of : Notes → Here → State → Insn → OrRule Successors
row_of notes here s i = if is_flow i then after_flow notes here s i else gives_map falls (after_data notes here s i)
