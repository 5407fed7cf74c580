-- Meaning: One step of the machine: a row for each form of instruction. UEFI specification, chapter "EFI Byte Code Virtual
-- Machine", section "EBC Instruction Set"; in words in docs/MACHINE.md, "A step". The width w is how many bytes an address
-- has, 4 or 8.
use Rattle.std.specs.Prelude.{ℕ, ◌+◌, ◌%◌, ◌^◌, true, false, Ok, Err, nat_eq, if◌then◌else◌}
use Rattle.ebc_base.specs.Steps.{◌>>=◌}
use Rattle.ebc_insn.specs.declared.Insn.{Insn}
use Rattle.ebc_insn.specs.declared.Insn.TheVariants as insns
use Rattle.note_types.specs.Concrete.{Concrete}
use Rattle.ebc_machine.specs.declared.StepEnd.{StepEnd}
use Rattle.ebc_machine.specs.declared.StepEnd.TheVariants as ends
use Rattle.ebc_machine.specs.Results.{Row}
use Rattle.ebc_machine.specs.Operands.{form_bytes, plain, with_index, with_extra}
use Rattle.ebc_machine.specs.Data.{arith_row, compare_row, compare_imm_row}
use Rattle.ebc_machine.specs.Moves.{move_row, move_signed_row, move_imm_row, move_imm_natural_row, move_relative_row, load_special_row}
use Rattle.ebc_machine.specs.Moves.{store_special_row}
use Rattle.ebc_machine.specs.Stack.{push_row, pop_row}
use Rattle.ebc_machine.specs.Flow.{jump_row, jump8_row, call_row, call_native_row, return_row, break_row}
use Rattle.ebc_machine.specs.Fetch.{fetched}

-- what an instruction does, where the next one is at `next`
unfoldable pub executed : ℕ → Concrete → ℕ → Insn → Row
executed w s next (insns.Break code) = break_row s next code
executed w s next (insns.Jump cond far relative op extra) = jump_row w s next cond relative (with_extra w op extra)
executed w s next (insns.Jump8 cond words) = jump8_row s next cond words
executed w s next (insns.Call far false relative op extra) = call_row w s next relative (with_extra w op extra)
executed w s next (insns.Call far true relative op extra) = call_native_row w s next relative (with_extra w op extra)
executed w s next insns.Ret = return_row w s
executed w s next (insns.Compare op wide left right extra) = compare_row w s next op wide left (with_extra w right extra)
executed w s next (insns.CompareImm op wide left idx long imm) = compare_imm_row w s next op wide (with_index w left idx) imm
executed w s next (insns.Arith op wide left right extra) = arith_row w s next op wide (plain left) (with_extra w right extra)
executed w s next (insns.Move size bits left right lidx ridx) = move_row w s next size (with_index w left lidx) (with_index w right ridx)
executed w s next (insns.MoveSigned bits left right lidx extra) =
    move_signed_row w s next (with_index w left lidx) (with_extra w right extra)
executed w s next (insns.MoveImm size bits left lidx imm) = move_imm_row w s next size (with_index w left lidx) imm
executed w s next (insns.MoveImmNatural bits left lidx idx) = move_imm_natural_row w s next (with_index w left lidx) idx
executed w s next (insns.MoveRelative bits left lidx imm) = move_relative_row w s next (with_index w left lidx) imm
executed w s next (insns.LoadSpecial from) = load_special_row s next from
executed w s next (insns.StoreSpecial to special) = store_special_row s next to special
executed w s next (insns.Push wide op extra) = push_row w s next (form_bytes wide) (with_extra w op extra)
executed w s next (insns.Pop wide op extra) = pop_row w s next (form_bytes wide) true (with_extra w op extra)
executed w s next (insns.PushNatural op extra) = push_row w s next w (with_extra w op extra)
executed w s next (insns.PopNatural op extra) = pop_row w s next w false (with_extra w op extra)

-- how a step ends: one that raises leaves the state as it was
abbrev pub ended : Concrete → Row → StepEnd × Concrete
ended s (Ok done) = done
ended s (Err e) = (ends.Raised e, s)

-- the instruction at ip, done
unfoldable pub instruction_done : ℕ → Concrete → Row
instruction_done w s = do
  found ← fetched s
  executed w s ((s.ip + found.1) % 2 ^ 64) found.0

-- one step: the instruction at ip, or nothing at the gate
unfoldable pub machine_step : ℕ → Concrete → StepEnd × Concrete
machine_step w s = if nat_eq s.ip s.gate then (ends.Gate, s) else ended s (instruction_done w s)
