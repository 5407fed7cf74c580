-- A step leads from a state that a machine can be in to such a state.
use Rattle.std.proofs.Common.{ℕ, ◌+◌, ◌%◌, ◌^◌, true, false, Ok, Err}
use Rattle.std.specs.Prelude.{nat_eq}
use Rattle.std.proofs.lemmas.Bool.{cond_both}
use Rattle.ebc_insn.specs.declared.Insn.{Insn}
use Rattle.ebc_insn.specs.declared.Insn.TheVariants as insns
use Rattle.note_types.specs.Concrete.{Concrete, IsConcrete}
use Rattle.ebc_machine.specs.declared.StepEnd.{StepEnd}
use Rattle.ebc_machine.specs.declared.StepEnd.TheVariants as ends
use Rattle.ebc_machine.specs.Results.{Row}
use Rattle.ebc_machine.specs.Operands.{form_bytes, plain, with_index, with_extra}
use Rattle.ebc_machine.specs.Fetch.{fetched}
use Rattle.ebc_machine.specs.Step.{executed, ended, instruction_done, machine_step}
use Rattle.ebc_machine.specs.Laws.{StepKeepsConcrete}
use Rattle.ebc_machine.proofs.ValueLaws.{IsSmall, width_access, form_access, small_mod}
use Rattle.ebc_machine.proofs.RowLaws.{KeepsRow, arith_row-kept, compare_row-kept, compare_imm_row-kept, move_row-kept}
use Rattle.ebc_machine.proofs.RowLaws.{move_signed_row-kept, move_imm_row-kept, move_imm_natural_row-kept, move_relative_row-kept}
use Rattle.ebc_machine.proofs.RowLaws.{load_special_row-kept, store_special_row-kept, push_row-kept, pop_row-kept, jump_row-kept}
use Rattle.ebc_machine.proofs.RowLaws.{jump8_row-kept, call_row-kept, call_native_row-kept, return_row-kept, break_row-kept}
use Rattle.ebc_base.proofs.Given.{ok_next}

executed-kept : (w : ℕ) (s : Concrete) (next : ℕ) (i : Insn) → IsConcrete w s → IsSmall next → KeepsRow w (executed w s next i)
unfolding executed
executed-kept w s next (insns.Break code) is small = break_row-kept w s next code is small
executed-kept w s next (insns.Jump cond far relative op extra) is small =
    jump_row-kept w s next cond relative (with_extra w op extra) is small
executed-kept w s next (insns.Jump8 cond words) is small = jump8_row-kept w s next cond words is small
executed-kept w s next (insns.Call far false relative op extra) is small = call_row-kept w s next relative (with_extra w op extra) is
executed-kept w s next (insns.Call far true relative op extra) is small =
    call_native_row-kept w s next relative (with_extra w op extra) is small
executed-kept w s next insns.Ret is small = return_row-kept w s is
executed-kept w s next (insns.Compare op wide left right extra) is small =
    compare_row-kept w s next op wide left (with_extra w right extra) is small
executed-kept w s next (insns.CompareImm op wide left idx long imm) is small =
    compare_imm_row-kept w s next op wide (with_index w left idx) imm is small
executed-kept w s next (insns.Arith op wide left right extra) is small =
    arith_row-kept w s next op wide (plain left) (with_extra w right extra) is small
executed-kept w s next (insns.Move size bits left right lidx ridx) is small =
    move_row-kept w s next size (with_index w left lidx) (with_index w right ridx) is small
executed-kept w s next (insns.MoveSigned bits left right lidx extra) is small =
    move_signed_row-kept w s next (with_index w left lidx) (with_extra w right extra) is small
executed-kept w s next (insns.MoveImm size bits left lidx imm) is small =
    move_imm_row-kept w s next size (with_index w left lidx) imm is small
executed-kept w s next (insns.MoveImmNatural bits left lidx idx) is small =
    move_imm_natural_row-kept w s next (with_index w left lidx) idx is small
executed-kept w s next (insns.MoveRelative bits left lidx imm) is small =
    move_relative_row-kept w s next (with_index w left lidx) imm is small
executed-kept w s next (insns.LoadSpecial from) is small = load_special_row-kept w s next from is small
executed-kept w s next (insns.StoreSpecial to special) is small = store_special_row-kept w s next to special is small
executed-kept w s next (insns.Push wide op extra) is small = push_row-kept w s next (form_bytes wide) (with_extra w op extra) is small
    (form_access wide)
executed-kept w s next (insns.Pop wide op extra) is small = pop_row-kept w s next (form_bytes wide) true (with_extra w op extra) is small
    (form_access wide)
executed-kept w s next (insns.PushNatural op extra) is small = push_row-kept w s next w (with_extra w op extra) is small
    (width_access w is.width)
executed-kept w s next (insns.PopNatural op extra) is small = pop_row-kept w s next w false (with_extra w op extra) is small
    (width_access w is.width)

done-kept : (w : ℕ) (s : Concrete) → IsConcrete w s → KeepsRow w (instruction_done w s)
unfolding instruction_done
done-kept w s is =
    ok_next (λ r. IsConcrete w r.1) (fetched s) _ (λ found. executed-kept w s ((s.ip + found.1) % 2 ^ 64) found.0 is
    (small_mod (s.ip + found.1)))

ended-kept : (w : ℕ) (s : Concrete) (row : Row) → IsConcrete w s → KeepsRow w row → IsConcrete w (ended s row).1
ended-kept w s (Ok done) is kept = kept
ended-kept w s (Err e) is kept = is

pub step_keeps_concrete : StepKeepsConcrete
unfolding machine_step
step_keeps_concrete w s is =
    cond_both (nat_eq s.ip s.gate) (ends.Gate, s) (ended s (instruction_done w s)) (λ (r : StepEnd × Concrete). IsConcrete w r.1)
    (λ gate. is)
    (λ other. ended-kept w s (instruction_done w s) is (done-kept w s is))
