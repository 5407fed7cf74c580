-- One instruction at one width.
use Rattle.instruction_laws.proofs.Common.{◌≡◌, ℕ, ◌+◌, ◌<◌, ◌≤◌, Bool, true, false, not, ◌&&◌, if◌then◌else◌, nat_eq, Option, None, refl}
use Rattle.instruction_laws.proofs.Common.{arith, eqb-true, and_parts, false≢true, IsWidth, Index, WellFormed, Insn, Operand, Size}
use Rattle.instruction_laws.proofs.Common.{optional_offset, extra_offset, Concrete, Config, World, Placement, IsPlacement, stack_bytes}
use Rattle.instruction_laws.proofs.Common.{total, Does, RowsAlike, plainly, indexed, beside_extra, Site, is_stack_pointer, stack_row}
use Rattle.instruction_laws.proofs.Common.{move_row, executed, MachineStands, HasRoom, index_growth, IsAt, WorldFits}
use Rattle.instruction_laws.specs.Laws.{OneInstruction}
use Rattle.instruction_laws.proofs.Operands.{address_of, nothing_beside, optional_beside, extra_beside}
use Rattle.instruction_laws.proofs.DataRows.{arith_does, compare_does, compare_imm_does, move_does, move_signed_does, move_imm_does}
use Rattle.instruction_laws.proofs.DataRows.{move_imm_natural_does, move_relative_does, store_special_does}
use Rattle.instruction_laws.proofs.StackRows.{push_does, push_natural_does, pop_does, pop_natural_does, stack_does}
use Rattle.instruction_laws.proofs.FlowRows.{jump_does, jump8_does, call_does, call_native_does, return_does, break_does}
use Rattle.ebc_machine.proofs.Fits.{target_register}
use Rattle.ebc_insn.specs.declared.Insn.TheVariants as insns
use Rattle.ebc_machine.specs.Moves as machine_moves
use Rattle.ebc_machine.specs.Step as machine

module _ (w : ℕ) (world : World) (P : Placement) (mapped : ℕ → ℕ) (h : IsWidth w) (ok : WorldFits world) (pl : IsPlacement w world P) where
  move_any : (a : Config) (s : Concrete) (next : ℕ) (size : Size) (left right : Operand) (lidx ridx : Option Index) (n : ℕ) → left.reg < 8
      → right.reg < 8 → HasRoom w world a (insns.Move size n left right lidx ridx) → MachineStands w world P mapped None a s
      → Does (RowsAlike w world P mapped) (if is_stack_pointer (plainly left) then stack_row world a next size right lidx ridx
      else move_row world a next size (indexed left lidx) (indexed right ridx))
      (machine_moves.move_row w s (address_of w world P mapped h ok pl next) size
      (record { reg = left.reg; indirect = left.indirect; offset = optional_offset w lidx })
      (record { reg = right.reg; indirect = right.indirect; offset = optional_offset w ridx }))
  move_any a s next size left right lidx ridx n l r room st = go (not left.indirect && nat_eq left.reg 0) refl room
    where
      direct : (b : Bool) → not b ≡ true → b ≡ false
      direct false e = refl
      direct true e = absurd (false≢true e)

      go : (t : Bool) → (not left.indirect && nat_eq left.reg 0) ≡ t
          → (if t then index_growth w world a ridx else 0) + total w a.frames ≤ stack_bytes w world.notes
          → Does (RowsAlike w world P mapped) (if t then stack_row world a next size right lidx ridx
          else move_row world a next size (indexed left lidx) (indexed right ridx))
          (machine_moves.move_row w s (address_of w world P mapped h ok pl next) size
          (record { reg = left.reg; indirect = left.indirect; offset = optional_offset w lidx })
          (record { reg = right.reg; indirect = right.indirect; offset = optional_offset w ridx }))
      go true e room = let p = and_parts (not left.indirect) (nat_eq left.reg 0) e in
          stack_does w world P mapped h ok pl a s next size left right lidx ridx (direct left.indirect p.0)
          (eqb-true left.reg 0 p.1) room st
      go false e room = move_does w world P mapped h ok pl a s next size (indexed left lidx) (indexed right ridx) (optional_offset w lidx)
          (optional_offset w ridx) l r (omega (arith, room)) st (optional_beside w world P mapped h ok pl lidx)
          (optional_beside w world P mapped h ok pl ridx)

  -- by the form of the instruction
  by_form : (a : Config) (s : Concrete) (here : Site) (i : Insn) → MachineStands w world P mapped None a s → IsAt world P a s here i
      → WellFormed i → HasRoom w world a i → Does (RowsAlike w world P mapped) (executed world a here i)
      (machine.executed w s (address_of w world P mapped h ok pl here.next) i)
  unfolding executed machine.executed
  by_form a s here (insns.Break code) st at f room = break_does w world P mapped h ok pl a s here.next code (omega (arith, room)) st
  by_form a s here (insns.Jump cond far relative op extra) st at f room =
      jump_does w world P mapped h ok pl a s here cond relative op extra (target_register far op extra f) st at.names
  by_form a s here (insns.Jump8 cond n) st at f room = jump8_does w world P mapped h ok pl a s here.next cond n st
  by_form a s here (insns.Call far false relative op extra) st at f room =
      call_does w world P mapped h ok pl a s here relative op extra (target_register far op extra f) room st at.names
  by_form a s here (insns.Call far true relative op extra) st at f room =
      call_native_does w world P mapped h ok pl a s here.next relative op extra (target_register far op extra f) (omega (arith, room)) st
  by_form a s here insns.Ret st at f room = return_does w world P mapped h ok pl a s (omega (arith, room)) st
  by_form a s here (insns.Compare op wide left right extra) st at f room =
      compare_does w world P mapped h ok pl a s here.next op wide left (beside_extra right extra) (extra_offset w extra) f.0 f.1
      (omega (arith, room)) st (extra_beside w world P mapped h ok pl extra)
  by_form a s here (insns.CompareImm op wide left idx long imm) st at f room =
      compare_imm_does w world P mapped h ok pl a s here.next op wide (indexed left idx) (optional_offset w idx) imm f.0
      (omega (arith, room)) st (optional_beside w world P mapped h ok pl idx)
  by_form a s here (insns.Arith op wide left right extra) st at f room =
      arith_does w world P mapped h ok pl a s here.next op wide (plainly left) (beside_extra right extra) 0 (extra_offset w extra) f.0 f.1
      (omega (arith, room)) st (nothing_beside w world P mapped h ok pl) (extra_beside w world P mapped h ok pl extra)
  by_form a s here (insns.Move size bits left right lidx ridx) st at f room =
      move_any a s here.next size left right lidx ridx bits f.1 f.2 room st
  by_form a s here (insns.MoveSigned bits left right lidx extra) st at f room =
      move_signed_does w world P mapped h ok pl a s here.next (indexed left lidx) (beside_extra right extra) (optional_offset w lidx)
      (extra_offset w extra) f.1 f.2 (omega (arith, room)) st (optional_beside w world P mapped h ok pl lidx)
      (extra_beside w world P mapped h ok pl extra)
  by_form a s here (insns.MoveImm size bits left lidx imm) st at f room =
      move_imm_does w world P mapped h ok pl a s here size (indexed left lidx) (optional_offset w lidx) imm f.2 (omega (arith, room)) st
      (optional_beside w world P mapped h ok pl lidx) at.names
  by_form a s here (insns.MoveImmNatural bits left lidx idx) st at f room =
      move_imm_natural_does w world P mapped h ok pl a s here.next (indexed left lidx) (optional_offset w lidx) idx f.1
      (omega (arith, room)) st (optional_beside w world P mapped h ok pl lidx)
  by_form a s here (insns.MoveRelative bits left lidx imm) st at f room =
      move_relative_does w world P mapped h ok pl a s here.next (indexed left lidx) (optional_offset w lidx) imm f.1
      (omega (arith, room)) st (optional_beside w world P mapped h ok pl lidx)
  by_form a s here (insns.LoadSpecial from) st at f room = tt
  by_form a s here (insns.StoreSpecial to special) st at f room =
      store_special_does w world P mapped h ok pl a s here.next to special f.0 st
  by_form a s here (insns.Push wide op extra) st at f room = push_does w world P mapped h ok pl a s here.next wide (beside_extra op extra)
      (extra_offset w extra) f.0 room st (extra_beside w world P mapped h ok pl extra)
  by_form a s here (insns.Pop wide op extra) st at f room = pop_does w world P mapped h ok pl a s here.next wide (beside_extra op extra)
      (extra_offset w extra) f.0 (omega (arith, room)) st (extra_beside w world P mapped h ok pl extra)
  by_form a s here (insns.PushNatural op extra) st at f room = push_natural_does w world P mapped h ok pl a s here.next
      (beside_extra op extra) (extra_offset w extra) f.0 room st (extra_beside w world P mapped h ok pl extra)
  by_form a s here (insns.PopNatural op extra) st at f room = pop_natural_does w world P mapped h ok pl a s here.next
      (beside_extra op extra) (extra_offset w extra) f.0 (omega (arith, room)) st (extra_beside w world P mapped h ok pl extra)

-- One instruction at one width, whatever the configuration holds.
pub one_instruction : OneInstruction
one_instruction w world P mapped a s here i h pl ok st at room = by_form w world P mapped h ok pl a s here i st at at.well_formed room
