-- Each row of the machine leads from a state that a machine can be in to such a state.
use Rattle.std.proofs.Common.{ℕ, ◌+◌, ◌-◌, ◌*◌, ◌/◌, ◌%◌, ◌^◌, ◌<◌, Bool, true, false, if◌then◌else◌, Ok, arith, ℤ, pos, ◌*ℤ◌}
use Rattle.std.specs.Prelude.{IfOk, nat_eq}
use Rattle.std.proofs.lemmas.Bool.{cond_both}
use Rattle.ebc_base.specs.Steps.{◌>>=◌}
use Rattle.ebc_width.specs.Width.{extended_at, wrap64}
use Rattle.ebc_width.specs.Bytes.{IsAccess}
use Rattle.ebc_width.proofs.Laws.{extended_at-below, wrap64-below}
use Rattle.natural_index.specs.Index.{index_value}
use Rattle.natural_index.specs.declared.Index.{Index}
use Rattle.ebc_insn.specs.declared.ArithOp.{ArithOp}
use Rattle.ebc_insn.specs.declared.CmpOp.{CmpOp}
use Rattle.ebc_insn.specs.declared.Cond.{Cond}
use Rattle.ebc_insn.specs.declared.Size.{Size}
use Rattle.machine_alu.specs.Alu.{computed, compared}
use Rattle.note_types.specs.Concrete.{Concrete, IsConcrete, register, stored, with_register, with_flags}
use Rattle.note_types.specs.declared.exception.Exception.{Exception}
use Rattle.note_types.specs.declared.exception.Exception.TheVariants as raises
use Rattle.ebc_machine.specs.declared.operand.Side.{Side}
use Rattle.ebc_machine.specs.Results.{Written, Row, or_divide_error, goes}
use Rattle.ebc_machine.specs.Operands.{form_bytes, size_bytes, low_bytes, index_offset, address, loaded_at, stored_at, value, written}
use Rattle.ebc_machine.specs.Data.{with_c, arith_row, compare_row, compare_imm_row}
use Rattle.ebc_machine.specs.Moves.{move_row, move_signed_row, move_imm_row, move_imm_natural_row, move_relative_row, load_special_row}
use Rattle.ebc_machine.specs.Moves.{store_special_row}
use Rattle.ebc_machine.specs.Stack.{stack_fault, raised_by, lowered_by, pushed, popped, popped_number, push_row, pop_row}
use Rattle.ebc_machine.specs.Flow.{is_taken, aligned, target_at, called, jump_row, jump8_row, call_row, call_native_row, return_row}
use Rattle.ebc_machine.specs.Flow.{break_row}
use Rattle.ebc_machine.proofs.StateLaws.{IsConcrete-with_register, IsConcrete-at_ip, IsConcrete-with_flags, IsConcrete-stored}
use Rattle.ebc_machine.proofs.ValueLaws.{IsSmall, held_or, width_access, form_access, size_access, small_mod, small_low, loaded_at-small}
use Rattle.ebc_machine.proofs.ValueLaws.{value-small, divided-small, target_at-small, aligned-small}
use Rattle.ebc_base.proofs.Given.{ok_then}

-- The state after a write, if there is one, is one that a machine can be in.
abbrev pub KeepsWritten : ℕ → Written → Type 0
KeepsWritten w after = IfOk after (IsConcrete w)

-- The state after an instruction, if it is done, is one that a machine can be in.
abbrev pub KeepsRow : ℕ → Row → Type 0
KeepsRow w row = IfOk row (λ r. IsConcrete w r.1)

-- ---- the parts of rows

goes-kept : (w : ℕ) (s : Concrete) (to : ℕ) → IsConcrete w s → IsSmall to → KeepsRow w (goes s to)
unfolding goes
goes-kept w s to is small = IsConcrete-at_ip w s to is small

stored_at-kept : (w : ℕ) (s : Concrete) (e : Exception) (k r offset v : ℕ) → IsConcrete w s → KeepsWritten w (stored_at w s e k r offset v)
unfolding stored_at
stored_at-kept w s e k r offset v is =
    held_or (IsConcrete w) e (stored s (address w s r offset) k v)
    (λ after same. IsConcrete-stored w s (address w s r offset) k v after is same)

written-kept : (w : ℕ) (s : Concrete) (k : ℕ) (o : Side) (v : ℕ) → IsConcrete w s → IsSmall v → KeepsWritten w (written w s k o v)
unfolding written
written-kept w s k o v is small =
    cond_both o.indirect (stored_at w s raises.MemoryFault k o.reg o.offset v) (Ok (with_register s o.reg v)) (KeepsWritten w)
    (λ memory. stored_at-kept w s raises.MemoryFault k o.reg o.offset v is)
    (λ direct. IsConcrete-with_register w s o.reg v is small)

-- a write, and then the next instruction
then_next : (w : ℕ) (after : Written) (next : ℕ) → KeepsWritten w after → IsSmall next → KeepsRow w (after >>= (λ s. goes s next))
then_next w after next kept small = ok_then (IsConcrete w) (λ r. IsConcrete w r.1) after (λ s. goes s next) kept
    (λ s is. goes-kept w s next is small)

-- ---- arithmetic and comparisons

pub arith_row-kept : (w : ℕ) (s : Concrete) (next : ℕ) (op : ArithOp) (wide : Bool) (left right : Side) → IsConcrete w s → IsSmall next
    → KeepsRow w (arith_row w s next op wide left right)
unfolding arith_row
arith_row-kept w s next op wide left right is small =
    ok_then IsSmall (λ r. IsConcrete w r.1) (value w s raises.MemoryFault (form_bytes wide) right) _
    (value-small w s raises.MemoryFault (form_bytes wide) right is (form_access wide))
    (λ b b_small. ok_then IsSmall (λ r. IsConcrete w r.1) (value w s raises.MemoryFault (form_bytes wide) left) _
    (value-small w s raises.MemoryFault (form_bytes wide) left is (form_access wide))
    (λ a a_small. ok_then IsSmall (λ r. IsConcrete w r.1) (or_divide_error (computed op wide a b)) _
    (divided-small op wide a b)
    (λ v v_small. then_next w (written w s (form_bytes wide) left v) next (written-kept w s (form_bytes wide) left v is v_small) small)))

with_c-below : (flags : ℕ) (c : Bool) → flags < 4 → with_c flags c < 4
with_c-below flags true below = omega arith
with_c-below flags false below = omega arith

pub compare_row-kept : (w : ℕ) (s : Concrete) (next : ℕ) (op : CmpOp) (wide : Bool) (left : ℕ) (right : Side) → IsConcrete w s
    → IsSmall next → KeepsRow w (compare_row w s next op wide left right)
unfolding compare_row
compare_row-kept w s next op wide left right is small =
    ok_then IsSmall (λ r. IsConcrete w r.1) (value w s raises.MemoryFault (form_bytes wide) right) _
    (value-small w s raises.MemoryFault (form_bytes wide) right is (form_access wide))
    (λ b b_small. let flags = with_c s.flags (compared op wide (register s left) b) in
    goes-kept w (with_flags s flags) next (IsConcrete-with_flags w s flags is
    (with_c-below s.flags (compared op wide (register s left) b) is.flags)) small)

pub compare_imm_row-kept : (w : ℕ) (s : Concrete) (next : ℕ) (op : CmpOp) (wide : Bool) (left : Side) (imm : ℤ) → IsConcrete w s
    → IsSmall next → KeepsRow w (compare_imm_row w s next op wide left imm)
unfolding compare_imm_row
compare_imm_row-kept w s next op wide left imm is small =
    ok_then IsSmall (λ r. IsConcrete w r.1) (value w s raises.MemoryFault (form_bytes wide) left) _
    (value-small w s raises.MemoryFault (form_bytes wide) left is (form_access wide))
    (λ a a_small. let flags = with_c s.flags (compared op wide a (wrap64 imm)) in
    goes-kept w (with_flags s flags) next (IsConcrete-with_flags w s flags is
    (with_c-below s.flags (compared op wide a (wrap64 imm)) is.flags)) small)

-- ---- moves

pub move_row-kept : (w : ℕ) (s : Concrete) (next : ℕ) (size : Size) (left right : Side) → IsConcrete w s → IsSmall next
    → KeepsRow w (move_row w s next size left right)
unfolding move_row
move_row-kept w s next size left right is small =
    ok_then IsSmall (λ r. IsConcrete w r.1) (value w s raises.MemoryFault (size_bytes w size) right) _
    (value-small w s raises.MemoryFault (size_bytes w size) right is (size_access w size is.width))
    (λ v v_small. then_next w (written w s (size_bytes w size) left (low_bytes (size_bytes w size) v)) next
    (written-kept w s (size_bytes w size) left (low_bytes (size_bytes w size) v) is (small_low (size_bytes w size) v v_small)) small)

pub move_signed_row-kept : (w : ℕ) (s : Concrete) (next : ℕ) (left right : Side) → IsConcrete w s → IsSmall next
    → KeepsRow w (move_signed_row w s next left right)
unfolding move_signed_row
move_signed_row-kept w s next left right is small =
    ok_then IsSmall (λ r. IsConcrete w r.1) (value w s raises.MemoryFault w right) _
    (value-small w s raises.MemoryFault w right is (width_access w is.width))
    (λ v v_small. then_next w (written w s w left (extended_at w v)) next
    (written-kept w s w left (extended_at w v) is (extended_at-below w v is.width)) small)

pub move_imm_row-kept : (w : ℕ) (s : Concrete) (next : ℕ) (size : Size) (left : Side) (imm : ℤ) → IsConcrete w s → IsSmall next
    → KeepsRow w (move_imm_row w s next size left imm)
unfolding move_imm_row
move_imm_row-kept w s next size left imm is small =
    then_next w (written w s (size_bytes w size) left (low_bytes (size_bytes w size) (wrap64 imm))) next
    (written-kept w s (size_bytes w size) left (low_bytes (size_bytes w size) (wrap64 imm)) is
    (small_low (size_bytes w size) (wrap64 imm) (wrap64-below imm))) small

pub move_imm_natural_row-kept : (w : ℕ) (s : Concrete) (next : ℕ) (left : Side) (idx : Index) → IsConcrete w s → IsSmall next
    → KeepsRow w (move_imm_natural_row w s next left idx)
unfolding move_imm_natural_row
move_imm_natural_row-kept w s next left idx is small =
    then_next w (written w s w left (index_offset w idx)) next
    (written-kept w s w left (index_offset w idx) is (wrap64-below (index_value w idx))) small

pub move_relative_row-kept : (w : ℕ) (s : Concrete) (next : ℕ) (left : Side) (imm : ℤ) → IsConcrete w s → IsSmall next
    → KeepsRow w (move_relative_row w s next left imm)
unfolding move_relative_row
move_relative_row-kept w s next left imm is small =
    then_next w (written w s w left ((next + wrap64 imm) % 2 ^ 64)) next
    (written-kept w s w left ((next + wrap64 imm) % 2 ^ 64) is (small_mod (next + wrap64 imm))) small

pub load_special_row-kept : (w : ℕ) (s : Concrete) (next from : ℕ) → IsConcrete w s → IsSmall next
    → KeepsRow w (load_special_row s next from)
unfolding load_special_row
load_special_row-kept w s next from is small =
    let flags = s.flags / 4 * 4 + register s from % 4 in
    goes-kept w (with_flags s flags) next (IsConcrete-with_flags w s flags is (cleared s.flags (register s from) is.flags)) small
  where
    cleared : (old new : ℕ) → old < 4 → old / 4 * 4 + new % 4 < 4
    cleared old new below = omega arith

pub store_special_row-kept : (w : ℕ) (s : Concrete) (next to special : ℕ) → IsConcrete w s → IsSmall next
    → KeepsRow w (store_special_row s next to special)
unfolding store_special_row
store_special_row-kept w s next to special is small =
    let v = if nat_eq special 0 then s.flags else next in
    goes-kept w (with_register s to v) next
    (IsConcrete-with_register w s to v is (cond_both (nat_eq special 0) s.flags next IsSmall (λ flags. few s.flags is.flags)
    (λ ip. small))) small
  where
    few : (flags : ℕ) → flags < 4 → IsSmall flags
    few flags below = omega arith

-- ---- the stack

raised_by-kept : (w : ℕ) (s : Concrete) (n : ℕ) → IsConcrete w s → IsConcrete w (raised_by s n)
unfolding raised_by
raised_by-kept w s n is = IsConcrete-with_register w s 0 ((register s 0 + n) % 2 ^ 64) is (small_mod (register s 0 + n))

lowered_by-kept : (w : ℕ) (s : Concrete) (n : ℕ) → IsConcrete w s → IsConcrete w (lowered_by s n)
unfolding lowered_by
lowered_by-kept w s n is = IsConcrete-with_register w s 0 ((register s 0 + (2 ^ 64 - n)) % 2 ^ 64) is
    (small_mod (register s 0 + (2 ^ 64 - n)))

pushed-kept : (w : ℕ) (s : Concrete) (k v : ℕ) → IsConcrete w s → KeepsWritten w (pushed w s k v)
unfolding pushed
pushed-kept w s k v is = stored_at-kept w (lowered_by s k) raises.StackFault k 0 0 v (lowered_by-kept w s k is)

popped-kept : (w : ℕ) (s : Concrete) (k : ℕ) (op : Side) (v : ℕ) → IsConcrete w s → KeepsWritten w (popped w s k op v)
unfolding popped
popped-kept w s k op v is =
    cond_both op.indirect (stored_at w s (stack_fault op.reg) k op.reg op.offset v) (Ok (with_register s op.reg ((v + op.offset) % 2 ^ 64)))
    (KeepsWritten w)
    (λ memory. stored_at-kept w s (stack_fault op.reg) k op.reg op.offset v is)
    (λ direct. IsConcrete-with_register w s op.reg ((v + op.offset) % 2 ^ 64) is (small_mod (v + op.offset)))

pub push_row-kept : (w : ℕ) (s : Concrete) (next k : ℕ) (op : Side) → IsConcrete w s → IsSmall next → IsAccess k
    → KeepsRow w (push_row w s next k op)
unfolding push_row
push_row-kept w s next k op is small access =
    ok_then IsSmall (λ r. IsConcrete w r.1) (value w s (stack_fault op.reg) k op) _
    (value-small w s (stack_fault op.reg) k op is access)
    (λ v v_small. then_next w (pushed w s k v) next (pushed-kept w s k v is) small)

pub pop_row-kept : (w : ℕ) (s : Concrete) (next k : ℕ) (sign : Bool) (op : Side) → IsConcrete w s → IsSmall next → IsAccess k
    → KeepsRow w (pop_row w s next k sign op)
unfolding pop_row
pop_row-kept w s next k sign op is small access =
    ok_then IsSmall (λ r. IsConcrete w r.1) (loaded_at w s raises.StackFault k 0 0) _
    (loaded_at-small w s raises.StackFault k 0 0 is access)
    (λ v v_small. then_next w (popped w (raised_by s k) k op (popped_number sign k v)) next
    (popped-kept w (raised_by s k) k op (popped_number sign k v) (raised_by-kept w s k is)) small)

-- ---- control

-- to an address that must be even
goes_aligned : (w : ℕ) (s : Concrete) (target : ℕ) → IsConcrete w s → IsSmall target → KeepsRow w (aligned target >>= (λ to. goes s to))
goes_aligned w s target is small =
    ok_then IsSmall (λ r. IsConcrete w r.1) (aligned target) (λ to. goes s to) (aligned-small target small)
    (λ to to_small. goes-kept w s to is to_small)

pub jump_row-kept : (w : ℕ) (s : Concrete) (next : ℕ) (cond : Cond) (relative : Bool) (op : Side) → IsConcrete w s → IsSmall next
    → KeepsRow w (jump_row w s next cond relative op)
unfolding jump_row
jump_row-kept w s next cond relative op is small =
    cond_both (is_taken cond s.flags) _ (goes s next) (KeepsRow w)
    (λ taken. ok_then IsSmall (λ r. IsConcrete w r.1) (target_at w s next relative op) _ (target_at-small w s next relative op is)
    (λ t t_small. goes_aligned w s t is t_small))
    (λ passed. goes-kept w s next is small)

pub jump8_row-kept : (w : ℕ) (s : Concrete) (next : ℕ) (cond : Cond) (words : ℤ) → IsConcrete w s → IsSmall next
    → KeepsRow w (jump8_row s next cond words)
unfolding jump8_row
jump8_row-kept w s next cond words is small =
    cond_both (is_taken cond s.flags) _ (goes s next) (KeepsRow w)
    (λ taken. goes_aligned w s ((next + wrap64 (words *ℤ pos 2)) % 2 ^ 64) is (small_mod (next + wrap64 (words *ℤ pos 2))))
    (λ passed. goes-kept w s next is small)

called-kept : (w : ℕ) (s : Concrete) (next : ℕ) → IsConcrete w s → KeepsWritten w (called w s next)
unfolding called
called-kept w s next is =
    ok_then (IsConcrete w) (IsConcrete w) (stored_at w (lowered_by s 16) raises.StackFault 8 0 0 next) _
    (stored_at-kept w (lowered_by s 16) raises.StackFault 8 0 0 next (lowered_by-kept w s 16 is))
    (λ low low_is. stored_at-kept w low raises.StackFault 8 0 8 0 low_is)

pub call_row-kept : (w : ℕ) (s : Concrete) (next : ℕ) (relative : Bool) (op : Side) → IsConcrete w s
    → KeepsRow w (call_row w s next relative op)
unfolding call_row
call_row-kept w s next relative op is =
    ok_then IsSmall (λ r. IsConcrete w r.1) (target_at w s next relative op) _ (target_at-small w s next relative op is)
    (λ t t_small. ok_then IsSmall (λ r. IsConcrete w r.1) (aligned t) _ (aligned-small t t_small)
    (λ to to_small. ok_then (IsConcrete w) (λ r. IsConcrete w r.1) (called w s next) _ (called-kept w s next is)
    (λ inside inside_is. goes-kept w inside to inside_is to_small)))

pub call_native_row-kept : (w : ℕ) (s : Concrete) (next : ℕ) (relative : Bool) (op : Side) → IsConcrete w s → IsSmall next
    → KeepsRow w (call_native_row w s next relative op)
unfolding call_native_row
call_native_row-kept w s next relative op is small =
    ok_then IsSmall (λ r. IsConcrete w r.1) (target_at w s next relative op) _ (target_at-small w s next relative op is)
    (λ t t_small. IsConcrete-at_ip w s next is small)

pub return_row-kept : (w : ℕ) (s : Concrete) → IsConcrete w s → KeepsRow w (return_row w s)
unfolding return_row
return_row-kept w s is =
    ok_then IsSmall (λ r. IsConcrete w r.1) (loaded_at w s raises.StackFault 8 0 0) _
    (loaded_at-small w s raises.StackFault 8 0 0 is (form_access true))
    (λ t t_small. goes_aligned w (raised_by s 16) t (raised_by-kept w s 16 is) t_small)

pub break_row-kept : (w : ℕ) (s : Concrete) (next code : ℕ) → IsConcrete w s → IsSmall next → KeepsRow w (break_row s next code)
unfolding break_row
break_row-kept w s next code is small =
    cond_both (nat_eq code 1) _ _ (KeepsRow w) (λ one. goes-kept w (with_register s 7 0x10000) next
    (IsConcrete-with_register w s 7 0x10000 is (omega arith)) small)
    (λ e1. cond_both (nat_eq code 3) _ _ (KeepsRow w) (λ three. tt)
    (λ e3. cond_both (nat_eq code 5) _ _ (KeepsRow w) (λ five. IsConcrete-at_ip w s next is small)
    (λ e5. cond_both (nat_eq code 4) _ _ (KeepsRow w) (λ four. goes-kept w s next is small)
    (λ e4. cond_both (nat_eq code 6) _ _ (KeepsRow w) (λ six. goes-kept w s next is small) (λ e6. tt)))))
