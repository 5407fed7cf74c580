-- Laws of the ends of an instruction: one that asks for a thunk leaves all but ip as it was, and at the gate nothing is done.
use Rattle.twin_run.proofs.Common.{◌≡◌, ℕ, ◌+◌, ◌*◌, ◌%◌, ◌^◌, Bool, true, false, Result, Ok, Err, refl, sym, subst, nat_eq, if◌then◌else◌}
use Rattle.twin_run.proofs.Common.{pos, ⊤, Insn, compared, computed, Concrete, register, with_register, Exception, machine_step, StepEnd}
use Rattle.std.proofs.Common.{◌/◌, ℤ}
use Rattle.std.specs.Prelude.{◌*ℤ◌}
use Rattle.ebc_base.specs.Steps.{◌>>=◌}
use Rattle.ebc_insn.specs.declared.{ArithOp.ArithOp, CmpOp.CmpOp, Cond.Cond, Size.Size}
use Rattle.ebc_width.specs.Width.{extended_at, wrap64}
use Rattle.natural_index.specs.declared.Index.{Index}
use Rattle.note_types.specs.Concrete.{at_ip, with_flags}
use Rattle.ebc_machine.specs.Flow.{aligned, break_row, call_native_row, call_row, called, is_taken, jump8_row, jump_row, return_row}
use Rattle.ebc_machine.specs.Moves.{load_special_row, move_imm_natural_row, move_imm_row, move_relative_row, move_row, move_signed_row}
use Rattle.ebc_machine.specs.{Data.arith_row, Data.compare_row, Data.compare_imm_row, Data.with_c, Fetch.fetched, Flow.target_at}
use Rattle.ebc_machine.specs.{Moves.store_special_row, Operands.form_bytes, Operands.index_offset, Operands.loaded_at, Operands.low_bytes}
use Rattle.ebc_machine.specs.{Operands.size_bytes, Operands.value, Operands.written, Results.Row, Results.Written, Results.goes}
use Rattle.ebc_machine.specs.{Results.or_divide_error, Stack.pop_row, Stack.popped, Stack.popped_number, Stack.push_row, Stack.pushed}
use Rattle.ebc_machine.specs.{Stack.raised_by, Stack.stack_fault, Step.ended, Step.executed, Step.instruction_done}
use Rattle.ebc_machine.specs.declared.operand.Side.{Side}
use Rattle.ebc_insn.specs.declared.Insn.TheVariants as insns
use Rattle.note_types.specs.declared.exception.Exception.TheVariants as raises
use Rattle.ebc_machine.specs.declared.StepEnd.TheVariants as ends

-- what is as it was where a step ends so
abbrev pub Stays : Concrete → StepEnd → Concrete → Type 0
Stays s (ends.MakeThunk a) t = record t { ip = s.ip } ≡ s
Stays s ends.Gate t = t ≡ s
Stays s e t = ⊤

unfoldable StaysRow : Concrete → Row → Type 0
StaysRow s (Ok x) = Stays s x.0 x.1
StaysRow s (Err e) = ⊤

then_stays : {A : Type 0} (s : Concrete) (m : Result A Exception) (f : A → Row) → ((x : A) → StaysRow s (f x)) → StaysRow s (m >>= f)
unfolding StaysRow
then_stays s (Ok x) f each = each x
then_stays s (Err e) f each = tt

if_stays : (s : Concrete) (b : Bool) (x y : Row) → StaysRow s x → StaysRow s y → StaysRow s (if b then x else y)
if_stays s true x y p q = p
if_stays s false x y p q = q

goes_stays : (s t : Concrete) (to : ℕ) → StaysRow s (goes t to)
unfolding StaysRow goes
goes_stays s t to = tt

err_stays : (s : Concrete) (e : Exception) → StaysRow s (Err e)
unfolding StaysRow
err_stays s e = tt

native_stays : (s t : Concrete) (target : ℕ) → StaysRow s (Ok (ends.Native target, t))
unfolding StaysRow
native_stays s t target = tt

thunk_stays : (s : Concrete) (a next : ℕ) → StaysRow s (Ok (ends.MakeThunk a, at_ip s next))
unfolding StaysRow at_ip
thunk_stays s a next = refl

next_stays : (s : Concrete) (after : Written) (next : ℕ) → StaysRow s (after >>= (λ t. goes t next))
next_stays s after next = then_stays s after (λ t. goes t next) (λ t. goes_stays s t next)

aligned_stays : (s t : Concrete) (target : ℕ) → StaysRow s (aligned target >>= (λ to. goes t to))
aligned_stays s t target = then_stays s (aligned target) (λ to. goes t to) (λ to. goes_stays s t to)

break_stays : (s : Concrete) (next code : ℕ) → StaysRow s (break_row s next code)
unfolding break_row
break_stays s next code =
    if_stays s (nat_eq code 1) (goes (with_register s 7 0x10000) next) (if nat_eq code 3 then Err raises.Breakpoint else if nat_eq code 5
    then Ok (ends.MakeThunk (register s 7), at_ip s next) else if nat_eq code 4 then goes s next else if nat_eq code 6 then goes s next
    else Err raises.BadBreak) (goes_stays s (with_register s 7 0x10000) next)
    (if_stays s (nat_eq code 3) (Err raises.Breakpoint) (if nat_eq code 5 then Ok (ends.MakeThunk (register s 7), at_ip s next) else if
    nat_eq code 4 then goes s next else if nat_eq code 6 then goes s next else Err raises.BadBreak) (err_stays s raises.Breakpoint)
    (if_stays s (nat_eq code 5) (Ok (ends.MakeThunk (register s 7), at_ip s next)) (if nat_eq code 4 then goes s next else if nat_eq code 6
    then goes s next else Err raises.BadBreak) (thunk_stays s (register s 7) next)
    (if_stays s (nat_eq code 4) (goes s next) (if nat_eq code 6 then goes s next else Err raises.BadBreak) (goes_stays s s next)
    (if_stays s (nat_eq code 6) (goes s next) (Err raises.BadBreak) (goes_stays s s next) (err_stays s raises.BadBreak)))))

jump_stays : (w : ℕ) (s : Concrete) (next : ℕ) (cond : Cond) (relative : Bool) (op : Side) → StaysRow s (jump_row w s next cond relative op)
unfolding jump_row
jump_stays w s next cond relative op =
    if_stays s (is_taken cond s.flags) (target_at w s next relative op >>= (λ t. aligned t >>= (λ to. goes s to))) (goes s next)
    (then_stays s (target_at w s next relative op) (λ t. aligned t >>= (λ to. goes s to)) (λ t. aligned_stays s s t)) (goes_stays s s next)

jump8_stays : (s : Concrete) (next : ℕ) (cond : Cond) (words : ℤ) → StaysRow s (jump8_row s next cond words)
unfolding jump8_row
jump8_stays s next cond words =
    if_stays s (is_taken cond s.flags) (aligned ((next + wrap64 (words *ℤ pos 2)) % 2 ^ 64) >>= (λ to. goes s to)) (goes s next)
    (aligned_stays s s ((next + wrap64 (words *ℤ pos 2)) % 2 ^ 64)) (goes_stays s s next)

call_stays : (w : ℕ) (s : Concrete) (next : ℕ) (relative : Bool) (op : Side) → StaysRow s (call_row w s next relative op)
unfolding call_row
call_stays w s next relative op =
    then_stays s (target_at w s next relative op) (λ t. aligned t >>= (λ to. called w s next >>= (λ inside. goes inside to)))
    (λ t. then_stays s (aligned t) (λ to. called w s next >>= (λ inside. goes inside to)) (λ to. next_stays s (called w s next) to))

native_call_stays : (w : ℕ) (s : Concrete) (next : ℕ) (relative : Bool) (op : Side) → StaysRow s (call_native_row w s next relative op)
unfolding call_native_row
native_call_stays w s next relative op =
    then_stays s (target_at w s next relative op) (λ t. Ok (ends.Native t, at_ip s next)) (λ t. native_stays s (at_ip s next) t)

return_stays : (w : ℕ) (s : Concrete) → StaysRow s (return_row w s)
unfolding return_row
return_stays w s =
    then_stays s (loaded_at w s raises.StackFault 8 0 0) (λ t. aligned t >>= (λ to. goes (raised_by s 16) to))
    (λ t. aligned_stays s (raised_by s 16) t)

arith_stays : (w : ℕ) (s : Concrete) (next : ℕ) (op : ArithOp) (wide : Bool) (left right : Side)
    → StaysRow s (arith_row w s next op wide left right)
unfolding arith_row
arith_stays w s next op wide left right =
    then_stays s (value w s raises.MemoryFault (form_bytes wide) right) _ (λ b.
    then_stays s (value w s raises.MemoryFault (form_bytes wide) left) _ (λ a.
    then_stays s (or_divide_error (computed op wide a b)) _ (λ v. next_stays s (written w s (form_bytes wide) left v) next)))

compare_stays : (w : ℕ) (s : Concrete) (next : ℕ) (op : CmpOp) (wide : Bool) (left : ℕ) (right : Side)
    → StaysRow s (compare_row w s next op wide left right)
unfolding compare_row
compare_stays w s next op wide left right =
    then_stays s (value w s raises.MemoryFault (form_bytes wide) right) _ (λ b. goes_stays s (with_flags s (with_c s.flags (compared op wide
    (register s left) b))) next)

compare_imm_stays : (w : ℕ) (s : Concrete) (next : ℕ) (op : CmpOp) (wide : Bool) (left : Side) (imm : ℤ)
    → StaysRow s (compare_imm_row w s next op wide left imm)
unfolding compare_imm_row
compare_imm_stays w s next op wide left imm =
    then_stays s (value w s raises.MemoryFault (form_bytes wide) left) _ (λ a. goes_stays s (with_flags s (with_c s.flags (compared op wide
    a
    (wrap64 imm)))) next)

move_stays : (w : ℕ) (s : Concrete) (next : ℕ) (size : Size) (left right : Side) → StaysRow s (move_row w s next size left right)
unfolding move_row
move_stays w s next size left right =
    then_stays s (value w s raises.MemoryFault (size_bytes w size) right) _ (λ v. next_stays s (written w s (size_bytes w size) left
    (low_bytes (size_bytes w size) v)) next)

move_signed_stays : (w : ℕ) (s : Concrete) (next : ℕ) (left right : Side) → StaysRow s (move_signed_row w s next left right)
unfolding move_signed_row
move_signed_stays w s next left right =
    then_stays s (value w s raises.MemoryFault w right) _ (λ v. next_stays s (written w s w left (extended_at w v)) next)

move_imm_stays : (w : ℕ) (s : Concrete) (next : ℕ) (size : Size) (left : Side) (imm : ℤ) → StaysRow s (move_imm_row w s next size left imm)
unfolding move_imm_row
move_imm_stays w s next size left imm =
    next_stays s (written w s (size_bytes w size) left (low_bytes (size_bytes w size) (wrap64 imm))) next

move_natural_stays : (w : ℕ) (s : Concrete) (next : ℕ) (left : Side) (idx : Index) → StaysRow s (move_imm_natural_row w s next left idx)
unfolding move_imm_natural_row
move_natural_stays w s next left idx = next_stays s (written w s w left (index_offset w idx)) next

move_relative_stays : (w : ℕ) (s : Concrete) (next : ℕ) (left : Side) (imm : ℤ) → StaysRow s (move_relative_row w s next left imm)
unfolding move_relative_row
move_relative_stays w s next left imm = next_stays s (written w s w left ((next + wrap64 imm) % 2 ^ 64)) next

load_stays : (s : Concrete) (next from : ℕ) → StaysRow s (load_special_row s next from)
unfolding load_special_row
load_stays s next from = goes_stays s (with_flags s (s.flags / 4 * 4 + register s from % 4)) next

store_stays : (s : Concrete) (next to special : ℕ) → StaysRow s (store_special_row s next to special)
unfolding store_special_row
store_stays s next to special = goes_stays s (with_register s to (if nat_eq special 0 then s.flags else next)) next

push_stays : (w : ℕ) (s : Concrete) (next k : ℕ) (op : Side) → StaysRow s (push_row w s next k op)
unfolding push_row
push_stays w s next k op = then_stays s (value w s (stack_fault op.reg) k op) _ (λ v. next_stays s (pushed w s k v) next)

pop_stays : (w : ℕ) (s : Concrete) (next k : ℕ) (signed : Bool) (op : Side) → StaysRow s (pop_row w s next k signed op)
unfolding pop_row
pop_stays w s next k signed op =
    then_stays s (loaded_at w s raises.StackFault k 0 0) _ (λ v. next_stays s (popped w (raised_by s k) k op (popped_number signed k v))
    next)

executed_stays : (w : ℕ) (s : Concrete) (next : ℕ) (i : Insn) → StaysRow s (executed w s next i)
unfolding executed
executed_stays w s next (insns.Break code) = break_stays s next code
executed_stays w s next (insns.Jump cond far relative op extra) = jump_stays w s next cond relative _
executed_stays w s next (insns.Jump8 cond words) = jump8_stays s next cond words
executed_stays w s next (insns.Call far false relative op extra) = call_stays w s next relative _
executed_stays w s next (insns.Call far true relative op extra) = native_call_stays w s next relative _
executed_stays w s next insns.Ret = return_stays w s
executed_stays w s next (insns.Compare op wide left right extra) = compare_stays w s next op wide left _
executed_stays w s next (insns.CompareImm op wide left idx long imm) = compare_imm_stays w s next op wide _ imm
executed_stays w s next (insns.Arith op wide left right extra) = arith_stays w s next op wide _ _
executed_stays w s next (insns.Move size bits left right lidx ridx) = move_stays w s next size _ _
executed_stays w s next (insns.MoveSigned bits left right lidx extra) = move_signed_stays w s next _ _
executed_stays w s next (insns.MoveImm size bits left lidx imm) = move_imm_stays w s next size _ imm
executed_stays w s next (insns.MoveImmNatural bits left lidx idx) = move_natural_stays w s next _ idx
executed_stays w s next (insns.MoveRelative bits left lidx imm) = move_relative_stays w s next _ imm
executed_stays w s next (insns.LoadSpecial from) = load_stays s next from
executed_stays w s next (insns.StoreSpecial to special) = store_stays s next to special
executed_stays w s next (insns.Push wide op extra) = push_stays w s next _ _
executed_stays w s next (insns.Pop wide op extra) = pop_stays w s next _ true _
executed_stays w s next (insns.PushNatural op extra) = push_stays w s next w _
executed_stays w s next (insns.PopNatural op extra) = pop_stays w s next w false _

ended_stays : (s : Concrete) (row : Row) → StaysRow s row → Stays s (ended s row).0 (ended s row).1
unfolding StaysRow
ended_stays s (Ok x) stays = stays
ended_stays s (Err e) stays = tt

step_stays : (w : ℕ) (s : Concrete) → Stays s (machine_step w s).0 (machine_step w s).1
unfolding machine_step instruction_done
step_stays w s = by (nat_eq s.ip s.gate) where
  by : (b : Bool) → Stays s (if b then (ends.Gate, s) else ended s (instruction_done w s)).0 (if b then (ends.Gate, s) else ended s
      (instruction_done w s)).1
  by true = refl
  by false = ended_stays s (instruction_done w s) (then_stays s (fetched s) _ (λ found. executed_stays w s _ found.0))

-- so it is where a step ends so
pub stays : (w : ℕ) (s t : Concrete) (e : StepEnd) → (e, t) ≡ machine_step w s → Stays s e t
stays w s t e is = subst (λ (x : StepEnd × Concrete). Stays s x.0 x.1) (sym is) (step_stays w s)
