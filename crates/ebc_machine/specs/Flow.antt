-- Meaning: Jumps, calls, returns and BREAK: UEFI specification, chapter "EFI Byte Code Virtual Machine", section "EBC
-- Instruction Set", "BREAK", "CALL", "JMP", "JMP8" and "RET"; in words in docs/MACHINE.md, "Flow". The width w is how many
-- bytes an address has, and `next` is the address of the next instruction.
use Rattle.std.specs.Prelude.{ℕ, ◌+◌, ◌%◌, ◌^◌, Bool, true, Result, Ok, Err, ℤ, pos, ◌*ℤ◌, nat_eq, if◌then◌else◌}
use Rattle.ebc_base.specs.Steps.{◌>>=◌, or_else}
use Rattle.ebc_width.specs.Width.{cut_at, wrap64}
use Rattle.ebc_insn.specs.declared.Cond.{Cond}
use Rattle.ebc_insn.specs.declared.Cond.TheVariants.{Always, Set, Clear}
use Rattle.note_types.specs.Concrete.{Concrete, loaded, register, with_register, at_ip}
use Rattle.note_types.specs.declared.exception.Exception.{Exception}
use Rattle.note_types.specs.declared.exception.Exception.TheVariants as raises
use Rattle.ebc_machine.specs.declared.StepEnd.TheVariants as ends
use Rattle.ebc_machine.specs.declared.operand.Side.{Side}
use Rattle.ebc_machine.specs.Operands.{loaded_at, stored_at}
use Rattle.ebc_machine.specs.Results.{Written, Row, goes}
use Rattle.ebc_machine.specs.Stack.{raised_by, lowered_by}

-- ---- where control goes

-- whether a jump is taken, by C in bit 0 of the flags
abbrev pub is_taken : Cond → ℕ → Bool
is_taken Always flags = true
is_taken Set flags = nat_eq (flags % 2) 1
is_taken Clear flags = nat_eq (flags % 2) 0

-- an address that control may go to: an even one
abbrev pub aligned : ℕ → Result ℕ Exception
aligned target = if nat_eq (target % 2) 0 then Ok target else Err raises.AlignmentCheck

-- a register of a jump or a call, where R0 counts as 0
abbrev pub base_at : Concrete → ℕ → ℕ
base_at s r = if nat_eq r 0 then 0 else register s r

-- the number in the operand of a jump or a call: a sum, or the address of natural size in memory
unfoldable pub target_number : ℕ → Concrete → Side → Result ℕ Exception
target_number w s op =
    let sum = (base_at s op.reg + op.offset) % 2 ^ 64 in
    if op.indirect then or_else raises.MemoryFault (loaded s (cut_at w sum) w) else Ok sum

-- the target of a jump or a call: that number, past the next instruction where it is relative, cut to the width
unfoldable pub target_at : ℕ → Concrete → ℕ → Bool → Side → Result ℕ Exception
target_at w s next relative op = do
  t ← target_number w s op
  Ok (cut_at w (if relative then (next + t) % 2 ^ 64 else t))

-- ---- the rows

-- JMP: to an even target, or, where it isn't taken, to the next instruction with nothing read
unfoldable pub jump_row : ℕ → Concrete → ℕ → Cond → Bool → Side → Row
jump_row w s next cond relative op =
    if is_taken cond s.flags then (do
      t ← target_at w s next relative op
      to ← aligned t
      goes s to)
    else goes s next

-- JMP8: to an even target, so many words past the next instruction
unfoldable pub jump8_row : Concrete → ℕ → Cond → ℤ → Row
jump8_row s next cond words =
    if is_taken cond s.flags then (do
      to ← aligned ((next + wrap64 (words *ℤ pos 2)) % 2 ^ 64)
      goes s to)
    else goes s next

-- the state with the return address in the eight bytes on top of the stack, and zero in the eight bytes above them
unfoldable pub called : ℕ → Concrete → ℕ → Written
called w s next = do
  low ← stored_at w (lowered_by s 16) raises.StackFault 8 0 0 next
  stored_at w low raises.StackFault 8 0 8 0

-- CALL: to an even target, with the return address on the stack
unfoldable pub call_row : ℕ → Concrete → ℕ → Bool → Side → Row
call_row w s next relative op = do
  t ← target_at w s next relative op
  to ← aligned t
  inside ← called w s next
  goes inside to

-- CALLEX: the target is the host's, and control stands at the next instruction
unfoldable pub call_native_row : ℕ → Concrete → ℕ → Bool → Side → Row
call_native_row w s next relative op = do
  t ← target_at w s next relative op
  Ok (ends.Native t, at_ip s next)

-- RET: to the even address in the eight bytes on top of the stack, and these and the eight above them leave it
unfoldable pub return_row : ℕ → Concrete → Row
return_row w s = do
  t ← loaded_at w s raises.StackFault 8 0 0
  to ← aligned t
  goes (raised_by s 16) to

-- BREAK: 1 gives the version 1.0 in R7, 3 is a breakpoint, 5 asks the host for a thunk, 4 and 6 do nothing
unfoldable pub break_row : Concrete → ℕ → ℕ → Row
break_row s next code =
    if nat_eq code 1 then goes (with_register s 7 0x10000) next
    else if nat_eq code 3 then Err raises.Breakpoint
    else if nat_eq code 5 then Ok (ends.MakeThunk (register s 7), at_ip s next)
    else if nat_eq code 4 then goes s next
    else if nat_eq code 6 then goes s next
    else Err raises.BadBreak
