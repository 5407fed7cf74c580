-- Meaning: PUSH and POP: UEFI specification, chapter "EFI Byte Code Virtual Machine", section "EBC Instruction Set", "PUSH"
-- to "POPn"; in words in docs/MACHINE.md, "The stack". R0 is the address of the top of the stack. The width w is how many
-- bytes an address has, and `next` is the address of the next instruction.
use Rattle.std.specs.Prelude.{ℕ, ◌+◌, ◌-◌, ◌%◌, ◌^◌, Bool, Ok, nat_eq, if◌then◌else◌}
use Rattle.ebc_base.specs.Steps.{◌>>=◌}
use Rattle.ebc_width.specs.Width.{extended_at}
use Rattle.note_types.specs.Concrete.{Concrete, register, with_register}
use Rattle.note_types.specs.declared.exception.Exception.{Exception}
use Rattle.note_types.specs.declared.exception.Exception.TheVariants as raises
use Rattle.ebc_machine.specs.declared.operand.Side.{Side}
use Rattle.ebc_machine.specs.Operands.{loaded_at, stored_at, value}
use Rattle.ebc_machine.specs.Results.{Written, Row, goes}

-- the exception of an access through a register: R0 is the stack's
abbrev pub stack_fault : ℕ → Exception
stack_fault r = if nat_eq r 0 then raises.StackFault else raises.MemoryFault

-- the state with R0 raised by so many bytes
unfoldable pub raised_by : Concrete → ℕ → Concrete
raised_by s n = with_register s 0 ((register s 0 + n) % 2 ^ 64)

-- the state with R0 lowered by so many bytes
unfoldable pub lowered_by : Concrete → ℕ → Concrete
lowered_by s n = with_register s 0 ((register s 0 + (2 ^ 64 - n)) % 2 ^ 64)

-- the state with the low k bytes of v on top of the stack
unfoldable pub pushed : ℕ → Concrete → ℕ → ℕ → Written
pushed w s k v = stored_at w (lowered_by s k) raises.StackFault k 0 0 v

-- PUSH32, PUSH64 and PUSHn of k bytes: the operand's value, then its place on the stack
unfoldable pub push_row : ℕ → Concrete → ℕ → ℕ → Side → Row
push_row w s next k op = do
  v ← value w s (stack_fault op.reg) k op
  after ← pushed w s k v
  goes after next

-- what POP leaves in its operand, with R0 raised: the value with an immediate in a register, or the value in memory
unfoldable pub popped : ℕ → Concrete → ℕ → Side → ℕ → Written
popped w s k op v =
    if op.indirect then stored_at w s (stack_fault op.reg) k op.reg op.offset v
    else Ok (with_register s op.reg ((v + op.offset) % 2 ^ 64))

-- what POP32, POP64 and POPn make of the number in the k bytes on top of the stack: with its sign, or with zeros above it
abbrev pub popped_number : Bool → ℕ → ℕ → ℕ
popped_number signed k v = if signed then extended_at k v else v

-- POP32, POP64 and POPn of k bytes: the number on top of the stack, in the operand
unfoldable pub pop_row : ℕ → Concrete → ℕ → ℕ → Bool → Side → Row
pop_row w s next k signed op = do
  v ← loaded_at w s raises.StackFault k 0 0
  after ← popped w (raised_by s k) k op (popped_number signed k v)
  goes after next
