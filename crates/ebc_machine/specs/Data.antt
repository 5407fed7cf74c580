-- Meaning: Arithmetic and comparisons: UEFI specification, chapter "EFI Byte Code Virtual Machine", section "EBC Instruction
-- Set", from "ADD" to "XOR", "CMP" and "CMPI"; in words in docs/MACHINE.md, "Data". The width w is how many bytes an address
-- has, and `next` is the address of the next instruction.
use Rattle.std.specs.Prelude.{ℕ, ◌+◌, ◌*◌, ◌/◌, Bool, ℤ, if◌then◌else◌}
use Rattle.ebc_base.specs.Steps.{◌>>=◌}
use Rattle.ebc_width.specs.Width.{wrap64}
use Rattle.ebc_insn.specs.declared.ArithOp.{ArithOp}
use Rattle.ebc_insn.specs.declared.CmpOp.{CmpOp}
use Rattle.machine_alu.specs.Alu.{computed, compared}
use Rattle.note_types.specs.Concrete.{Concrete, register, with_flags}
use Rattle.note_types.specs.declared.exception.Exception.TheVariants as raises
use Rattle.ebc_machine.specs.declared.operand.Side.{Side}
use Rattle.ebc_machine.specs.Operands.{form_bytes, value, written}
use Rattle.ebc_machine.specs.Results.{Row, or_divide_error, goes}

-- the flags with C set or clear
abbrev pub with_c : ℕ → Bool → ℕ
with_c flags c = flags / 2 * 2 + (if c then 1 else 0)

-- NOT to EXTNDD: operand 2, then operand 1, then the result in operand 1
unfoldable pub arith_row : ℕ → Concrete → ℕ → ArithOp → Bool → Side → Side → Row
arith_row w s next op wide left right = do
  b ← value w s raises.MemoryFault (form_bytes wide) right
  a ← value w s raises.MemoryFault (form_bytes wide) left
  v ← or_divide_error (computed op wide a b)
  after ← written w s (form_bytes wide) left v
  goes after next

-- CMP: operand 2, and C by its comparison with a register
unfoldable pub compare_row : ℕ → Concrete → ℕ → CmpOp → Bool → ℕ → Side → Row
compare_row w s next op wide left right = do
  b ← value w s raises.MemoryFault (form_bytes wide) right
  goes (with_flags s (with_c s.flags (compared op wide (register s left) b))) next

-- CMPI: operand 1, and C by its comparison with an immediate
unfoldable pub compare_imm_row : ℕ → Concrete → ℕ → CmpOp → Bool → Side → ℤ → Row
compare_imm_row w s next op wide left imm = do
  a ← value w s raises.MemoryFault (form_bytes wide) left
  goes (with_flags s (with_c s.flags (compared op wide a (wrap64 imm)))) next
