-- Meaning: Moves: UEFI specification, chapter "EFI Byte Code Virtual Machine", section "EBC Instruction Set", "MOV" to
-- "MOVsn", "LOADSP" and "STORESP"; in words in docs/MACHINE.md, "Moves". The width w is how many bytes an address has, and
-- `next` is the address of the next instruction.
use Rattle.std.specs.Prelude.{ℕ, ◌+◌, ◌*◌, ◌/◌, ◌%◌, ◌^◌, ℤ, nat_eq, if◌then◌else◌}
use Rattle.ebc_base.specs.Steps.{◌>>=◌}
use Rattle.ebc_width.specs.Width.{extended_at, wrap64}
use Rattle.natural_index.specs.declared.Index.{Index}
use Rattle.ebc_insn.specs.declared.Size.{Size}
use Rattle.note_types.specs.Concrete.{Concrete, register, with_register, with_flags}
use Rattle.note_types.specs.declared.exception.Exception.TheVariants as raises
use Rattle.ebc_machine.specs.declared.operand.Side.{Side}
use Rattle.ebc_machine.specs.Operands.{size_bytes, low_bytes, index_offset, value, written}
use Rattle.ebc_machine.specs.Results.{Row, goes}

-- MOVb, MOVw, MOVd, MOVq, MOVqq and MOVn: operand 2, cut to the size of the move, in operand 1
unfoldable pub move_row : ℕ → Concrete → ℕ → Size → Side → Side → Row
move_row w s next size left right = do
  v ← value w s raises.MemoryFault (size_bytes w size) right
  after ← written w s (size_bytes w size) left (low_bytes (size_bytes w size) v)
  goes after next

-- MOVsn: operand 2 of natural size, with its sign in 64 bits, in operand 1
unfoldable pub move_signed_row : ℕ → Concrete → ℕ → Side → Side → Row
move_signed_row w s next left right = do
  v ← value w s raises.MemoryFault w right
  after ← written w s w left (extended_at w v)
  goes after next

-- MOVI: the immediate, cut to the size of the move, in operand 1
unfoldable pub move_imm_row : ℕ → Concrete → ℕ → Size → Side → ℤ → Row
move_imm_row w s next size left imm = do
  after ← written w s (size_bytes w size) left (low_bytes (size_bytes w size) (wrap64 imm))
  goes after next

-- MOVIn: what an index counts, in operand 1: 64 bits in a register, or natural size in memory
unfoldable pub move_imm_natural_row : ℕ → Concrete → ℕ → Side → Index → Row
move_imm_natural_row w s next left idx = do
  after ← written w s w left (index_offset w idx)
  goes after next

-- MOVREL: the address of the next instruction and the immediate, in operand 1, as for MOVIn
unfoldable pub move_relative_row : ℕ → Concrete → ℕ → Side → ℤ → Row
move_relative_row w s next left imm = do
  after ← written w s w left ((next + wrap64 imm) % 2 ^ 64)
  goes after next

-- LOADSP: bits 0 and 1 of a register in the flags
unfoldable pub load_special_row : Concrete → ℕ → ℕ → Row
load_special_row s next from = goes (with_flags s (s.flags / 4 * 4 + register s from % 4)) next

-- STORESP: the flags, or the address of the next instruction, in a register
unfoldable pub store_special_row : Concrete → ℕ → ℕ → ℕ → Row
store_special_row s next to special = goes (with_register s to (if nat_eq special 0 then s.flags else next)) next
