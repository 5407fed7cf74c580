-- Meaning: the operands of an instruction: the value of operand 2, and where operand 1 is. UEFI specification, chapter "EFI
-- Byte Code Virtual Machine", sections "EBC Instruction Operands" and "Natural Indexing"; in words in docs/MACHINE.md,
-- "Operands". The width w is how many bytes an address has, 4 or 8.
use Rattle.std.specs.Prelude.{ℕ, ◌+◌, ◌*◌, ◌%◌, ◌^◌, Bool, Option, Some, None, Result, Ok, if◌then◌else◌}
use Rattle.ebc_base.specs.Steps.{or_else}
use Rattle.ebc_width.specs.Width.{cut_at, wrap64}
use Rattle.natural_index.specs.Index.{index_value}
use Rattle.natural_index.specs.declared.Index.{Index}
use Rattle.ebc_insn.specs.declared.Operand.{Operand}
use Rattle.ebc_insn.specs.declared.Extra.{Extra}
use Rattle.ebc_insn.specs.declared.Extra.TheVariants.{Nothing, Imm, Idx}
use Rattle.ebc_insn.specs.declared.Size.{Size}
use Rattle.ebc_insn.specs.declared.Size.TheVariants as sizes
use Rattle.note_types.specs.Concrete.{Concrete, loaded, stored, register, with_register}
use Rattle.note_types.specs.declared.exception.Exception.{Exception}
use Rattle.note_types.specs.declared.exception.Exception.TheVariants as raises
use Rattle.ebc_machine.specs.declared.operand.Side.{Side}
use Rattle.ebc_machine.specs.Results.{Written}

-- ---- sizes

-- how many bytes a form of 64 or of 32 bits reads or writes
abbrev pub form_bytes : Bool → ℕ
form_bytes wide = if wide then 8 else 4

-- how many bytes a move reads and writes
abbrev pub size_bytes : ℕ → Size → ℕ
size_bytes w sizes.Byte = 1
size_bytes w sizes.Word = 2
size_bytes w sizes.Dword = 4
size_bytes w sizes.Qword = 8
size_bytes w sizes.Natural = w

-- the low k bytes of a number
abbrev pub low_bytes : ℕ → ℕ → ℕ
low_bytes k v = v % 2 ^ (8 * k)

-- ---- what stands beside an operand, modulo 2 ^ 64

-- what an index counts
abbrev pub index_offset : ℕ → Index → ℕ
index_offset w i = wrap64 (index_value w i)

-- an index that may be left out
abbrev pub optional_offset : ℕ → Option Index → ℕ
optional_offset w None = 0
optional_offset w (Some i) = index_offset w i

-- an immediate or an index that may be left out
abbrev pub extra_offset : ℕ → Extra → ℕ
extra_offset w Nothing = 0
extra_offset w (Imm v) = wrap64 v
extra_offset w (Idx i) = index_offset w i

-- ---- operands

-- an operand with nothing beside it
abbrev pub plain : Operand → Side
plain o = record { reg = o.reg; indirect = o.indirect; offset = 0 }

-- an operand with an index that may be left out
abbrev pub with_index : ℕ → Operand → Option Index → Side
with_index w o idx = record { reg = o.reg; indirect = o.indirect; offset = optional_offset w idx }

-- an operand with an immediate or an index that may be left out
abbrev pub with_extra : ℕ → Operand → Extra → Side
with_extra w o extra = record { reg = o.reg; indirect = o.indirect; offset = extra_offset w extra }

-- a register and what stands beside it
unfoldable pub sum_at : Concrete → ℕ → ℕ → ℕ
sum_at s r offset = (register s r + offset) % 2 ^ 64

-- the address of the data at a register and an offset
unfoldable pub address : ℕ → Concrete → ℕ → ℕ → ℕ
address w s r offset = cut_at w (sum_at s r offset)

-- the number in the k bytes at a register and an offset, or the exception e
unfoldable pub loaded_at : ℕ → Concrete → Exception → ℕ → ℕ → ℕ → Result ℕ Exception
loaded_at w s e k r offset = or_else e (loaded s (address w s r offset) k)

-- the state with the low k bytes of v at a register and an offset, or the exception e
unfoldable pub stored_at : ℕ → Concrete → Exception → ℕ → ℕ → ℕ → ℕ → Written
stored_at w s e k r offset v = or_else e (stored s (address w s r offset) k v)

-- the value of an operand of k bytes: a sum, or what the memory there holds, or the exception e
unfoldable pub value : ℕ → Concrete → Exception → ℕ → Side → Result ℕ Exception
value w s e k o = if o.indirect then loaded_at w s e k o.reg o.offset else Ok (sum_at s o.reg o.offset)

-- the state with a result in an operand of k bytes: the whole number in a register, or its low bytes in memory
unfoldable pub written : ℕ → Concrete → ℕ → Side → ℕ → Written
written w s k o v =
    if o.indirect then stored_at w s raises.MemoryFault k o.reg o.offset v else Ok (with_register s o.reg v)
