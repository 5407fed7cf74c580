-- Meaning: the instruction at ip: UEFI specification, chapter "EFI Byte Code Virtual Machine", sections "Instruction
-- Encoding" and "VM Exception Handling"; in words in docs/MACHINE.md, "A step".
use Rattle.std.specs.Prelude.{ℕ, Result, Ok, Err}
use Rattle.ebc_base.specs.Steps.{◌>>=◌, or_else}
use Rattle.ebc_insn.specs.declared.Insn.{Insn}
use Rattle.ebc_decode.specs.Reading.{read}
use Rattle.ebc_decode.specs.declared.DecodeFault.{DecodeFault}
use Rattle.ebc_decode.specs.declared.DecodeFault.TheVariants as faults
use Rattle.note_types.specs.Concrete.{Concrete, rest_from}
use Rattle.note_types.specs.declared.exception.Exception.{Exception}
use Rattle.note_types.specs.declared.exception.Exception.TheVariants as raises

-- what bytes raise that begin with no spelling
abbrev pub exception_of : DecodeFault → Exception
exception_of faults.Short = raises.MemoryFault
exception_of faults.Opcode = raises.InvalidOpcode
exception_of faults.Reserved = raises.InstructionEncoding
exception_of faults.IndexTag = raises.InstructionEncoding
exception_of faults.DirectIndex = raises.InstructionEncoding

-- an instruction and its length, or what is raised
abbrev pub or_exception : Result (Insn × ℕ) DecodeFault → Result (Insn × ℕ) Exception
or_exception (Ok found) = Ok found
or_exception (Err f) = Err (exception_of f)

-- the instruction at ip and its length, of the bytes from there to the end of the object
unfoldable pub fetched : Concrete → Result (Insn × ℕ) Exception
fetched s = do
  bytes ← or_else raises.MemoryFault (rest_from s s.ip)
  or_exception (read bytes)
