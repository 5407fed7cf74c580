-- Meaning: what an instruction gives: how the step ends and the state after it, or the exception that it raises. UEFI
-- specification, chapter "EFI Byte Code Virtual Machine", section "VM Exception Handling"; in words in docs/MACHINE.md,
-- "Exceptions".
use Rattle.std.specs.Prelude.{ℕ, Result, Ok, Err}
use Rattle.machine_alu.specs.declared.DivideError.{DivideError}
use Rattle.note_types.specs.Concrete.{Concrete, at_ip}
use Rattle.note_types.specs.declared.exception.Exception.{Exception}
use Rattle.note_types.specs.declared.exception.Exception.TheVariants as raises
use Rattle.ebc_machine.specs.declared.StepEnd.{StepEnd}
use Rattle.ebc_machine.specs.declared.StepEnd.TheVariants as ends

-- the state after something is written, or an exception
abbrev pub Written : Type 0
Written = Result Concrete Exception

-- how a step ends and the state after it, or an exception
abbrev pub Row : Type 0
Row = Result (StepEnd × Concrete) Exception

-- the step ends, and control is at an address
unfoldable pub goes : Concrete → ℕ → Row
goes s to = Ok (ends.Next, at_ip s to)

-- a result of arithmetic, where a division by zero is an exception
abbrev pub or_divide_error : Result ℕ DivideError → Result ℕ Exception
or_divide_error (Ok v) = Ok v
or_divide_error (Err e) = Err raises.DivideError
