-- For proofs: the state of a machine and its memory in numbers, and what a call makes of them. docs/MACHINE.md, "The state".
use Rattle.std.specs.Prelude.{◌≡◌, ℕ, Result, Ok, Err, ⊤}
use Rattle.object_memory.specs.Memory.{Memory, byte_at, ranges}
use Rattle.note_types.specs.Concrete.{Concrete}
use Rattle.note_types.specs.declared.exception.Exception.{Exception}
use Rattle.ebc_machine.specs.declared.Machine.{Machine}
use Rattle.ebc_machine.specs.declared.StepEnd.{StepEnd}
use Rattle.ebc_machine.specs.declared.StepEnd.TheVariants as ends
use Rattle.ebc_machine.specs.Results.{Written, Row}

-- a machine and its memory in numbers
abbrev pub concrete_of : {w : ℕ} → Machine w → Memory → Concrete
concrete_of c m = record { registers = c.regs; ip = c.ip; flags = c.flags; gate = c.gate; objects = ranges m; byte = byte_at m }

-- Two memories have the same objects at the same places, and the same limits.
pub record KeepsObjects (old new : Memory) : Type 0 where
  pub objects : ranges new ≡ ranges old
  pub byte_limit : new.byte_limit ≡ old.byte_limit
  pub object_limit : new.object_limit ≡ old.object_limit

-- The state after a write is this one, and where the write raises all is as it was.
abbrev pub Does : {w : ℕ} → Machine w → Memory → Machine w → Memory → Result (Unit {0}) Exception → Written → Type 0
Does old m0 new m1 (Ok t) after = (after ≡ Ok (concrete_of new m1)) × KeepsObjects m0 m1
Does old m0 new m1 (Err e) after = (after ≡ Err e) × (new ≡ old) × (m1 ≡ m0)

-- The instruction is done, and a step that ends so has raised nothing.
abbrev pub IsDone : StepEnd → Type 0
IsDone (ends.Raised e) = ⊥
IsDone e = ⊤

-- The end and the state after an instruction are those of its row, and where the row raises all is as it was.
abbrev pub Ends : {w : ℕ} → Machine w → Memory → Machine w → Memory → Result StepEnd Exception → Row → Type 0
Ends old m0 new m1 (Ok e) row = IsDone e × (row ≡ Ok (e, concrete_of new m1)) × KeepsObjects m0 m1
Ends old m0 new m1 (Err e) row = (row ≡ Err e) × (new ≡ old) × (m1 ≡ m0)

-- Where a step raises, machine and memory are as they were.
abbrev pub LeavesAll : {w : ℕ} → Machine w → Memory → Machine w → Memory → StepEnd → Type 0
LeavesAll old m0 new m1 (ends.Raised e) = (new ≡ old) × (m1 ≡ m0)
LeavesAll old m0 new m1 e = ⊤
