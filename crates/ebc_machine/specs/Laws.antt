-- For proofs: laws of the states of the machine. UEFI specification, chapter "EFI Byte Code Virtual Machine", sections
-- "Virtual Machine Registers" and "EBC Instruction Set"; in words in docs/MACHINE.md, "The state".
use Rattle.std.specs.Prelude.{◌≡◌, ℕ, ◌^◌, ◌<◌, length, slice_index}
use Rattle.object_memory.specs.Memory.{Memory, IsMemory}
use Rattle.note_types.specs.Concrete.{Concrete, IsConcrete}
use Rattle.ebc_machine.specs.declared.Machine.{Machine}
use Rattle.ebc_machine.specs.States.{concrete_of}
use Rattle.ebc_machine.specs.Step.{machine_step}

-- What holds of a machine by the types of its fields, and of its flags: only C and the single step are set.
pub record IsMachine {w : ℕ} (c : Machine w) : Type 0 where
  pub eight : length c.regs ≡ 8
  pub registers : (r : ℕ) → slice_index c.regs r < 2 ^ 64
  pub ip : c.ip < 2 ^ 64
  pub gate : c.gate < 2 ^ 64
  pub flags : c.flags < 4

-- A machine and its memory in numbers are a state that a machine can be in.
abbrev pub MachineIsConcrete : Type 0
MachineIsConcrete =
    (w : ℕ) (c : Machine w) (m : Memory) → IsMemory w m → IsMachine c → IsConcrete w (concrete_of c m)

-- From a state that a machine can be in, a step leads to such a state, and one that raises leaves it.
abbrev pub StepKeepsConcrete : Type 0
StepKeepsConcrete = (w : ℕ) (s : Concrete) → IsConcrete w s → IsConcrete w (machine_step w s).1
