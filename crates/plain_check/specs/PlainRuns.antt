-- Meaning: the plain run of raw code: what the machine of docs/MACHINE.md does with it on registers alone. docs/PLAIN.md,
-- "The run". UEFI specification, chapter "EFI Byte Code Virtual Machine", section "EBC Instruction Set". The width w is how
-- many bytes an address has, 4 or 8.
use Rattle.std.specs.Prelude.{◌≡◌, ℕ, ◌+◌, ◌%◌, ◌^◌, zero, suc, List, [], ◌∷◌, drop, Result, Ok, Err}
use Rattle.ebc_insn.specs.declared.Insn.{Insn}
use Rattle.ebc_insn.specs.declared.Insn.TheVariants.{Ret}
use Rattle.ebc_decode.specs.declared.DecodeFault.{DecodeFault}
use Rattle.ebc_decode.specs.Reading.{read}
use Rattle.note_types.specs.Concrete.{Concrete}
use Rattle.ebc_machine.specs.declared.StepEnd.{StepEnd}
use Rattle.ebc_machine.specs.declared.StepEnd.TheVariants as ends
use Rattle.ebc_machine.specs.Fetch.{exception_of}
use Rattle.ebc_machine.specs.Step.{executed, ended}
use Rattle.plain_check.specs.PlainRules.{IsStart}

-- how far a run has come: it goes on, it has ended at a RET, or a step has ended so that it can't go on
pub data Progress : Type 0 where
  GoesOn : Progress
  Returned : Progress
  Stopped : (end : StepEnd) → Progress

-- how far a run has come, and the machine, whose ip is a place
pub record PlainState : Type 0 where
  pub progress : Progress
  pub machine : Concrete

-- a run goes on after an instruction that is done and leads to a next one
abbrev pub progress_after : StepEnd → Progress
progress_after ends.Next = GoesOn
progress_after end = Stopped end

-- the state after a step of the machine
abbrev pub after_step : StepEnd × Concrete → PlainState
after_step done = record { progress = progress_after done.0; machine = done.1 }

-- what is done with what is read at ip: a RET ends the run, every other instruction does what its row of the machine says,
-- and a fault raises what it raises in the machine
abbrev pub done_at : ℕ → Concrete → Result (Insn × ℕ) DecodeFault → PlainState
done_at w s (Ok (Ret, n)) = record { progress = Returned; machine = s }
done_at w s (Ok (i, n)) = after_step (ended s (executed w s ((s.ip + n) % 2 ^ 64) i))
done_at w s (Err fault) = after_step (ended s (Err (exception_of fault)))

-- a run that has ended stays as it is
abbrev pub unless_ended : Progress → PlainState → PlainState → PlainState
unless_ended GoesOn s next = next
unless_ended progress s next = s

-- one step
unfoldable pub plain_step : ℕ → List ℕ → PlainState → PlainState
plain_step w code s = unless_ended s.progress s (done_at w s.machine (read (drop s.machine.ip code)))

-- a machine without memory, at place 0
abbrev pub plain_machine : Concrete
plain_machine = record {
  registers = 0 ∷ 0 ∷ 0 ∷ 0 ∷ 0 ∷ 0 ∷ 0 ∷ 0 ∷ [];
  ip = 0;
  flags = 0;
  gate = 0;
  objects = [];
  byte = λ address. 0;
}

-- the state after so many steps
unfoldable pub plain_run : ℕ → List ℕ → ℕ → PlainState
plain_run w code zero = record { progress = GoesOn; machine = plain_machine }
plain_run w code (suc steps) = plain_step w code (plain_run w code steps)

-- A RET stands at the place.
abbrev pub IsReturn : List ℕ → ℕ → Type 0
IsReturn code place = (size : ℕ) × (read (drop place code) ≡ Ok (Ret, size))

-- A run goes on at a place at which an instruction starts, or has ended at a RET; it has raised nothing.
abbrev pub KeepsTo : List ℕ → ℕ → Progress → Type 0
KeepsTo code place GoesOn = IsStart code place
KeepsTo code place Returned = IsReturn code place
KeepsTo code place (Stopped end) = ⊥

abbrev pub KeepsToCode : List ℕ → PlainState → Type 0
KeepsToCode code s = KeepsTo code s.machine.ip s.progress

-- After every number of steps the machines of 4 and of 8 bytes are in the same state, and keep to the code.
pub record RunsAlike (code : List ℕ) : Type 0 where
  pub same : (steps : ℕ) → plain_run 4 code steps ≡ plain_run 8 code steps
  pub narrow : (steps : ℕ) → KeepsToCode code (plain_run 4 code steps)
  pub wide : (steps : ℕ) → KeepsToCode code (plain_run 8 code steps)
