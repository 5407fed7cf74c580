-- An instruction that is done raises nothing.
use Rattle.std.proofs.Common.{ℕ}
use Rattle.object_memory.specs.Memory.{Memory}
use Rattle.ebc_machine.specs.declared.Machine.{Machine}
use Rattle.ebc_machine.specs.declared.StepEnd.{StepEnd}
use Rattle.ebc_machine.specs.declared.StepEnd.TheVariants.{Next, Native, Gate, MakeThunk, Raised}
use Rattle.ebc_machine.specs.States.{IsDone, LeavesAll}

pub leaves_done : {w : ℕ} (old new : Machine w) (before after : Memory) (end : StepEnd) → IsDone end → LeavesAll old before new after end
leaves_done old new before after Next done = tt
leaves_done old new before after (Native target) done = tt
leaves_done old new before after Gate done = tt
leaves_done old new before after (MakeThunk cell) done = tt
leaves_done old new before after (Raised e) done = absurd done
