use Rattle.std.proofs.Common.{◌-◌, ◌^◌}
use Rattle.object_memory.specs.Memory.{ranges}
use Rattle.run_trace.specs.Walks.{IsWalk}
use Rattle.run_trace.proofs.walking.located.Given as goal

abbrev pub invariant-loop-base : goal.invariant-loop-base
invariant-loop-base g l = IsWalk (ranges l.runner.mem) l.address l.base l.object

abbrev pub decreases-loop-base : goal.decreases-loop-base
decreases-loop-base g l = 2 ^ 64 - l.base
