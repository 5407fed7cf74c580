use Rattle.std.proofs.Common.{◌-◌, ◌+◌, ◌≤◌}
use Rattle.object_memory.specs.Memory.{ranges}
use Rattle.run_trace.specs.Pointed.{IsReached}
use Rattle.run_trace.proofs.pointing.base_of.Given as goal

abbrev pub invariant-loop-reached : goal.invariant-loop-reached
invariant-loop-reached g l = (l.reached ≤ l.number) × IsReached (ranges l.runner.mem) l.reached l.base

abbrev pub decreases-loop-reached : goal.decreases-loop-reached
decreases-loop-reached g l = l.number + 1 - l.reached
