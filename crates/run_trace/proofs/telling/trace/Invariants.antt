use Rattle.std.proofs.Common.{◌-◌}
use Rattle.host_model.specs.Runs.{world_of}
use Rattle.run_trace.specs.Traces.{IsTold}
use Rattle.run_trace.proofs.telling.trace.Given as goal

abbrev pub invariant-loop-taken : goal.invariant-loop-taken
invariant-loop-taken g l =
    IsTold g.row.W l.image (world_of l.image l.notes l.script) l.first l.last l.taken l.traced l.fn.out.items l.out.items

abbrev pub decreases-loop-taken : goal.decreases-loop-taken
decreases-loop-taken g l = l.last - l.taken
