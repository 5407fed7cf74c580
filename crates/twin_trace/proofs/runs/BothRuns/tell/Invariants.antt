use Rattle.std.proofs.Common.{◌≡◌, ◌++◌, ◌-◌, ◌≤◌, max}
use Rattle.run_trace.specs.Following.{world_under}
use Rattle.twin_trace.specs.BothTraces.{AreBothAfter, steps_beside}
use Rattle.twin_trace.proofs.runs.BothRuns.tell.Given as goal

abbrev pub invariant-loop-number : goal.invariant-loop-number
invariant-loop-number l = record {
  at : AreBothAfter l.program l.number l.self;
  least : l.taken ≤ l.number;
  most : l.number ≤ max l.taken l.last;
  text : l.out.items ≡ l.fn.out.items ++ steps_beside l.program.image.now (world_under l.program) l.taken l.number;
}

abbrev pub decreases-loop-number : goal.decreases-loop-number
decreases-loop-number l = l.last - l.number
