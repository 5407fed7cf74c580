use Rattle.std.proofs.Common.{◌-◌, ◌≤◌, max}
use Rattle.twin_trace.specs.BothTraces.{AreBothAfter}
use Rattle.twin_trace.proofs.runs.BothRuns.pass.Given as goal

abbrev pub invariant-loop-number : goal.invariant-loop-number
invariant-loop-number l = record {
  at : AreBothAfter l.program l.number l.self;
  least : l.taken ≤ l.number;
  most : l.number ≤ max l.taken l.last;
}

abbrev pub decreases-loop-number : goal.decreases-loop-number
decreases-loop-number l = l.last - l.number
