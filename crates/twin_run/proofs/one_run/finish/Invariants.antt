use Rattle.twin_run.proofs.Common.{◌≡◌, ℕ, ◌-◌, World, Image, IsOnItsWay, Runs}
use Rattle.twin_run.proofs.one_run.finish.Given as goal

abbrev pub invariant-loop-runner : goal.invariant-loop-runner
invariant-loop-runner g l = record {
  runs : Runs g.row.W l.notes l.script l.runner;
  on : (image : Image) (world : World) (taken : ℕ) → world.notes ≡ l.notes → world.script ≡ l.script
      → IsOnItsWay g.row.W image world l.limit taken l.fn.runner → IsOnItsWay g.row.W image world l.limit l.runner.taken l.runner;
}

abbrev pub decreases-loop-runner : goal.decreases-loop-runner
decreases-loop-runner g l = l.limit - l.runner.taken
