use Rattle.twin_run.proofs.Common.{◌-◌, world_of, AreInStep}
use Rattle.twin_run.proofs.two_runs.twin.Given as goal

abbrev pub invariant-loop-same : goal.invariant-loop-same
invariant-loop-same l = AreInStep l.image (world_of l.image l.notes l.script) l.steps l.taken l.at4 l.at8 l.same

abbrev pub decreases-loop-same : goal.decreases-loop-same
decreases-loop-same l = l.steps - l.taken
