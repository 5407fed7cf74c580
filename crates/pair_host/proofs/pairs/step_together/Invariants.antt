use Rattle.pair_host.proofs.Common.{◌-◌, ArePairsInStep, images_for, pair_world}
use Rattle.pair_host.proofs.pairs.step_together.Given as goal

abbrev pub invariant-loop-same : goal.invariant-loop-same
invariant-loop-same l = ArePairsInStep (images_for l.a l.b) (pair_world l.a l.b l.binds) l.limit l.taken l.at4 l.at8 l.same

abbrev pub decreases-loop-same : goal.decreases-loop-same
decreases-loop-same l = l.limit - l.taken
