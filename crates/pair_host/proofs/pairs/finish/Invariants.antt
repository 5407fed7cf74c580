use Rattle.pair_host.proofs.Common.{◌-◌, images_for, pair_world}
use Rattle.pair_host.specs.PairOnItsWay.{IsPairOnItsWay}
use Rattle.pair_host.proofs.pairs.finish.Given as goal

abbrev pub invariant-loop-steps : goal.invariant-loop-steps
invariant-loop-steps g l = IsPairOnItsWay g.row.W (images_for l.a l.b) (pair_world l.a l.b l.binds) l.limit l.steps l.runner

abbrev pub decreases-loop-steps : goal.decreases-loop-steps
decreases-loop-steps g l = l.limit - l.steps
