use Rattle.twin_run.proofs.Common.{◌≡◌, length, map, take, Param}
use Rattle.twin_run.proofs.entering.kinds_of.Given as goal

abbrev pub invariant-loop-k : goal.invariant-loop-k
invariant-loop-k l = (length l.kinds ≡ 16) × (take l.k l.kinds ≡ map (λ (p : Param). p.kind) (take l.k l.params))
