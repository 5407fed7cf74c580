use Rattle.std.specs.Prelude.{⊤}
use Rattle.point_search.proofs.type_joins.gcd.Given as goal

abbrev pub invariant-loop-y : goal.invariant-loop-y
invariant-loop-y l = ⊤

abbrev pub decreases-loop-y : goal.decreases-loop-y
decreases-loop-y l = l.y
