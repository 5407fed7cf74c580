use Rattle.image_warnings.specs.Walks.{WarnedBefore}
use Rattle.image_warnings.proofs.walk.append_each.Given as goal

abbrev pub invariant-loop-func : goal.invariant-loop-func
invariant-loop-func l = WarnedBefore l.image l.notes l.func l.out.items
