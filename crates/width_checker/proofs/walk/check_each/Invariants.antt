use Rattle.width_checker.proofs.Common.{FunctionsMeet}
use Rattle.width_checker.proofs.walk.check_each.Given as goal

abbrev pub invariant-loop-func : goal.invariant-loop-func
invariant-loop-func l = FunctionsMeet l.image l.notes l.func
