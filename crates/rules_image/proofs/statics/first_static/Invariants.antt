use Rattle.std.proofs.Common.{ℕ, ◌<◌}
use Rattle.rules_image.specs.Checks.{StaticFits}
use Rattle.rules_image.proofs.Firsts.{HoldsOf}
use Rattle.rules_image.proofs.statics.first_static.Given as goal

abbrev pub invariant-loop-number : goal.invariant-loop-number
invariant-loop-number l = (k : ℕ) → k < l.number → HoldsOf (StaticFits l.image l.notes) l.statics k
