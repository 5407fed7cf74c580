use Rattle.std.proofs.Common.{ℕ, ◌<◌}
use Rattle.pe_image.specs.declared.image.Section.{Section}
use Rattle.rules_image.proofs.Firsts.{HoldsOf}
use Rattle.rules_image.proofs.ranges.are_zero_in.Given as goal
use Rattle.rules_image.specs.Contents.{IsZeroIn}

abbrev pub invariant-loop-s : goal.invariant-loop-s
invariant-loop-s l = (k : ℕ) → k < l.s-index → HoldsOf (λ j (s : Section). IsZeroIn s l.from l.to) l.sections k
