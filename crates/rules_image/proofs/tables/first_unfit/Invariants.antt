use Rattle.std.proofs.Common.{ℕ, ◌<◌}
use Rattle.rules_image.specs.Tables.{FitsAt}
use Rattle.rules_image.proofs.tables.first_unfit.Given as goal

abbrev pub invariant-loop-number : goal.invariant-loop-number
invariant-loop-number l = (k : ℕ) → k < l.number → FitsAt l.shapes k
