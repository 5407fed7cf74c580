use Rattle.std.proofs.Common.{arith}
use Rattle.rules_image.proofs.apart.extent_inside.Goals as goal

pub returns-then-from-size-clause-some : goal.returns-then-from-size-clause-some
returns-then-from-size-clause-some c = (omega arith, omega arith)
