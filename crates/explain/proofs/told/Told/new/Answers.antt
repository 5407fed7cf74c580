use Rattle.explain.proofs.ShownLaws.{nothing-shown}
use Rattle.explain.proofs.told.Told.new.Goals as goal

pub invariant_of-result : goal.invariant_of-result
invariant_of-result c = rw c.new.ensures.bytes nothing-shown
