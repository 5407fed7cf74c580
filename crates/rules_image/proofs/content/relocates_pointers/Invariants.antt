use Rattle.rules_image.proofs.content.relocates_pointers.Given as goal
use Rattle.rules_image.specs.Contents.{RelocatesBelow}

abbrev pub invariant-loop-number : goal.invariant-loop-number
invariant-loop-number l = RelocatesBelow l.image l.x l.s l.number
