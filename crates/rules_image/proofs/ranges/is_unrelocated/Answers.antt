use Rattle.rules_image.proofs.RangesLemmas.{holds, unrelocated_none, unrelocated_some}
use Rattle.rules_image.proofs.ranges.is_unrelocated.Goals as goal

pub returns-in-Some : goal.returns-in-Some
returns-in-Some c = unrelocated_some c.args.image.now c.args.from c.args.to c.in-Some.r c.in-Some.ensures.some

pub returns-in-None : goal.returns-in-None
returns-in-None c = holds (unrelocated_none c.args.image.now c.args.from c.args.to c.in-None.ensures.none)
