use Rattle.rules_image.proofs.RangesLemmas.{relocated_none, relocated_some}
use Rattle.rules_image.proofs.Disjoint.{refuted}
use Rattle.rules_image.proofs.ranges.is_relocated.Goals as goal

pub returns-in-Some : goal.returns-in-Some
returns-in-Some c = relocated_some c.args.image.now c.requires c.args.place c.in-Some.r c.in-Some.ensures.some

pub returns-in-None : goal.returns-in-None
returns-in-None c = refuted (relocated_none c.args.image.now c.args.place c.in-None.ensures.none)
