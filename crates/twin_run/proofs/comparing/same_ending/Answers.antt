use Rattle.twin_run.proofs.Common.{Decides-at}
use Rattle.twin_run.proofs.SameEvents.{Decides-ending}
use Rattle.twin_run.proofs.comparing.same_ending.Goals as goal

pub returns : goal.returns
returns c = Decides-at _ _ c.eq.ensures (Decides-ending c.args.ending c.args.other)
