use Rattle.twin_run.proofs.Common.{Decides-at}
use Rattle.twin_run.proofs.SameEvents.{Decides-spot}
use Rattle.twin_run.proofs.comparing.same_spot.Goals as goal

pub returns : goal.returns
returns c = Decides-at _ _ c.eq.ensures (Decides-spot c.args.spot c.args.other)
