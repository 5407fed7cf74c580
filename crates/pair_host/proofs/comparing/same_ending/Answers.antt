use Rattle.std.proofs.lemmas.Bool.Decides.{Decides-at}
use Rattle.twin_run.proofs.SameEvents.{Decides-ending}
use Rattle.pair_host.proofs.comparing.same_ending.Goals as goal

pub returns : goal.returns
returns c = Decides-at _ _ c.eq.ensures (Decides-ending c.args.ending c.args.other)
