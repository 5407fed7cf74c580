use Rattle.pair_laws.proofs.Following.{pairs_follow}
use Rattle.pair_laws.proofs.pairs_follow.Goals as goal

pub returns : goal.returns
returns c = pairs_follow
