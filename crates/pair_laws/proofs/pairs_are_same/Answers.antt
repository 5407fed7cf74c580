use Rattle.pair_laws.proofs.Following.{pairs_are_same}
use Rattle.pair_laws.proofs.pairs_are_same.Goals as goal

pub returns : goal.returns
returns c = pairs_are_same
