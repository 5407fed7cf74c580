use Rattle.pair_laws.proofs.DoublingTyped.{pair_premises_are_met}
use Rattle.pair_laws.proofs.pair_premises_are_met.Goals as goal

pub returns : goal.returns
returns c = pair_premises_are_met
