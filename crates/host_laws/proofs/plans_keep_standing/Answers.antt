use Rattle.host_laws.proofs.Together.{plans_keep_standing}
use Rattle.host_laws.proofs.plans_keep_standing.Goals as goal

pub returns : goal.returns
returns c = plans_keep_standing
