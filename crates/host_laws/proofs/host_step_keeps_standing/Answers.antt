use Rattle.host_laws.proofs.Together.{host_step_keeps_standing}
use Rattle.host_laws.proofs.host_step_keeps_standing.Goals as goal

pub returns : goal.returns
returns c = host_step_keeps_standing
