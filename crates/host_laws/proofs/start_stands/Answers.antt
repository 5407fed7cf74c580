use Rattle.host_laws.proofs.Together.{start_stands}
use Rattle.host_laws.proofs.start_stands.Goals as goal

pub returns : goal.returns
returns c = start_stands
