use Rattle.host_laws.proofs.Together.{views_are_alike}
use Rattle.host_laws.proofs.views_are_alike.Goals as goal

pub returns : goal.returns
returns c = views_are_alike
