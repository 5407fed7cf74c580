use Rattle.instruction_laws.proofs.Hosts.{hosts_kept}
use Rattle.instruction_laws.proofs.hosts_kept.Goals as goal

pub returns : goal.returns
returns c = hosts_kept
