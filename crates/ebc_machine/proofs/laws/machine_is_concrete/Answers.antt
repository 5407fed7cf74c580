use Rattle.ebc_machine.proofs.Machines.{machine_is_concrete}
use Rattle.ebc_machine.proofs.laws.machine_is_concrete.Goals as goal

pub returns : goal.returns
returns c = machine_is_concrete
