use Rattle.ebc_machine.proofs.Steps.{step_keeps_concrete}
use Rattle.ebc_machine.proofs.laws.step_keeps_concrete.Goals as goal

pub returns : goal.returns
returns c = step_keeps_concrete
