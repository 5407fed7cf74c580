use Rattle.instruction_laws.proofs.Steps.{one_step}
use Rattle.instruction_laws.proofs.one_step.Goals as goal

pub returns : goal.returns
returns c = one_step
