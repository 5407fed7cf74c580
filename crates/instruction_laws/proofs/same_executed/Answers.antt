use Rattle.instruction_laws.proofs.ImageSteps.{same_executed}
use Rattle.instruction_laws.proofs.same_executed.Goals as goal

pub returns : goal.returns
returns c = same_executed
