use Rattle.instruction_laws.proofs.ImageSteps.{instruction_read}
use Rattle.instruction_laws.proofs.instruction_read.Goals as goal

pub returns : goal.returns
returns c = instruction_read
