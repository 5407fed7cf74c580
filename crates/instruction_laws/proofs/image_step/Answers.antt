use Rattle.instruction_laws.proofs.ImageSteps.{image_step}
use Rattle.instruction_laws.proofs.image_step.Goals as goal

pub returns : goal.returns
returns c = image_step
