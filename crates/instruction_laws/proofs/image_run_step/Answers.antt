use Rattle.instruction_laws.proofs.ImageSteps.{image_run_step}
use Rattle.instruction_laws.proofs.image_run_step.Goals as goal

pub returns : goal.returns
returns c = image_run_step
