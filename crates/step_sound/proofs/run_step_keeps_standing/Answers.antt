use Rattle.step_sound.proofs.RunSteps.{run_step_keeps_standing}
use Rattle.step_sound.proofs.run_step_keeps_standing.Goals as goal

pub returns : goal.returns
returns c = run_step_keeps_standing
