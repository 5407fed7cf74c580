use Rattle.step_sound.proofs.Keeping.{plain_steps_keep}
use Rattle.step_sound.proofs.plain_steps_keep.Goals as goal

pub returns : goal.returns
returns c = plain_steps_keep
