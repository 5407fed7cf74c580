use Rattle.step_sound.proofs.Keeping.{next_step_is_there}
use Rattle.step_sound.proofs.next_step_is_there.Goals as goal

pub returns : goal.returns
returns c = next_step_is_there
