use Rattle.step_sound.proofs.Keeping.{notifies_keep}
use Rattle.step_sound.proofs.notifies_keep.Goals as goal

pub returns : goal.returns
returns c = notifies_keep
