use Rattle.step_sound.proofs.Keeping.{enters_keep}
use Rattle.step_sound.proofs.enters_keep.Goals as goal

pub returns : goal.returns
returns c = enters_keep
