use Rattle.step_sound.proofs.Keeping.{thunks_keep}
use Rattle.step_sound.proofs.thunks_keep.Goals as goal

pub returns : goal.returns
returns c = thunks_keep
