use Rattle.step_sound.proofs.Keeping.{replies_keep}
use Rattle.step_sound.proofs.replies_keep.Goals as goal

pub returns : goal.returns
returns c = replies_keep
