use Rattle.step_sound.proofs.Keeping.{resuming_keeps_all}
use Rattle.step_sound.proofs.resuming_keeps.Goals as goal

pub returns : goal.returns
returns c = resuming_keeps_all
