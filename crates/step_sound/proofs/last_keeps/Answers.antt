use Rattle.step_sound.proofs.Keeping.{last_keeps_all}
use Rattle.step_sound.proofs.last_keeps.Goals as goal

pub returns : goal.returns
returns c = last_keeps_all
