use Rattle.step_sound.proofs.Keeping.{leaving_keeps_all}
use Rattle.step_sound.proofs.leaving_keeps.Goals as goal

pub returns : goal.returns
returns c = leaving_keeps_all
