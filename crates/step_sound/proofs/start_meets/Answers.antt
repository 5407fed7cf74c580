use Rattle.step_sound.proofs.Keeping.{start_is_met}
use Rattle.step_sound.proofs.start_meets.Goals as goal

pub returns : goal.returns
returns c = start_is_met
