use Rattle.step_sound.proofs.Statics.{statics_are_shown}
use Rattle.step_sound.proofs.statics_are_shown.Goals as goal

pub returns : goal.returns
returns c = statics_are_shown
