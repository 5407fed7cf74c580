use Rattle.step_sound.proofs.Thunks.{thunks_are_loaded}
use Rattle.step_sound.proofs.thunks_are_loaded.Goals as goal

pub returns : goal.returns
returns c = thunks_are_loaded
