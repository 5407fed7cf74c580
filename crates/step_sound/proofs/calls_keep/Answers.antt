use Rattle.step_sound.proofs.Keeping.{calls_keep}
use Rattle.step_sound.proofs.calls_keep.Goals as goal

pub returns : goal.returns
returns c = calls_keep
