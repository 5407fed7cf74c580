use Rattle.step_sound.proofs.Keeping.{native_calls_keep}
use Rattle.step_sound.proofs.native_calls_keep.Goals as goal

pub returns : goal.returns
returns c = native_calls_keep
