use Rattle.run_trace.proofs.StepLaws.{steps_tell_stores}
use Rattle.run_trace.proofs.laws.steps_tell_stores.Goals as goal

pub returns : goal.returns
returns c = steps_tell_stores
