use Rattle.neutral_machine.proofs.Thunks.{thunk_made}
use Rattle.neutral_machine.proofs.laws.thunk_made.Goals as goal

pub returns : goal.returns
returns c = thunk_made
