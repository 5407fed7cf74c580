use Rattle.host_laws.proofs.Together.{thunk_is_seen, thunk_keeps_standing}
use Rattle.host_laws.proofs.thunk_keeps_standing.Goals as goal

pub returns-clause-seen : goal.returns-clause-seen
returns-clause-seen c = thunk_is_seen

pub returns-clause-served : goal.returns-clause-served
returns-clause-served c = thunk_keeps_standing
