use Rattle.typing_laws.proofs.FlowTable.{one_rule}
use Rattle.typing_laws.proofs.one_rule.Goals as goal

pub returns : goal.returns
returns c = one_rule
