use Rattle.typing_laws.proofs.DataTable.{one_data_rule}
use Rattle.typing_laws.proofs.one_data_rule.Goals as goal

pub returns : goal.returns
returns c = one_data_rule
