use Rattle.rules_laws.proofs.FieldsKept.{data_kept, flow_kept}
use Rattle.rules_laws.proofs.fields_are_kept.Goals as goal

pub returns-clause-data : goal.returns-clause-data
returns-clause-data c = data_kept

pub returns-clause-flow : goal.returns-clause-flow
returns-clause-flow c = flow_kept
