use Rattle.typing_laws.proofs.AccessesAgree.{loads_agree, stores_agree, parameters_agree, forms_agree}
use Rattle.typing_laws.proofs.tables_agree.Goals as goal

pub returns-clause-loads : goal.returns-clause-loads
returns-clause-loads c = loads_agree

pub returns-clause-stores : goal.returns-clause-stores
returns-clause-stores c = stores_agree

pub returns-clause-parameters : goal.returns-clause-parameters
returns-clause-parameters c = parameters_agree

pub returns-clause-forms : goal.returns-clause-forms
returns-clause-forms c = forms_agree
