use Rattle.script_draft.proofs.Common.{IfOk-weaker}
use Rattle.script_draft.proofs.ValueLaws.{value_read}
use Rattle.script_draft.proofs.value.ValueTextFromText.from_text.Goals as goal

pub returns-clause-grammar : goal.returns-clause-grammar
returns-clause-grammar c = IfOk-weaker c.value_of.result _ _ (λ value h. value_read c.args.text.now value h) c.value_of.ensures
