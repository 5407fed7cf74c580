use Rattle.script_draft.proofs.Common.{IfOk-weaker}
use Rattle.script_draft.proofs.ValueLaws.{argument_read}
use Rattle.script_draft.proofs.value.ArgumentTextFromText.from_text.Goals as goal

pub returns-clause-grammar : goal.returns-clause-grammar
returns-clause-grammar c = IfOk-weaker c.argument_of.result _ _
    (λ argument h. argument_read c.args.text.now argument h) c.argument_of.ensures
