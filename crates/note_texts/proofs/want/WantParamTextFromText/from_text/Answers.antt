use Rattle.std.proofs.lemmas.Result.{IfOk-weaker}
use Rattle.note_texts.proofs.WantLaws.{want_param_read}
use Rattle.note_texts.proofs.want.WantParamTextFromText.from_text.Goals as goal

pub returns-clause-grammar : goal.returns-clause-grammar
returns-clause-grammar c = IfOk-weaker c.want_param_of.result _ _
    (λ param h. want_param_read c.args.text.now param h) c.want_param_of.ensures
