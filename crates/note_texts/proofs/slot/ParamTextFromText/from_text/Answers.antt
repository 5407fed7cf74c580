use Rattle.std.proofs.lemmas.Result.{IfOk-weaker}
use Rattle.note_texts.proofs.SlotLaws.{param_read}
use Rattle.note_texts.proofs.slot.ParamTextFromText.from_text.Goals as goal

pub returns-clause-grammar : goal.returns-clause-grammar
returns-clause-grammar c = IfOk-weaker c.param_of.result _ _ (λ param h. param_read c.args.text.now param h) c.param_of.ensures
