use Rattle.std.proofs.lemmas.Result.{IfOk-weaker}
use Rattle.note_texts.proofs.WantLaws.{result_read}
use Rattle.note_texts.proofs.want.ResultTextFromText.from_text.Goals as goal

pub returns-clause-grammar : goal.returns-clause-grammar
returns-clause-grammar c = IfOk-weaker c.result_of.result _ _ (λ given h. result_read c.args.text.now given h) c.result_of.ensures
