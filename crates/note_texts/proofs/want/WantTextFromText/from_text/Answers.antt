use Rattle.std.proofs.lemmas.Result.{IfOk-weaker}
use Rattle.note_texts.proofs.WantLaws.{want_read}
use Rattle.note_texts.proofs.want.WantTextFromText.from_text.Goals as goal

pub returns-clause-grammar : goal.returns-clause-grammar
returns-clause-grammar c = IfOk-weaker c.want_of.result _ _ (λ want h. want_read c.args.text.now want h) c.want_of.ensures
