use Rattle.std.proofs.lemmas.Result.{IfOk-weaker}
use Rattle.note_texts.proofs.TypeLaws.{type_read}
use Rattle.note_texts.proofs.ty.TypeTextFromText.from_text.Goals as goal

pub returns-clause-grammar : goal.returns-clause-grammar
returns-clause-grammar c = IfOk-weaker c.type_of.result _ _ (λ ty h. type_read c.args.text.now ty h) c.type_of.ensures
