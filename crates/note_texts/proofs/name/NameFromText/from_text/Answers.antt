use Rattle.std.proofs.lemmas.Result.{IfOk-weaker}
use Rattle.note_texts.proofs.NumberRanges.{name_read}
use Rattle.note_texts.proofs.name.NameFromText.from_text.Goals as goal

pub returns-clause-grammar : goal.returns-clause-grammar
returns-clause-grammar c = IfOk-weaker c.name_of.result _ _ (λ name h. name_read c.args.text.now name h) c.name_of.ensures
