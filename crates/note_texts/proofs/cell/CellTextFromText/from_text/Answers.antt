use Rattle.std.proofs.lemmas.Result.{IfOk-weaker}
use Rattle.note_texts.proofs.CellLaws.{cell_read}
use Rattle.note_texts.proofs.cell.CellTextFromText.from_text.Goals as goal

pub returns-clause-grammar : goal.returns-clause-grammar
returns-clause-grammar c = IfOk-weaker c.cell_of.result _ _ (λ cell h. cell_read c.args.text.now cell h) c.cell_of.ensures
