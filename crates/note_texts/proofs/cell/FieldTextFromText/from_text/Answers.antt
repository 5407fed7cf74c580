use Rattle.std.proofs.lemmas.Result.{IfOk-weaker}
use Rattle.note_texts.proofs.SlotLaws.{field_read}
use Rattle.note_texts.proofs.cell.FieldTextFromText.from_text.Goals as goal

pub returns-clause-grammar : goal.returns-clause-grammar
returns-clause-grammar c = IfOk-weaker c.field_of.result _ _ (λ field h. field_read c.args.text.now field h) c.field_of.ensures
