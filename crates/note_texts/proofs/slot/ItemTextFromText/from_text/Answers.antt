use Rattle.std.proofs.lemmas.Result.{IfOk-weaker}
use Rattle.note_texts.proofs.SlotLaws.{item_read}
use Rattle.note_texts.proofs.slot.ItemTextFromText.from_text.Goals as goal

pub returns-clause-grammar : goal.returns-clause-grammar
returns-clause-grammar c = IfOk-weaker c.item_of.result _ _ (λ item h. item_read c.args.text.now item h) c.item_of.ensures
