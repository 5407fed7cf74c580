use Rattle.std.proofs.lemmas.Result.{IfOk-weaker}
use Rattle.note_texts.proofs.SlotLaws.{register_read}
use Rattle.note_texts.proofs.slot.RegisterTextFromText.from_text.Goals as goal

pub returns-clause-grammar : goal.returns-clause-grammar
returns-clause-grammar c = IfOk-weaker c.register_of.result _ _
    (λ register h. register_read c.args.text.now register h) c.register_of.ensures
