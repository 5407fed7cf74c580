use Rattle.note_texts.proofs.NumberRanges.{number_read}
use Rattle.note_texts.proofs.number.number_of.Goals as goal

pub returns-clause-grammar : goal.returns-clause-grammar
returns-clause-grammar c = number_read c.args.text.now c.plain_number.result c.plain_number.ensures
