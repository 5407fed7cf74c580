use Rattle.code_places.proofs.ShownLemmas.{listed, shows}
use Rattle.code_places.proofs.answer.places.Goals as goal

pub returns-in-Ok-clause-shows : goal.returns-in-Ok-clause-shows
returns-in-Ok-clause-shows g c = shows _ _ _ _ _ _ _ _ c.in-Ok.ensures.decided c.finish.ensures.answer c.finish.ensures.text

pub returns-in-Ok-clause-listed : goal.returns-in-Ok-clause-listed
returns-in-Ok-clause-listed g c = listed

pub returns-in-Err-clause-listed : goal.returns-in-Err-clause-listed
returns-in-Err-clause-listed g c = listed

pub returns-in-Ok-clause-write_fault : goal.returns-in-Ok-clause-write_fault
returns-in-Ok-clause-write_fault g c = c.finish.ensures.put_fault c.in-Ok.ensures.reply.output
