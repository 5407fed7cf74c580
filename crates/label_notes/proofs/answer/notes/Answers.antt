use Rattle.cli_base.specs.Words.{word_bytes}
use Rattle.label_notes.specs.Requests.{request_of}
use Rattle.label_notes.proofs.AnswerLaws.{all-asked, answers, leaves-part, part-asked, unput-then, untold-then}
use Rattle.label_notes.proofs.answer.notes.Goals as goal

pub returns-in-Ok-clause-answer : goal.returns-in-Ok-clause-answer
returns-in-Ok-clause-answer g c = answers _ (λ files. request_of (word_bytes c.args.words.now) files) _ _ _ _ _ _
    c.in-Ok.ensures.decided c.finish.ensures.answer c.finish.ensures.text

pub returns-in-Ok-clause-asked : goal.returns-in-Ok-clause-asked
returns-in-Ok-clause-asked g c = all-asked _ _ (λ files. request_of (word_bytes c.args.words.now) files) _ _ _ _ c.in-Ok.ensures.decided
    (rw c.in-Ok.ensures.contents at c.finish.ensures.asked)

pub returns-in-Ok-clause-asked_part : goal.returns-in-Ok-clause-asked_part
returns-in-Ok-clause-asked_part g c = part-asked _ (λ files. request_of (word_bytes c.args.words.now) files) _ _ _ _
    c.in-Ok.ensures.decided (rw c.in-Ok.ensures.contents at c.finish.ensures.asked)

pub returns-in-Ok-clause-write_fault_leaves : goal.returns-in-Ok-clause-write_fault_leaves
returns-in-Ok-clause-write_fault_leaves g c = leaves-part _ (λ files. request_of (word_bytes c.args.words.now) files) _ _ _ _ _ _
    c.in-Ok.ensures.decided c.finish.ensures.part

pub returns-in-Ok-clause-bad_words : goal.returns-in-Ok-clause-bad_words
returns-in-Ok-clause-bad_words g c = λ is. rw (c.finish.ensures.answer is) c.in-Ok.ensures.reply.bad_words

pub returns-in-Ok-clause-read_fault : goal.returns-in-Ok-clause-read_fault
returns-in-Ok-clause-read_fault g c = λ fault. absurd (c.finish.ensures.read fault)

pub returns-in-Ok-clause-write_fault : goal.returns-in-Ok-clause-write_fault
returns-in-Ok-clause-write_fault g c = c.finish.ensures.put_fault c.in-Ok.ensures.reply.output

pub returns-in-Ok-clause-unput : goal.returns-in-Ok-clause-unput
returns-in-Ok-clause-unput g c = unput-then _ (word_bytes c.args.words.now) _ _ _ _ _ c.in-Ok.ensures.decided c.finish.ensures.unput

pub returns-in-Ok-clause-untold : goal.returns-in-Ok-clause-untold
returns-in-Ok-clause-untold g c = untold-then _ (word_bytes c.args.words.now) _ _ _ _ c.in-Ok.ensures.decided
    (λ empty fault. (c.finish.ensures.untold empty fault).0 c.in-Ok.ensures.reply.output)
