use Rattle.std.proofs.Common.{ap, ◌∙◌}
use Rattle.cli_base.specs.Words.{word_bytes}
use Rattle.image_lint.specs.Answers.{warned_with}
use Rattle.image_lint.specs.Requests.{request_of}
use Rattle.image_lint.proofs.AnswerLaws.{all-asked, answers, leaves-part, part-asked}
use Rattle.image_lint.proofs.answer.lint.Goals as goal

pub returns-in-Ok-clause-answer : goal.returns-in-Ok-clause-answer
returns-in-Ok-clause-answer g c = answers _ (λ files. request_of (word_bytes c.args.words.now) files) _ _ _ _ _ _
    c.in-Ok.ensures.decided c.finish-outcome.ensures.answer
    (c.warned_with.ensures ∙ ap (warned_with c.finish-outcome.result) c.warns-warned.ensures) c.finish-outcome.ensures.text

pub returns-in-Ok-clause-asked : goal.returns-in-Ok-clause-asked
returns-in-Ok-clause-asked g c = all-asked _ _ (λ files. request_of (word_bytes c.args.words.now) files) _ _ _ _ c.in-Ok.ensures.decided
    (rw c.in-Ok.ensures.contents at c.finish-outcome.ensures.asked)

pub returns-in-Ok-clause-asked_part : goal.returns-in-Ok-clause-asked_part
returns-in-Ok-clause-asked_part g c = part-asked _ (λ files. request_of (word_bytes c.args.words.now) files) _ _ _ _
    c.in-Ok.ensures.decided (rw c.in-Ok.ensures.contents at c.finish-outcome.ensures.asked)

pub returns-in-Ok-clause-write_fault_leaves : goal.returns-in-Ok-clause-write_fault_leaves
returns-in-Ok-clause-write_fault_leaves g c = leaves-part _ (λ files. request_of (word_bytes c.args.words.now) files) _ _ _ _ _ _
    c.in-Ok.ensures.decided c.finish-outcome.ensures.part

pub returns-in-Ok-clause-bad_words : goal.returns-in-Ok-clause-bad_words
returns-in-Ok-clause-bad_words g c = λ is. rw (c.finish-outcome.ensures.answer is) c.in-Ok.ensures.reply.bad_words

pub returns-in-Ok-clause-read_fault : goal.returns-in-Ok-clause-read_fault
returns-in-Ok-clause-read_fault g c = λ fault. absurd (c.finish-outcome.ensures.read fault)

pub returns-in-Ok-clause-write_fault : goal.returns-in-Ok-clause-write_fault
returns-in-Ok-clause-write_fault g c = c.finish-outcome.ensures.put_fault c.in-Ok.ensures.reply.output
