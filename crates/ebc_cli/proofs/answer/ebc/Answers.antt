use Rattle.ebc_cli.proofs.Common.{◌∙◌}
use Rattle.cli_base.proofs.OutputLemmas.{but-output, writes-none}
use Rattle.ebc_cli.proofs.AnswerLaws.{all-asked, answers, done, leaves-part, missing-cause, part-asked, told, uncounted}
use Rattle.ebc_cli.proofs.VerdictLaws.{code-alike, code-neutral, code-refused, image-alike, image-neutral, image-refused}
use Rattle.ebc_cli.proofs.{InferLaws.points-exactly, InferLaws.points-typed, InferLaws.stuck-exactly, RunLaws.pair-alike}
use Rattle.ebc_cli.proofs.{RunLaws.pair-exactly, RunLaws.pair-same, RunLaws.twin-exactly, RunLaws.twin-same, StopLaws.completes}
use Rattle.ebc_cli.proofs.StopLaws.{numbers-exactly, roms-exactly, stops-exactly, unput}
use Rattle.ebc_cli.proofs.answer.ebc.Goals as goal

pub returns-in-Ok-clause-answer : goal.returns-in-Ok-clause-answer
returns-in-Ok-clause-answer g c = answers _ _ _ _ _ _ _ _ _ c.in-Ok.ensures.decided c.finish.ensures.answer c.finish.ensures.text
    (rw c.in-Ok.ensures.contents at c.finish.ensures.files)

pub returns-in-Ok-clause-asked : goal.returns-in-Ok-clause-asked
returns-in-Ok-clause-asked g c = all-asked _ _ _ _ _ _ _ c.in-Ok.ensures.decided (rw c.in-Ok.ensures.contents at c.finish.ensures.asked)

pub returns-in-Ok-clause-asked_part : goal.returns-in-Ok-clause-asked_part
returns-in-Ok-clause-asked_part g c = part-asked _ _ _ _ _ _ c.in-Ok.ensures.decided (rw c.in-Ok.ensures.contents at c.finish.ensures.asked)

pub returns-in-Ok-clause-files : goal.returns-in-Ok-clause-files
returns-in-Ok-clause-files g c = but-output _ _ _ _ _ c.in-Ok.ensures.reply.output c.in-Ok.ensures.contents c.finish.ensures.others

pub returns-in-Ok-clause-neutral_exactly : goal.returns-in-Ok-clause-neutral_exactly
returns-in-Ok-clause-neutral_exactly g c = told _ _ _ _ _ _ _ _ c.in-Ok.ensures.decided c.finish.ensures.answer c.finish.ensures.text
    (λ files. image-neutral)

pub returns-in-Ok-clause-refused_exactly : goal.returns-in-Ok-clause-refused_exactly
returns-in-Ok-clause-refused_exactly g c = told _ _ _ _ _ _ _ _ c.in-Ok.ensures.decided c.finish.ensures.answer c.finish.ensures.text
    (λ files. image-refused)

pub returns-in-Ok-clause-neutral_alike : goal.returns-in-Ok-clause-neutral_alike
returns-in-Ok-clause-neutral_alike g c = done _ _ _ _ _ _ _ _ c.in-Ok.ensures.decided c.finish.ensures.answer c.finish.ensures.text
    (λ files. image-alike)

pub returns-in-Ok-clause-differ_exactly : goal.returns-in-Ok-clause-differ_exactly
returns-in-Ok-clause-differ_exactly g c = told _ _ _ _ _ _ _ _ c.in-Ok.ensures.decided c.finish.ensures.answer c.finish.ensures.text
    (λ files. twin-exactly)

pub returns-in-Ok-clause-twin_same : goal.returns-in-Ok-clause-twin_same
returns-in-Ok-clause-twin_same g c = told _ _ _ _ _ _ _ _ c.in-Ok.ensures.decided c.finish.ensures.answer c.finish.ensures.text
    (λ files. twin-same)

pub returns-in-Ok-clause-pair_differ_exactly : goal.returns-in-Ok-clause-pair_differ_exactly
returns-in-Ok-clause-pair_differ_exactly g c = told _ _ _ _ _ _ _ _ c.in-Ok.ensures.decided c.finish.ensures.answer c.finish.ensures.text
    (λ files. pair-exactly)

pub returns-in-Ok-clause-pair_same : goal.returns-in-Ok-clause-pair_same
returns-in-Ok-clause-pair_same g c = told _ _ _ _ _ _ _ _ c.in-Ok.ensures.decided c.finish.ensures.answer c.finish.ensures.text
    (λ files. pair-same)

pub returns-in-Ok-clause-pair_alike : goal.returns-in-Ok-clause-pair_alike
returns-in-Ok-clause-pair_alike g c = told _ _ _ _ _ _ _ _ c.in-Ok.ensures.decided c.finish.ensures.answer c.finish.ensures.text
    (λ files. pair-alike)

pub returns-in-Ok-clause-points_exactly : goal.returns-in-Ok-clause-points_exactly
returns-in-Ok-clause-points_exactly g c = told _ _ _ _ _ _ _ _ c.in-Ok.ensures.decided c.finish.ensures.answer c.finish.ensures.text
    (λ files. points-exactly)

pub returns-in-Ok-clause-points_typed : goal.returns-in-Ok-clause-points_typed
returns-in-Ok-clause-points_typed g c = told _ _ _ _ _ _ _ _ c.in-Ok.ensures.decided c.finish.ensures.answer c.finish.ensures.text
    (λ files. points-typed)

pub returns-in-Ok-clause-stuck_exactly : goal.returns-in-Ok-clause-stuck_exactly
returns-in-Ok-clause-stuck_exactly g c = told _ _ _ _ _ _ _ _ c.in-Ok.ensures.decided c.finish.ensures.answer c.finish.ensures.text
    (λ files. stuck-exactly)

pub returns-in-Ok-clause-plain_neutral_exactly : goal.returns-in-Ok-clause-plain_neutral_exactly
returns-in-Ok-clause-plain_neutral_exactly g c = told _ _ _ _ _ _ _ _ c.in-Ok.ensures.decided c.finish.ensures.answer c.finish.ensures.text
    (λ files. code-neutral)

pub returns-in-Ok-clause-plain_refused_exactly : goal.returns-in-Ok-clause-plain_refused_exactly
returns-in-Ok-clause-plain_refused_exactly g c = told _ _ _ _ _ _ _ _ c.in-Ok.ensures.decided c.finish.ensures.answer c.finish.ensures.text
    (λ files. code-refused)

pub returns-in-Ok-clause-plain_neutral_alike : goal.returns-in-Ok-clause-plain_neutral_alike
returns-in-Ok-clause-plain_neutral_alike g c = done _ _ _ _ _ _ _ _ c.in-Ok.ensures.decided c.finish.ensures.answer c.finish.ensures.text
    (λ files. code-alike)

pub returns-in-Ok-clause-stops_exactly : goal.returns-in-Ok-clause-stops_exactly
returns-in-Ok-clause-stops_exactly g c = told _ _ _ _ _ _ _ _ c.in-Ok.ensures.decided c.finish.ensures.answer c.finish.ensures.text
    (λ files. stops-exactly)

pub returns-in-Ok-clause-completes : goal.returns-in-Ok-clause-completes
returns-in-Ok-clause-completes g c = told _ _ _ _ _ _ _ _ c.in-Ok.ensures.decided c.finish.ensures.answer c.finish.ensures.text
    (λ files. completes)

pub returns-in-Ok-clause-numbers_exactly : goal.returns-in-Ok-clause-numbers_exactly
returns-in-Ok-clause-numbers_exactly g c = numbers-exactly

pub returns-in-Ok-clause-roms_exactly : goal.returns-in-Ok-clause-roms_exactly
returns-in-Ok-clause-roms_exactly g c = roms-exactly

pub returns-in-Ok-clause-unput : goal.returns-in-Ok-clause-unput
returns-in-Ok-clause-unput g c = unput _ _ _ _ _ _ _ _ c.in-Ok.ensures.decided c.in-Ok.ensures.reply.output c.finish.ensures.unput
    (rw c.in-Ok.ensures.write_faults at c.finish.ensures.untold)

pub returns-in-Ok-clause-missing : goal.returns-in-Ok-clause-missing
returns-in-Ok-clause-missing g c =
    missing-cause _ _ _ _ _ _ c.in-Ok.ensures.reply.missing c.finish.ensures.answer c.finish.ensures.read_faults

pub returns-in-Ok-clause-unwritten : goal.returns-in-Ok-clause-unwritten
returns-in-Ok-clause-unwritten g c = λ none.
    c.finish.ensures.write_count (writes-none _ _ c.in-Ok.ensures.reply.output none) ∙ c.in-Ok.ensures.write_faults

pub returns-in-Ok-clause-write_fault_leaves : goal.returns-in-Ok-clause-write_fault_leaves
returns-in-Ok-clause-write_fault_leaves g c =
    leaves-part _ _ _ _ _ _ _ _ _ c.in-Ok.ensures.decided c.finish.ensures.part (rw c.in-Ok.ensures.contents at c.finish.ensures.others)

pub returns-in-Ok-clause-bad_words : goal.returns-in-Ok-clause-bad_words
returns-in-Ok-clause-bad_words g c = λ is. rw (c.finish.ensures.answer is) c.in-Ok.ensures.reply.bad_words

pub returns-in-Ok-clause-read_fault : goal.returns-in-Ok-clause-read_fault
returns-in-Ok-clause-read_fault g c = λ fault. absurd (c.finish.ensures.read fault)

pub returns-in-Ok-clause-write_fault : goal.returns-in-Ok-clause-write_fault
returns-in-Ok-clause-write_fault g c = rw c.in-Ok.ensures.write_faults at c.finish.ensures.fault

pub returns-in-Ok-clause-no_memory : goal.returns-in-Ok-clause-no_memory
returns-in-Ok-clause-no_memory g c = λ none.
    (c.finish.ensures.memory none, c.finish.ensures.memory_files none ∙ c.in-Ok.ensures.contents)

pub returns-in-Ok-clause-uncounted : goal.returns-in-Ok-clause-uncounted
returns-in-Ok-clause-uncounted g c = uncounted _ _ _ _ _ _ _ _ _ _ c.in-Ok.ensures.uncounted (λ no. cc) c.finish.ensures.read_faults
    (rw c.in-Ok.ensures.contents at c.finish.ensures.uncounted) c.in-Ok.ensures.write_faults

pub returns-in-Err-clause-numbers_exactly : goal.returns-in-Err-clause-numbers_exactly
returns-in-Err-clause-numbers_exactly g c = numbers-exactly

pub returns-in-Err-clause-roms_exactly : goal.returns-in-Err-clause-roms_exactly
returns-in-Err-clause-roms_exactly g c = roms-exactly
