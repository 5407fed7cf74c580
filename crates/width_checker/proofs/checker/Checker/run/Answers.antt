use Rattle.width_checker.proofs.Common.{Neutral, Refused}
use Rattle.width_checker.proofs.{Deciding.neutral_exactly, Deciding.refused_exactly, Points.one_point}
use Rattle.width_checker.proofs.checker.Checker.run.Goals as goal

pub returns-in-Ok-clause-refused : goal.returns-in-Ok-clause-refused
returns-in-Ok-clause-refused c = refused_exactly c.args.image.now c.args.notes.now
    (one_point c.args.notes.now c.requires.notes.ascends) Neutral c.in-Ok.ensures.holds

pub returns-in-Err-clause-neutral : goal.returns-in-Err-clause-neutral
returns-in-Err-clause-neutral c =
    neutral_exactly c.args.image.now c.args.notes.now (one_point c.args.notes.now c.requires.notes.ascends)
    (Refused c.in-Err.refusal.place c.in-Err.refusal.rule) c.in-Err.ensures.fails

pub returns-in-Err-clause-refused : goal.returns-in-Err-clause-refused
returns-in-Err-clause-refused c =
    refused_exactly c.args.image.now c.args.notes.now (one_point c.args.notes.now c.requires.notes.ascends)
    (Refused c.in-Err.refusal.place c.in-Err.refusal.rule) c.in-Err.ensures.fails
