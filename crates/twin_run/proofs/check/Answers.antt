use Rattle.twin_run.proofs.Runs.{verdict_as_one, verdict_is_same}
use Rattle.twin_run.proofs.check.Goals as goal

pub returns-clause-as_one : goal.returns-clause-as_one
returns-clause-as_one c =
    verdict_as_one c.args.image.now c.args.notes.now c.requires.image c.requires.bytes c.requires.notes c.check.result
    c.check.ensures.neutral

pub returns-clause-alike : goal.returns-clause-alike
returns-clause-alike c =
    verdict_is_same c.args.image.now c.args.notes.now c.requires.image c.requires.bytes c.requires.notes c.check.result
    c.check.ensures.neutral
