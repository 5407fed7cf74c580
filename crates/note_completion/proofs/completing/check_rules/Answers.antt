use Rattle.note_completion.specs.Causes.{by_check}
use Rattle.note_completion.proofs.completing.check_rules.Goals as goal

pub refused_in-requires-clause-cause : goal.refused_in-requires-clause-cause
refused_in-requires-clause-cause c =
    by_check ((c.in_ok-check.ensures.refused c.in-Refused.place c.in-Refused.rule).0 c.in-Refused.is)
