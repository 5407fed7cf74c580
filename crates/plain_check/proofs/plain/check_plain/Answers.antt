use Rattle.plain_check.proofs.Common.{sym, ◌∙◌}
use Rattle.plain_check.proofs.{Rules.neutral-exactly, Refusals.refused-exactly, Runs.neutral-alike}
use Rattle.plain_check.proofs.plain.check_plain.Goals as goal

pub returns-clause-neutral_exactly : goal.returns-clause-neutral_exactly
returns-clause-neutral_exactly c = rw c.in_ok-verdict.ensures (neutral-exactly c.args.code.now)

pub returns-clause-refused_exactly : goal.returns-clause-refused_exactly
returns-clause-refused_exactly c = λ place rule. rw c.in_ok-verdict.ensures (refused-exactly c.args.code.now place rule)

pub returns-clause-neutral_alike : goal.returns-clause-neutral_alike
returns-clause-neutral_alike c = λ neutral. neutral-alike c.args.code.now c.requires (sym c.in_ok-verdict.ensures ∙ neutral)
