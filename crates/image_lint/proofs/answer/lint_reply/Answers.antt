use Rattle.image_lint.specs.Answers.{refused}
use Rattle.image_lint.proofs.answer.lint_reply.Goals as goal

pub returns-in_ok-line-in-Refused-clause-reply : goal.returns-in_ok-line-in-Refused-clause-reply
returns-in_ok-line-in-Refused-clause-reply c =
    refused c.in-Refused.place c.in-Refused.rule ((c.in_ok-check.ensures.refused c.in-Refused.place c.in-Refused.rule).0 c.in-Refused.is)
    (cc (c.printed.ensures, c.in_ok-line-in-Refused.ensures))
