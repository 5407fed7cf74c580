use Rattle.image_lint.specs.Answers.{typed}
use Rattle.image_lint.proofs.answer.warned_reply.Goals as goal

pub returns-clause-reply : goal.returns-clause-reply
returns-clause-reply c =
    typed c.requires.typed c.in_ok-warnings.warnings c.in_ok-warnings.ensures
    (cc (c.printed.ensures, c.in_ok-text.ensures, c.as_slice.ensures))
