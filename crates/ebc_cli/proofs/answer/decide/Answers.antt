use Rattle.ebc_cli.proofs.Common.{◌∙◌}
use Rattle.ebc_cli.proofs.WorkAnswers.{work-answers}
use Rattle.ebc_cli.proofs.answer.decide.Goals as goal

pub returns-in-Ok-reply-clause-reply : goal.returns-in-Ok-reply-clause-reply
returns-in-Ok-reply-clause-reply g c = work-answers _ _ _ _ _ c.in-Ok-reply.ensures.answer c.in-Ok.ensures.command
    (c.in-Ok-reply.ensures.output ∙ c.in-Ok.ensures.output)
