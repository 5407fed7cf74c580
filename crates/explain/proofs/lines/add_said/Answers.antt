use Rattle.explain.proofs.HeadLaws.{begins-some, ok-then}
use Rattle.explain.proofs.lines.add_said.Goals as goal

pub returns-clause-says : goal.returns-clause-says
returns-clause-says c = ok-then c.add_below.result _ _ (λ b. begins-some _ _ b c.in_ok-add_found.ensures.says) c.add_below.ensures
