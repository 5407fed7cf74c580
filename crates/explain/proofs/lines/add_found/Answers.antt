use Rattle.explain.proofs.HeadLaws.{ended-some, ok-then}
use Rattle.std.proofs.Common.{◌≢◌, []}
use Rattle.explain.proofs.lines.add_found.Goals as goal

pub returns-clause-says : goal.returns-clause-says
returns-clause-says c = ok-then c.end.result _ _ (λ e. rw e (ended-some _)) c.end.ensures
