use Rattle.twin_run.proofs.Common.{other-place}
use Rattle.twin_run.proofs.RunnerLaws.{stands_at}
use Rattle.twin_run.proofs.runner.Runner.place.Goals as goal

pub returns-else-self-clause-spot : goal.returns-else-self-clause-spot
returns-else-self-clause-spot g c = stands_at g.row.W c.args.self.now _ (other-place _ _ c.if-self.false) c.image_place.ensures
