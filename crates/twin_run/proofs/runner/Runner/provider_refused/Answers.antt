use Rattle.twin_run.proofs.BoundLaws.{made_there}
use Rattle.twin_run.proofs.runner.Runner.provider_refused.Goals as goal

pub returns : goal.returns
returns g c = λ world r notes at.
    c.provider_refused.ensures.refused world r.script notes at.tells.thunks (made_there g.row.W world c.args.self.now r at)
