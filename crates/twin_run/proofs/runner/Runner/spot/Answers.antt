use Rattle.twin_run.proofs.Common.{eq-eqb, other-place}
use Rattle.twin_run.proofs.RunnerLaws.{spot_away, spot_gate}
use Rattle.twin_run.proofs.runner.Runner.spot.Goals as goal

pub returns-then-self : goal.returns-then-self
returns-then-self g c = λ world r is. spot_gate g.row.W world c.args.self.now r is.at (eq-eqb _ _ c.if-self.true)

pub returns-in-Some : goal.returns-in-Some
returns-in-Some g c = λ world r is. spot_away g.row.W world c.args.self.now r _ is.at (other-place _ _ c.if-self.false) c.in-Some.ensures

pub returns-in-None : goal.returns-in-None
returns-in-None g c = λ world r is. spot_away g.row.W world c.args.self.now r _ is.at (other-place _ _ c.if-self.false) c.in-None.ensures
