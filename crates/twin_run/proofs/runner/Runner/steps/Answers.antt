use Rattle.twin_run.proofs.Common.{steps_on}
use Rattle.twin_run.proofs.SteppingOn.{recounted}
use Rattle.twin_run.proofs.runner.Runner.steps.Goals as goal

pub returns-clause-steps : goal.returns-clause-steps
returns-clause-steps g c = record {
  steps = λ world r notes script is.
      recounted g.row.W world c.go_on-steps.new.self (steps_on g.row.W world c.go_on-steps.result r) _
      (c.go_on-steps.ensures.steps world r notes script is);
  goes_on = c.go_on-steps.ensures.goes_on;
  counted = c.saturating_add-self.ensures;
}
