use Rattle.twin_run.proofs.DriverSteps.{typed_premises_are_met}
use Rattle.twin_run.proofs.typed_premises_are_met.Goals as goal

pub returns : goal.returns
returns c = typed_premises_are_met
