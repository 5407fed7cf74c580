use Rattle.twin_run.proofs.Runs.{typed_runs_as_one, typed_runs_are_same, own_typed_runs_are_same, typed_never_differ}
use Rattle.twin_run.proofs.typed_runs_are_same.Goals as goal

pub returns-clause-as_one : goal.returns-clause-as_one
returns-clause-as_one c = typed_runs_as_one

pub returns-clause-placed : goal.returns-clause-placed
returns-clause-placed c = typed_runs_are_same

pub returns-clause-own : goal.returns-clause-own
returns-clause-own c = own_typed_runs_are_same

pub returns-clause-never : goal.returns-clause-never
returns-clause-never c = typed_never_differ
