use Rattle.twin_run.proofs.Runs.{machines_follow}
use Rattle.twin_run.proofs.machines_follow.Goals as goal

pub returns : goal.returns
returns c = machines_follow
