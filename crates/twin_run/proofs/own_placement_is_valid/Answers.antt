use Rattle.twin_run.proofs.OwnPlacement.{own_placement_is_valid}
use Rattle.twin_run.proofs.own_placement_is_valid.Goals as goal

pub returns : goal.returns
returns c = own_placement_is_valid
