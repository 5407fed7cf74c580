use Rattle.twin_run.proofs.TextRuns.{cells_tell_more}
use Rattle.twin_run.proofs.cells_tell_more.Goals as goal

pub returns : goal.returns
returns c = cells_tell_more
