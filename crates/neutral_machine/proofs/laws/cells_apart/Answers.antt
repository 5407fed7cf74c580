use Rattle.neutral_machine.proofs.CellPairs.{cells_apart}
use Rattle.neutral_machine.proofs.laws.cells_apart.Goals as goal

pub returns : goal.returns
returns c = cells_apart
