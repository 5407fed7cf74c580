use Rattle.neutral_machine.proofs.CellTakes.{cells_take_what_fits}
use Rattle.neutral_machine.proofs.laws.cells_take_what_fits.Goals as goal

pub returns : goal.returns
returns c = cells_take_what_fits
