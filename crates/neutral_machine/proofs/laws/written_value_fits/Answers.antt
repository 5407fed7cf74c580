use Rattle.neutral_machine.proofs.WrittenFits.{written_fits}
use Rattle.neutral_machine.proofs.laws.written_value_fits.Goals as goal

pub returns : goal.returns
returns c = written_fits
