use Rattle.typing_laws.proofs.StatesBelow.{state_fits_below}
use Rattle.typing_laws.proofs.states_fit_below.Goals as goal

pub returns : goal.returns
returns c = state_fits_below
