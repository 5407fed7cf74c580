use Rattle.invariant_laws.proofs.LaterFits.{fields_later, fits_later}
use Rattle.invariant_laws.proofs.values_fit_later.Goals as goal

pub returns : goal.returns
returns c notes d U V saved t v l h = fits_later notes d U V (fields_later notes d U V l) saved t v h
