use Rattle.ebc_decode.proofs.Zeros.{reserved_is_exact}
use Rattle.ebc_decode.proofs.reserved_is_exact.Goals as goal

pub returns : goal.returns
returns c = reserved_is_exact
