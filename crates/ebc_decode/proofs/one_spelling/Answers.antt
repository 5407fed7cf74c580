use Rattle.ebc_decode.proofs.Laws.{one_spelling}
use Rattle.ebc_decode.proofs.one_spelling.Goals as goal

pub returns : goal.returns
returns c = one_spelling
