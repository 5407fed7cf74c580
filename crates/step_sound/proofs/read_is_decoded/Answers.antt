use Rattle.step_sound.proofs.Decoded.{read_is_decoded}
use Rattle.step_sound.proofs.read_is_decoded.Goals as goal

pub returns : goal.returns
returns c = read_is_decoded
