use Rattle.pe_image.proofs.Padded.{padded-same}
use Rattle.option_rom.proofs.laws.zeros_change_nothing.Goals as goal

pub returns : goal.returns
returns c = padded-same
