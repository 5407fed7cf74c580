use Rattle.option_rom.proofs.Takings.{taken_inside}
use Rattle.option_rom.proofs.laws.taken_is_inside.Goals as goal

pub returns : goal.returns
returns c = taken_inside
