use Rattle.instruction_laws.proofs.Growth.{room_after}
use Rattle.instruction_laws.proofs.room_after.Goals as goal

pub returns : goal.returns
returns c = room_after
