use Rattle.instruction_laws.proofs.Worlds.{world_meets}
use Rattle.instruction_laws.proofs.world_meets.Goals as goal

pub returns : goal.returns
returns c = world_meets
