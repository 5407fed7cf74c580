use Rattle.instruction_laws.proofs.Loaded.{instruction_there}
use Rattle.instruction_laws.proofs.instruction_there.Goals as goal

pub returns : goal.returns
returns c = instruction_there
