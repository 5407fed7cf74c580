use Rattle.instruction_laws.proofs.Simulation.{one_instruction}
use Rattle.instruction_laws.proofs.one_instruction.Goals as goal

pub returns : goal.returns
returns c = one_instruction
