use Rattle.neutral_machine.proofs.Ranges.{ranges_lie_as_memory}
use Rattle.neutral_machine.proofs.laws.ranges_lie_as_memory.Goals as goal

pub returns : goal.returns
returns c = ranges_lie_as_memory
