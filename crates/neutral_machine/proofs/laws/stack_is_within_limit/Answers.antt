use Rattle.neutral_machine.proofs.Ranges.{stack_is_within_limit}
use Rattle.neutral_machine.proofs.laws.stack_is_within_limit.Goals as goal

pub returns : goal.returns
returns c = stack_is_within_limit
