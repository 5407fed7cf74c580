use Rattle.neutral_machine.proofs.Turns.{turn_is_seen, seen_is_turn}
use Rattle.neutral_machine.proofs.laws.turn_is_seen.Goals as goal

pub returns-clause-at_width : goal.returns-clause-at_width
returns-clause-at_width c = turn_is_seen

pub returns-clause-neutral : goal.returns-clause-neutral
returns-clause-neutral c = seen_is_turn
