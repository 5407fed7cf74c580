use Rattle.note_infer.proofs.{SettledStates.first_again, SettledStates.states_again, SettledStates.states_settled, SettledTypes.types_again}
use Rattle.note_infer.proofs.SettledTypes.{types_settled}
use Rattle.note_infer.proofs.settled_joins.joins_settle.Goals as goal

pub returns-clause-types_again : goal.returns-clause-types_again
returns-clause-types_again c = types_again

pub returns-clause-types_settle : goal.returns-clause-types_settle
returns-clause-types_settle c = types_settled

pub returns-clause-states_again : goal.returns-clause-states_again
returns-clause-states_again c = states_again

pub returns-clause-states_settle : goal.returns-clause-states_settle
returns-clause-states_settle c = states_settled

pub returns-clause-first_again : goal.returns-clause-first_again
returns-clause-first_again c = first_again
