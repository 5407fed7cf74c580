use Rattle.protocol_script.proofs.ReadLaws.{read_arguments, read_values}
use Rattle.protocol_script.proofs.laws.read_notes_print_and_read.Goals as goal

pub returns-clause-values : goal.returns-clause-values
returns-clause-values c = read_values

pub returns-clause-arguments : goal.returns-clause-arguments
returns-clause-arguments c = read_arguments
