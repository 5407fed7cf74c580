use Rattle.protocol_script.proofs.PrintedLaws.{printed_arguments, printed_values}
use Rattle.protocol_script.proofs.laws.printed_texts_are_read.Goals as goal

pub returns-clause-values : goal.returns-clause-values
returns-clause-values c = printed_values

pub returns-clause-arguments : goal.returns-clause-arguments
returns-clause-arguments c = printed_arguments
