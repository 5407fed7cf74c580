use Rattle.natural_index.proofs.Laws.{one_index, reads_spelled, spells_read}
use Rattle.natural_index.proofs.spelling_laws.Goals as goal

pub returns-clause-one_index : goal.returns-clause-one_index
returns-clause-one_index c = one_index

pub returns-clause-reads_spelled : goal.returns-clause-reads_spelled
returns-clause-reads_spelled c = reads_spelled

pub returns-clause-spells_read : goal.returns-clause-spells_read
returns-clause-spells_read c = spells_read
