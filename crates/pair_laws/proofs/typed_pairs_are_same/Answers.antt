use Rattle.pair_laws.proofs.Typed.{own_typed_pairs_are_same, typed_pairs_are_same}
use Rattle.pair_laws.proofs.typed_pairs_are_same.Goals as goal

pub returns-clause-always : goal.returns-clause-always
returns-clause-always c = typed_pairs_are_same

pub returns-clause-own : goal.returns-clause-own
returns-clause-own c = own_typed_pairs_are_same
