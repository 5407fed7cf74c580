use Rattle.label_places.proofs.Common.{take, AreByPlace}
use Rattle.label_places.proofs.index.positions_of.Given as goal

abbrev pub invariant-loop-label : goal.invariant-loop-label
invariant-loop-label l = AreByPlace l.places.items (take l.label-index l.labels)
