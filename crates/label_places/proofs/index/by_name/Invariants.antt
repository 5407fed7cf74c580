use Rattle.label_places.proofs.Common.{take, AreByName}
use Rattle.label_places.proofs.index.by_name.Given as goal

abbrev pub invariant-loop-label : goal.invariant-loop-label
invariant-loop-label l = AreByName l.index (take l.label-index l.labels)
