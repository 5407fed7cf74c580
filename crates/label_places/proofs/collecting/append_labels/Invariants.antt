use Rattle.label_places.proofs.Common.{◌≡◌, ◌++◌, take, labels_in}
use Rattle.label_places.proofs.collecting.append_labels.Given as goal

abbrev pub invariant-loop-symbol : goal.invariant-loop-symbol
invariant-loop-symbol l = l.labels.items ≡ l.fn.labels.items ++ labels_in l.number l.home (take l.symbol-index l.symbols)
