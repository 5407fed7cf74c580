use Rattle.label_places.proofs.Common.{◌≡◌, ◌++◌, drop, laid_with, labels_from}
use Rattle.label_places.proofs.collecting.collected.Given as goal

abbrev pub invariant-loop-number : goal.invariant-loop-number
invariant-loop-number l =
    l.labels.items ++ labels_from l.number (drop l.number (laid_with l.objects l.homes)) ≡ labels_from 0 (laid_with l.objects l.homes)
