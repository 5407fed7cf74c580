use Rattle.label_places.proofs.Common.{◌≡◌, map, take, laid_with, span_of}
use Rattle.label_places.proofs.collecting.spans_of.Given as goal

abbrev pub invariant-loop-number : goal.invariant-loop-number
invariant-loop-number l = l.spans.items ≡ map span_of (take l.number (laid_with l.objects l.homes))
