use Rattle.label_places.proofs.EndLaws.{NoneBefore}
use Rattle.label_places.proofs.ends.first_in.Given as goal

abbrev pub invariant-loop-other : goal.invariant-loop-other
invariant-loop-other l = NoneBefore l.position.object l.position.section l.place l.bound l.positions l.other-index
