use Rattle.stack_needs.specs.Walks.{IsCourse}
use Rattle.stack_needs.proofs.walk.walk.Given as goal

abbrev pub invariant-loop : goal.invariant-loop
invariant-loop l = IsCourse l.image l.notes l.f l.course
