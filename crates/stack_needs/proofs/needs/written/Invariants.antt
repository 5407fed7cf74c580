use Rattle.stack_needs.proofs.Common.{◌≡◌, length}
use Rattle.stack_needs.proofs.needs.written.Given as goal

abbrev pub invariant-loop-f : goal.invariant-loop-f
invariant-loop-f l = length l.found.items ≡ l.f-index
