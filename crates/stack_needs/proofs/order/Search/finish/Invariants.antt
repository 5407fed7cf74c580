use Rattle.stack_needs.proofs.Common.{IsStack, Sees, functions_of}
use Rattle.stack_needs.proofs.order.Search.finish.Given as goal

abbrev pub invariant-loop : goal.invariant-loop
invariant-loop l = IsStack (Sees l.walks) l.self.marks.items (functions_of l.self.visits.items)
