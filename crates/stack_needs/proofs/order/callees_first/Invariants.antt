use Rattle.stack_needs.proofs.Common.{IsStack, Sees, functions_of}
use Rattle.stack_needs.proofs.order.callees_first.Given as goal

abbrev pub invariant-loop-function : goal.invariant-loop-function
invariant-loop-function l = IsStack (Sees l.walks) l.search.marks.items (functions_of l.search.visits.items)
