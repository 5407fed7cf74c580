use Rattle.stack_needs.proofs.Common.{◌≡◌, ℕ, length, CallsFunction, Sees}
use Rattle.stack_needs.proofs.needs.walk_all.Given as goal

abbrev pub invariant-loop-f : goal.invariant-loop-f
invariant-loop-f l = record {
  count : length l.walks.items ≡ l.f-index;
  calls : (k j : ℕ) → Sees l.walks.items k j → CallsFunction l.image l.notes k j;
}
