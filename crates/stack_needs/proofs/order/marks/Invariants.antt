use Rattle.stack_needs.proofs.Common.{◌≡◌, ℕ, Some, slice_get, Open}
use Rattle.stack_needs.proofs.order.marks.Given as goal

abbrev pub invariant-loop-function : goal.invariant-loop-function
invariant-loop-function l = (k : ℕ) → slice_get l.marks.items k ≡ Some Open → ⊥
