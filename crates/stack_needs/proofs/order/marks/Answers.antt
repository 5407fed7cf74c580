use Rattle.stack_needs.proofs.Common.{◌≡◌, ℕ, Some, slice_get, List, subst, sym, Mark, Open}
use Rattle.stack_needs.proofs.StackLaws.{none-pushed}
use Rattle.stack_needs.proofs.order.marks.Goals as goal

pub loop-function-preserved : goal.loop-function-preserved
loop-function-preserved c =
    subst (λ (xs : List Mark). (k : ℕ) → slice_get xs k ≡ Some Open → ⊥) (sym c.in_ok-push.ensures.items)
    (none-pushed c.loop-function.marks.items c.first_mark.result c.loop-function.invariant c.first_mark.ensures)
