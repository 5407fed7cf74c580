use Rattle.stack_needs.proofs.Common.{◌≡◌, List, Some, ap, length, refl, slice_get, subst, sym, ◌∙◌, ltb-true, slice_get_read, Sees}
use Rattle.stack_needs.proofs.Common.{functions_of, Mark, Open}
use Rattle.stack_needs.proofs.StackLaws.{stack-back}
use Rattle.stack_needs.proofs.order.Search.enter.Goals as goal

pub returns-in-Some-Open-clause-ends : goal.returns-in-Some-Open-clause-ends
returns-in-Some-Open-clause-ends c =
    let marks = c.deref.result.now in
    let k = c.args.function in
    let mark = c.in-Some-Open.field-0.now in
    let there = slice_get_read marks (length marks) k mark refl (ltb-true k (length marks) (sym c.in-Some-Open.ensures.lookup.0))
    c.in-Some-Open.ensures.lookup.1 in
    stack-back (Sees c.args.walks.now) c.args.self.now.marks.items (functions_of c.args.self.now.visits.items) k c.requires.stack
    c.requires.called (subst (λ (xs : List Mark). slice_get xs k ≡ Some Open) c.deref.ensures.value
    (there ∙ ap (λ m. Some m) c.in-Some-Open.field-0-is))
