use Rattle.stack_needs.proofs.Common.{ℕ, List, subst, sym, err_from_is_err_and, CallsFunction, Sees, Walked}
use Rattle.stack_needs.proofs.WayLaws.{cause-search}
use Rattle.stack_needs.proofs.needs.find_needs.Goals as goal

pub returns-in_err-order-clause-cause : goal.returns-in_err-order-clause-cause
returns-in_err-order-clause-cause c =
    let p = err_from_is_err_and c.from_residual-in_err-order.result c.from_residual-in_err-order.ensures.1 in
    let image = c.args.image.now in
    let notes = c.args.notes.now in
    rw (p.1, p.2) (cause-search image notes c.as_slice-2.result.now _
    (subst (λ (ws : List Walked). (k j : ℕ) → Sees ws k j → CallsFunction image notes k j) (sym c.as_slice-2.ensures.value)
    c.in_ok-walks.ensures.calls)
    c.in_err-order.ensures)

pub returns-in_err-order-2-clause-cause : goal.returns-in_err-order-2-clause-cause
returns-in_err-order-2-clause-cause c =
    let p = err_from_is_err_and c.from_residual-in_err-order-2.result c.from_residual-in_err-order-2.ensures.1 in
    let image = c.args.image.now in
    let notes = c.args.notes.now in
    rw (p.1, p.2) (cause-search image notes c.as_slice-6.result.now _
    (subst (λ (ws : List Walked). (k j : ℕ) → Sees ws k j → CallsFunction image notes k j) (sym c.as_slice-6.ensures.value)
    c.in_ok-walks.ensures.calls)
    c.in_err-order-2.ensures)
