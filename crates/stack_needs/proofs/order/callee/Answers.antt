use Rattle.stack_needs.proofs.Common.{◌≡◌, List, Some, length, refl, slice_get, subst, sym, ltb-true, slice_get_read}
use Rattle.stack_needs.specs.declared.walk.Called.{Called}
use Rattle.stack_needs.proofs.order.callee.Goals as goal

pub returns : goal.returns
returns c =
    let walks = c.args.walks.now in
    let k = c.args.visit.function in
    let w = c.in_ok-walked.walked.now in
    let n = c.args.visit.calls in
    let call = c.in_ok-call.call.now in
    let first = slice_get_read walks (length walks) k w refl (ltb-true k (length walks) (sym c.in_ok-walked.ensures.lookup.0))
    c.in_ok-walked.ensures.lookup.1 in
    let seen = c.deref.result.now in
    let then = slice_get_read seen (length seen) n call refl (ltb-true n (length seen) (sym c.in_ok-call.ensures.lookup.0))
    c.in_ok-call.ensures.lookup.1 in
    (w, (first, (n, (call, (subst (λ (xs : List Called). slice_get xs n ≡ Some call) c.deref.ensures.value then, refl)))))
