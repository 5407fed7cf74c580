use Rattle.protocol_script.proofs.Common.{codes, err_from_is_err_and, row_prefix, each_of, with_front-none, each-on, each-stop, each-done}
use Rattle.protocol_script.proofs.Common.{resolved_call, resolved_calls}
use Rattle.protocol_script.proofs.resolve.resolve_calls.Goals as goal

pub loop-i-init : goal.loop-i-init
unfolding resolved_calls
loop-i-init c = rw c.new-values.ensures.items (with_front-none (each_of
    (λ i o. resolved_call c.args.notes.now c.args.shapes.now (row_prefix (codes "call") i) o) 0 c.args.calls.now))

pub returns-in_err-resolve_item_call : goal.returns-in_err-resolve_item_call
returns-in_err-resolve_item_call c =
    let p = err_from_is_err_and c.from_residual.result c.from_residual.ensures.1 in
    rw (p.1, p.2) (each-stop (λ i o. resolved_call c.args.notes.now c.args.shapes.now
    (row_prefix (codes "call") i) o) c.loop-i.values.items c.loop-i.i c.args.calls.now
    (resolved_calls c.args.notes.now c.args.shapes.now c.args.calls.now) c.in_err-resolve_item_call.field-0.0 c.index-calls-i.result
    c.loop-i-test.true c.index-calls-i.is c.in_err-resolve_item_call.ensures c.loop-i.invariant)

pub loop-i-preserved : goal.loop-i-preserved
loop-i-preserved c = rw c.in_ok-push.ensures.items (each-on (λ i o. resolved_call c.args.notes.now c.args.shapes.now
    (row_prefix (codes "call") i) o) c.loop-i.values.items c.loop-i.i c.args.calls.now
    (resolved_calls c.args.notes.now c.args.shapes.now c.args.calls.now) c.index-calls-i.result c.in_ok-resolve_item_call.field-0
    c.loop-i-test.true c.index-calls-i.is c.in_ok-resolve_item_call.ensures c.loop-i.invariant)

pub returns : goal.returns
returns c = rw c.new.ensures (each-done (λ i o. resolved_call c.args.notes.now c.args.shapes.now
    (row_prefix (codes "call") i) o) c.loop-i.values.items c.loop-i.i c.args.calls.now
    (resolved_calls c.args.notes.now c.args.shapes.now c.args.calls.now) c.loop-i-test.false c.loop-i.invariant)
