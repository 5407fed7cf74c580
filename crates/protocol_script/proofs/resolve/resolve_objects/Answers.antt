use Rattle.protocol_script.proofs.Common.{err_from_is_err_and, row_prefix, each_of, with_front-none, each-on, each-stop, each-done}
use Rattle.protocol_script.proofs.Common.{resolved_object, resolved_objects}
use Rattle.protocol_script.proofs.resolve.resolve_objects.Goals as goal

pub loop-i-init : goal.loop-i-init
unfolding resolved_objects
loop-i-init c = rw c.new-values.ensures.items (with_front-none (each_of
    (λ i o. resolved_object c.args.notes.now (row_prefix c.args.path.now i) o) 0 c.args.objects.now))

pub returns-in_err-resolve_item : goal.returns-in_err-resolve_item
returns-in_err-resolve_item c =
    let p = err_from_is_err_and c.from_residual.result c.from_residual.ensures.1 in
    rw (p.1, p.2) (each-stop (λ i o. resolved_object c.args.notes.now
    (row_prefix c.args.path.now i) o) c.loop-i.values.items c.loop-i.i c.args.objects.now
    (resolved_objects c.args.notes.now c.args.path.now c.args.objects.now) c.in_err-resolve_item.field-0.0 c.index-objects-i.result
    c.loop-i-test.true c.index-objects-i.is c.in_err-resolve_item.ensures c.loop-i.invariant)

pub loop-i-preserved : goal.loop-i-preserved
loop-i-preserved c = rw c.in_ok-push.ensures.items (each-on (λ i o. resolved_object c.args.notes.now
    (row_prefix c.args.path.now i) o) c.loop-i.values.items c.loop-i.i c.args.objects.now
    (resolved_objects c.args.notes.now c.args.path.now c.args.objects.now) c.index-objects-i.result c.in_ok-resolve_item.field-0
    c.loop-i-test.true c.index-objects-i.is c.in_ok-resolve_item.ensures c.loop-i.invariant)

pub returns : goal.returns
returns c = rw c.new.ensures (each-done (λ i o. resolved_object c.args.notes.now
    (row_prefix c.args.path.now i) o) c.loop-i.values.items c.loop-i.i c.args.objects.now
    (resolved_objects c.args.notes.now c.args.path.now c.args.objects.now) c.loop-i-test.false c.loop-i.invariant)
