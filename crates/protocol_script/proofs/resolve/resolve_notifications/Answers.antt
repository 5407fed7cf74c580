use Rattle.protocol_script.proofs.Common.{codes, err_from_is_err_and, row_prefix, each_of, with_front-none, each-on, each-stop, each-done}
use Rattle.protocol_script.proofs.Common.{resolved_notifications, resolved_notify}
use Rattle.protocol_script.proofs.resolve.resolve_notifications.Goals as goal

pub loop-i-init : goal.loop-i-init
unfolding resolved_notifications
loop-i-init c = rw c.new-values.ensures.items (with_front-none (each_of
    (λ i o. resolved_notify c.args.notes.now (row_prefix (codes "notify") i) o) 0 c.args.notifications.now))

pub returns-in_err-resolve_item_notify : goal.returns-in_err-resolve_item_notify
returns-in_err-resolve_item_notify c =
    let p = err_from_is_err_and c.from_residual.result c.from_residual.ensures.1 in
    rw (p.1, p.2) (each-stop (λ i o. resolved_notify c.args.notes.now (row_prefix (codes "notify") i) o)
    c.loop-i.values.items c.loop-i.i c.args.notifications.now (resolved_notifications c.args.notes.now c.args.notifications.now)
    c.in_err-resolve_item_notify.field-0.0 c.index-notifications-i.result c.loop-i-test.true c.index-notifications-i.is
    c.in_err-resolve_item_notify.ensures c.loop-i.invariant)

pub loop-i-preserved : goal.loop-i-preserved
loop-i-preserved c = rw c.in_ok-push.ensures.items (each-on (λ i o. resolved_notify c.args.notes.now (row_prefix (codes "notify") i) o)
    c.loop-i.values.items c.loop-i.i c.args.notifications.now (resolved_notifications c.args.notes.now c.args.notifications.now)
    c.index-notifications-i.result c.in_ok-resolve_item_notify.field-0 c.loop-i-test.true c.index-notifications-i.is
    c.in_ok-resolve_item_notify.ensures c.loop-i.invariant)

pub returns : goal.returns
returns c = rw c.new.ensures (each-done (λ i o. resolved_notify c.args.notes.now (row_prefix (codes "notify") i) o)
    c.loop-i.values.items c.loop-i.i c.args.notifications.now (resolved_notifications c.args.notes.now c.args.notifications.now)
    c.loop-i-test.false c.loop-i.invariant)
