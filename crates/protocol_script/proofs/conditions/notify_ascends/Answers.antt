use Rattle.protocol_script.proofs.Common.{refl, err_from_is_err_and, Notify, pass-done, notify_ascends, notify_at}
use Rattle.protocol_script.proofs.LimitLaws.{number-on, number-stop}
use Rattle.protocol_script.proofs.conditions.notify_ascends.Goals as goal

pub loop-i-init : goal.loop-i-init
unfolding notify_ascends
loop-i-init c = refl

pub returns-in_err-notify_at : goal.returns-in_err-notify_at
returns-in_err-notify_at c =
    let p = err_from_is_err_and c.from_residual.result c.from_residual.ensures.1 in
    rw (p.1, p.2) (number-stop (notify_at c.args.notifications.now) c.loop-i.i c.args.notifications.now
    (notify_ascends c.args.notifications.now) c.loop-i.invariant c.in_err-notify_at.field-0.0 c.loop-i-test.true
    c.in_err-notify_at.ensures)

pub loop-i-preserved : goal.loop-i-preserved
loop-i-preserved c = number-on (notify_at c.args.notifications.now) c.loop-i.i c.args.notifications.now
    (notify_ascends c.args.notifications.now) c.loop-i.invariant c.loop-i-test.true c.in_ok-notify_at.ensures

pub returns : goal.returns
returns c = pass-done (λ i (n : Notify). notify_at c.args.notifications.now i) c.loop-i.i c.args.notifications.now
    (notify_ascends c.args.notifications.now) c.loop-i-test.false c.loop-i.invariant
