use Rattle.script_draft.proofs.Common.{refl, err_from_is_err_and, all_pass, call_once}
use Rattle.script_draft.proofs.ListLaws.{pass-on, pass-stop, pass-done}
use Rattle.script_draft.proofs.once.calls_once.Goals as goal

pub loop-i-init : goal.loop-i-init
loop-i-init c = refl

pub returns-in_err-call_once : goal.returns-in_err-call_once
returns-in_err-call_once c =
    let p = err_from_is_err_and c.from_residual.result c.from_residual.ensures.1 in
    rw (p.1, p.2) (pass-stop call_once c.loop-i.i c.args.calls.now
    (all_pass call_once 0 c.args.calls.now) c.in_err-call_once.field-0.0 c.index-calls-i.result c.loop-i-test.true c.index-calls-i.is
    c.in_err-call_once.ensures c.loop-i.invariant)

pub loop-i-preserved : goal.loop-i-preserved
loop-i-preserved c = pass-on call_once c.loop-i.i c.args.calls.now
    (all_pass call_once 0 c.args.calls.now) c.index-calls-i.result c.loop-i-test.true c.index-calls-i.is c.in_ok-call_once.ensures
    c.loop-i.invariant

pub returns : goal.returns
returns c = pass-done call_once c.loop-i.i c.args.calls.now (all_pass call_once 0 c.args.calls.now) c.loop-i-test.false c.loop-i.invariant
