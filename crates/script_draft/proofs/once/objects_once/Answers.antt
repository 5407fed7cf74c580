use Rattle.script_draft.proofs.Common.{refl, err_from_is_err_and, object_once, objects_once}
use Rattle.script_draft.proofs.ListLaws.{pass-on, pass-stop, pass-done}
use Rattle.script_draft.proofs.once.objects_once.Goals as goal

pub loop-i-init : goal.loop-i-init
unfolding objects_once
loop-i-init c = refl

pub returns-in_err-object_once : goal.returns-in_err-object_once
returns-in_err-object_once c =
    let p = err_from_is_err_and c.from_residual.result c.from_residual.ensures.1 in
    rw (p.1, p.2) (pass-stop (object_once c.args.path.now) c.loop-i.i c.args.objects.now
    (objects_once c.args.path.now c.args.objects.now) c.in_err-object_once.field-0.0 c.index-objects-i.result c.loop-i-test.true
    c.index-objects-i.is c.in_err-object_once.ensures c.loop-i.invariant)

pub loop-i-preserved : goal.loop-i-preserved
loop-i-preserved c = pass-on (object_once c.args.path.now) c.loop-i.i c.args.objects.now
    (objects_once c.args.path.now c.args.objects.now) c.index-objects-i.result c.loop-i-test.true c.index-objects-i.is
    c.in_ok-object_once.ensures c.loop-i.invariant

pub returns : goal.returns
returns c = pass-done (object_once c.args.path.now) c.loop-i.i c.args.objects.now
    (objects_once c.args.path.now c.args.objects.now) c.loop-i-test.false c.loop-i.invariant
