use Rattle.protocol_script.proofs.Common.{arith, refl, err_from_is_err_and, ScriptObject, pass-done, object_limit, objects_limit}
use Rattle.protocol_script.proofs.LimitLaws.{number-on, number-stop}
use Rattle.protocol_script.proofs.limits.objects_limit.Goals as goal

pub loop-i-init : goal.loop-i-init
unfolding objects_limit
loop-i-init c = record { so_far = refl; load = record { room = refl; objects = refl; within = (omega arith, omega arith) } }

pub returns-in_err-load-clause-limit : goal.returns-in_err-load-clause-limit
returns-in_err-load-clause-limit c =
    let p = err_from_is_err_and c.from_residual.result c.from_residual.ensures.1 in
    rw (p.1, p.2) (number-stop (object_limit c.args.notes.now c.args.objects.now) c.loop-i.i c.args.objects.now
    (objects_limit c.args.notes.now c.args.objects.now) c.loop-i.invariant.so_far c.in_err-load.field-0.0 c.loop-i-test.true
    c.in_err-load.ensures.limit)

pub loop-i-preserved : goal.loop-i-preserved
loop-i-preserved c = record {
  so_far = number-on (object_limit c.args.notes.now c.args.objects.now) c.loop-i.i c.args.objects.now
      (objects_limit c.args.notes.now c.args.objects.now) c.loop-i.invariant.so_far c.loop-i-test.true c.in_ok-load.ensures.limit;
  load = c.in_ok-load.ensures.load;
}

pub returns-clause-limit : goal.returns-clause-limit
returns-clause-limit c =
    pass-done (λ i (o : ScriptObject). object_limit c.args.notes.now c.args.objects.now i) c.loop-i.i c.args.objects.now
    (objects_limit c.args.notes.now c.args.objects.now) c.loop-i-test.false c.loop-i.invariant.so_far
