use Rattle.protocol_script.proofs.Common.{arith, refl, subst, sym, List, err_from_is_err_and, ScriptCall, ScriptObject, pass-done, IsLoad}
use Rattle.protocol_script.proofs.Common.{call_limit, calls_limit}
use Rattle.protocol_script.proofs.{LimitLaws.number-on, LimitLaws.number-stop, ObjectLaws.placed-start}
use Rattle.protocol_script.proofs.limits.calls_limit.Goals as goal

pub loop-i-init : goal.loop-i-init
unfolding calls_limit
loop-i-init c = record {
  so_far = refl;
  tally = record {
    load = subst (λ (z : List ScriptObject). IsLoad c.args.notes.now z c.args.load) (sym (placed-start c.args.script.now)) c.requires;
    callbacks = refl;
    within = omega arith;
  };
}

pub returns-in_err-tally : goal.returns-in_err-tally
returns-in_err-tally c =
    let p = err_from_is_err_and c.from_residual.result c.from_residual.ensures.1 in
    rw (p.1, p.2) (number-stop (call_limit c.args.notes.now c.args.script.now) c.loop-i.i c.args.script.now.call
    (calls_limit c.args.notes.now c.args.script.now) c.loop-i.invariant.so_far c.in_err-tally.field-0.0
    (omega (arith, c.loop-i-test.true, c.len-i-end.ensures)) c.in_err-tally.ensures.limit)

pub loop-i-preserved : goal.loop-i-preserved
loop-i-preserved c = record {
  so_far = number-on (call_limit c.args.notes.now c.args.script.now) c.loop-i.i c.args.script.now.call
      (calls_limit c.args.notes.now c.args.script.now) c.loop-i.invariant.so_far
      (omega (arith, c.loop-i-test.true, c.len-i-end.ensures)) c.in_ok-tally.ensures.limit;
  tally = c.in_ok-tally.ensures.tally;
}

pub returns : goal.returns
returns c = pass-done (λ i (x : ScriptCall). call_limit c.args.notes.now c.args.script.now i) c.loop-i.i c.args.script.now.call
    (calls_limit c.args.notes.now c.args.script.now) (omega (arith, c.loop-i-test.false, c.len-i-end.ensures)) c.loop-i.invariant.so_far
