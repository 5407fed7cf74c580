use Rattle.protocol_script.proofs.Common.{◌≡◌, ap, arith, length, refl, subst, sym, Ok, ℕ, err_from_is_err_and, Fails, made_objects}
use Rattle.protocol_script.proofs.Common.{pass-on, pass-stop, pass-done, call_passes, calls_pass}
use Rattle.protocol_script.proofs.ObjectLaws.{call-count, call-fits, count-start, count-within}
use Rattle.protocol_script.proofs.tables.calls_pass.Goals as goal

pub overflow_add-first : goal.overflow_add-first
overflow_add-first c =
    let n = ap length c.requires.made in
    let w = count-within c.args.trial.notes.now c.args.script.now 0 in
    let s = count-start c.args.trial.notes.now c.args.script.now in
    omega (arith, n, w, s, c.len.ensures, c.len-2.ensures, c.requires.few)

pub loop-i-init : goal.loop-i-init
unfolding calls_pass
loop-i-init c = record {
  so_far = rw c.as_slice-calls.ensures refl;
  count = rw (c.len.ensures, c.len-2.ensures) (sym (count-start c.args.trial.notes.now c.args.script.now));
}

pub call_passes-requires : goal.call_passes-requires
call_passes-requires c =
    let fits =
    call-fits c.args.trial.notes.now c.args.script.now c.as_slice-calls.result.now c.as_slice-calls.ensures c.loop-i.i
    c.index-calls-i.result c.loop-i-test.true c.index-calls-i.is c.args.trial.made.now c.requires.made in
    omega (arith, fits, c.loop-i.invariant.count)

pub returns-in_err-call_passes : goal.returns-in_err-call_passes
returns-in_err-call_passes c =
    let p = err_from_is_err_and c.from_residual.result c.from_residual.ensures.1 in
    let t = c.args.trial in
    let s = c.args.script.now in
    let e = c.in_err-call_passes.field-0.0 in
    let failed =
    subst (λ (z : ℕ). Fails e
    (call_passes t.condition t.notes.now t.made.now z c.loop-i.i c.index-calls-i.result)) c.loop-i.invariant.count
    c.in_err-call_passes.ensures in
    rw (p.1, p.2) (pass-stop (λ i x. call_passes t.condition t.notes.now t.made.now
    (length (made_objects t.notes.now s i)) i x) c.loop-i.i c.as_slice-calls.result.now
    (calls_pass t.condition t.notes.now s t.made.now) e c.index-calls-i.result c.loop-i-test.true c.index-calls-i.is failed
    c.loop-i.invariant.so_far)

pub loop-i-preserved : goal.loop-i-preserved
loop-i-preserved c =
    let t = c.args.trial in
    let s = c.args.script.now in
    let passed =
    subst (λ (z : ℕ). call_passes t.condition t.notes.now t.made.now z c.loop-i.i c.index-calls-i.result ≡ Ok tt)
    c.loop-i.invariant.count c.in_ok-call_passes.ensures in
    let more =
    call-count t.notes.now s c.as_slice-calls.result.now c.as_slice-calls.ensures c.loop-i.i c.index-calls-i.result c.loop-i-test.true
    c.index-calls-i.is in
    record {
      so_far = pass-on (λ i x. call_passes t.condition t.notes.now t.made.now
          (length (made_objects t.notes.now s i)) i x) c.loop-i.i c.as_slice-calls.result.now
          (calls_pass t.condition t.notes.now s t.made.now) c.index-calls-i.result c.loop-i-test.true c.index-calls-i.is passed
          c.loop-i.invariant.so_far;
      count = omega (arith, more, c.loop-i.invariant.count, c.len-in-loop-i.ensures);
    }

pub returns : goal.returns
returns c =
    let t = c.args.trial in
    let s = c.args.script.now in
    pass-done (λ i x. call_passes t.condition t.notes.now t.made.now
    (length (made_objects t.notes.now s i)) i x) c.loop-i.i c.as_slice-calls.result.now
    (calls_pass t.condition t.notes.now s t.made.now) c.loop-i-test.false c.loop-i.invariant.so_far

pub overflow_add-first-in-loop-i : goal.overflow_add-first-in-loop-i
overflow_add-first-in-loop-i c =
    let fits =
    call-fits c.args.trial.notes.now c.args.script.now c.as_slice-calls.result.now c.as_slice-calls.ensures c.loop-i.i
    c.index-calls-i.result c.loop-i-test.true c.index-calls-i.is c.args.trial.made.now c.requires.made in
    omega (arith, fits, c.loop-i.invariant.count, c.len-in-loop-i.ensures, c.requires.few)
