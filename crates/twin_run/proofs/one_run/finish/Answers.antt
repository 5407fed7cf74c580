use Rattle.twin_run.proofs.Common.{◌≢◌, ◌≡◌, ◌⊎◌, sym, subst, ◌∙◌, inl, inr, arith, false≢true, Running, IsOnItsWay, own_run}
use Rattle.twin_run.proofs.{OnItsWay.goes-on_for, OnItsWay.reports, SteppingOn.runs_still}
use Rattle.twin_run.proofs.one_run.finish.Goals.{then-loop-runner-test+else-goes_on, else-loop-runner-test}
use Rattle.twin_run.proofs.one_run.finish.Goals as goal

pub loop-runner-init : goal.loop-runner-init
loop-runner-init g c = record {
  runs = c.requires.runs;
  on = λ image world n t s h. subst (λ k. IsOnItsWay g.row.W image world c.args.limit k c.args.runner) (sym h.taken) h;
}

pub loop-runner-preserved : goal.loop-runner-preserved
loop-runner-preserved g c = record {
  runs = runs_still g.row.W c.args.notes.now c.args.script.now c.loop-runner.runner c.steps.new.self c.steps.result
      c.loop-runner.invariant.runs c.steps.ensures.steps.steps;
  on = λ image world n t s h.
      let on = c.loop-runner.invariant.on image world n t s h in
      let less = c.loop-runner-test.true in
      let most = c.steps.ensures.most in
      let next = goes-on_for g.row.W image world c.args.limit c.loop-runner.runner.taken c.steps.result c.loop-runner.runner
      c.steps.new.self on (omega (arith, less, most)) (omega arith) c.steps.ensures.steps.counted
      (c.steps.ensures.steps.goes_on world _ t s on.there) (c.steps.ensures.steps.steps world _ t s on.there) in
      subst (λ k. IsOnItsWay g.row.W image world c.args.limit k c.steps.new.self) (sym next.taken) next;
}

pub returns : goal.returns
returns g c = record {
  report = λ image world n t s h.
      let on = c.loop-runner.invariant.on image world n t s h in
      let k = c.loop-runner.runner.taken in
      let over : ((own_run g.row.W image world k).ending ≢ Running) ⊎ (k ≡ c.args.limit) =
      elim c.loop-runner-test.branch as (λ _. ((own_run g.row.W image world k).ending ≢ Running) ⊎ (k ≡ c.args.limit)) [
        | then-loop-runner-test+else-goes_on w ↦
            inl (λ e. false≢true (sym w.if-goes_on.false ∙ (w.goes_on.ensures world _ on.there).1 e))
        | else-loop-runner-test w ↦ inr (omega (arith, w.loop-runner-test.false, on.most))
      ] in
      reports g.row.W image world c.args.limit k c.loop-runner.runner _ on over c.report.ensures.steps (c.report.ensures.spot world)
      (c.report.ensures.ending world) (c.report.ensures.events world);
}
