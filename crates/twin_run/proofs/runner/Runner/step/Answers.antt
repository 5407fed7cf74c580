use Rattle.twin_run.proofs.Common.{arith, subst, ap, ◌∙◌, ◌≡◌, ◌+◌, ◌-◌, ◌^◌, min, IsRunner, steps_on}
use Rattle.twin_run.proofs.{SteppingOn.on_one, TurnLaws.stayed}
use Rattle.twin_run.proofs.runner.Runner.step.Goals as goal

pub returns-in-Running-clause-step : goal.returns-in-Running-clause-step
returns-in-Running-clause-step g c = λ world r notes script is.
    let w = g.row.W in
    let some = c.steps.ensures.some in
    let most = c.steps.ensures.most in
    let one : c.steps.result ≡ 1 = omega (arith, some, most) in
    subst (IsRunner w world c.steps.new.self) (on_one w world r)
    (subst (λ n. IsRunner w world c.steps.new.self (steps_on w world n r)) one (c.steps.ensures.steps.steps world r notes script is))

pub returns-in-Running-clause-counted : goal.returns-in-Running-clause-counted
returns-in-Running-clause-counted g c = λ _.
    let some = c.steps.ensures.some in
    let most = c.steps.ensures.most in
    let one : c.steps.result ≡ 1 = omega (arith, some, most) in
    c.steps.ensures.steps.counted ∙ ap (λ n. min (c.args.self.now.taken + n) (2 ^ 64 - 1)) one

pub returns-in_default-clause-step : goal.returns-in_default-clause-step
returns-in_default-clause-step g c = λ world r notes script is.
    stayed g.row.W world c.args.self.now r is c.in_default.not-Running
