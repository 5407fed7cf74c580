use Rattle.pair_host.proofs.Common.{◌∙◌, ap, length, refl, World, own}
use Rattle.pair_host.proofs.Steps.{a_steps}
use Rattle.pair_host.proofs.pair_runner.PairRunner.step_a.Goals as goal

pub returns-clause-step : goal.returns-clause-step
returns-clause-step g c = λ world p at stage on is.
    let w = g.row.W in
    let x = c.args.self.now in
    let run = is.a in
    let there = c.step.ensures.step world.a (own x.a p.a) (ap (λ (v : World). v.notes) at) (ap (λ (v : World). v.script) at) run in
    a_steps w world x _ p _ _ is stage on there refl refl (c.ending-self.ensures world.a _ there)
    ((c.len-told.ensures ∙ c.trace.result.now.ok.0) ∙ ap length (c.trace.ensures world.a (own x.a p.a) run))
    (c.deref.ensures.value ∙ c.trace-2.ensures world.a _ there) c.tell_a.ensures.items
