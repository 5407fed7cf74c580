use Rattle.pair_host.proofs.Common.{◌∙◌, ap, length, refl, World, own}
use Rattle.pair_host.proofs.Steps.{b_runs, b_steps}
use Rattle.pair_host.proofs.pair_runner.PairRunner.step_b.Goals as goal

pub returns-clause-step : goal.returns-clause-step
returns-clause-step g c = λ world p at side on is.
    let w = g.row.W in
    let x = c.args.self.now in
    let run = b_runs w world x p is side in
    let there = c.step.ensures.step world.b (own x.b p.b) (ap (λ (v : World). v.notes) at) (ap (λ (v : World). v.script) at) run in
    b_steps w world x _ p _ _ is side on there refl refl (c.ending-self.ensures world.b _ there)
    ((c.len-told.ensures ∙ c.trace.result.now.ok.0) ∙ ap length (c.trace.ensures world.b (own x.b p.b) run))
    (c.deref.ensures.value ∙ c.trace-2.ensures world.b _ there) c.tell_b.ensures.items
