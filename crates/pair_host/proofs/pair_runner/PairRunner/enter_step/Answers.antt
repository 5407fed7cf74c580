use Rattle.pair_host.proofs.Common.{ap, refl, World, running_side, own}
use Rattle.pair_host.proofs.{Calls.b_rests, Entering.enter_fails, Entering.enter_runs}
use Rattle.pair_host.proofs.pair_runner.PairRunner.enter_step.Goals as goal

pub returns-in-Running-clause-step : goal.returns-in-Running-clause-step
returns-in-Running-clause-step g c = λ world p at stage on is.
    let w = g.row.W in
    let x = c.args.self.now in
    let f = c.args.function in
    let args = c.args.args.now in
    let rests = b_rests w world x p is (ap running_side stage) on in
    let there = c.enter_first.ensures.runner world.b (own x.b p.b) (ap (λ (z : World). z.notes) at) rests in
    enter_runs w world x _ p c.args.signature f args _ is stage on there c.enter_first.ensures.host refl refl
    (c.ending-self.ensures world.b _ there) c.in-Running.is c.given_values.ensures c.tell.ensures.items

pub returns-in_default-clause-step : goal.returns-in_default-clause-step
returns-in_default-clause-step g c = λ world p at stage on is.
    let w = g.row.W in
    let x = c.args.self.now in
    let f = c.args.function in
    let args = c.args.args.now in
    let rests = b_rests w world x p is (ap running_side stage) on in
    let there = c.enter_first.ensures.runner world.b (own x.b p.b) (ap (λ (z : World). z.notes) at) rests in
    enter_fails w world x _ p c.args.signature f args _ is stage on refl refl (c.ending-self.ensures world.b _ there)
    c.in_default.not-Running c.given_values.ensures c.tell.ensures.items
