use Rattle.pair_host.proofs.Common.{ap, refl, subst, sym, World, running_side, Runner, IsPair, own}
use Rattle.pair_host.proofs.Steps.{b_on, b_runs, function_goes, function_returns}
use Rattle.pair_host.proofs.pair_runner.PairRunner.function_step.Goals as goal

pub returns-in-None-clause-step : goal.returns-in-None-clause-step
returns-in-None-clause-step g c = λ world p at stage on is.
    let w = g.row.W in
    let x = c.args.self.now in
    let side = ap running_side stage in
    let other = c.in-None.ensures.other world.b (own x.b p.b) (b_runs w world x p is side) (b_on w world x p is side on) in
    let same = subst (λ (z : Runner w). IsPair w world (record x { b = z }) p) (sym c.in-None.ensures.same) is in
    function_goes w world x _ p c.args.signature other (c.step_b.ensures.step world p at side on same)

pub returns-in-Some-clause-step : goal.returns-in-Some-clause-step
returns-in-Some-clause-step g c = λ world p at stage on is.
    let w = g.row.W in
    let x = c.args.self.now in
    let side = ap running_side stage in
    let run = b_runs w world x p is side in
    let goes = b_on w world x p is side on in
    let notes = ap (λ (v : World). v.notes) at in
    function_returns w world x _ p c.args.signature c.in-Some.left.func c.in-Some.left.value is stage on
    (c.in-Some.ensures.seen world.b (own x.b p.b) notes run goes) (c.in-Some.ensures.rests world.b (own x.b p.b) notes run goes) refl refl
    refl c.tell.ensures.items
