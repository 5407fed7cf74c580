use Rattle.pair_host.proofs.Common.{◌∙◌, ap, refl, subst, sym, World, running_side, IsQuiet, Runner, IsPair, own}
use Rattle.twin_run.proofs.BoundLaws.{rests_quiet}
use Rattle.pair_host.proofs.Steps.{b_on, b_runs, provider_fails, provider_goes, provider_rests}
use Rattle.pair_host.proofs.pair_runner.PairRunner.provider_step.Goals as goal

pub returns-in-None-clause-step : goal.returns-in-None-clause-step
returns-in-None-clause-step g c = λ world p at stage on is.
    let w = g.row.W in
    let x = c.args.self.now in
    let side = ap running_side stage in
    let goes = b_on w world x p is side on in
    let other = c.in-None.ensures.other world.b (own x.b p.b) (b_runs w world x p is side) goes in
    let same = subst (λ (z : Runner w). IsPair w world (record x { b = z }) p) (sym c.in-None.ensures.same) is in
    provider_goes w world x _ p goes other (c.step_b.ensures.step world p at side on same)

pub returns-in-Some-clause-step : goal.returns-in-Some-clause-step
returns-in-Some-clause-step g c = λ world p at stage on is.
    let w = g.row.W in
    let x = c.args.self.now in
    let side = ap running_side stage in
    let run = b_runs w world x p is side in
    let goes = b_on w world x p is side on in
    let notes = ap (λ (v : World). v.notes) at in
    let rests = c.in-Some.ensures.rests world.b (own x.b p.b) notes run goes in
    provider_fails w world x _ p c.in-Some.left.func c.in-Some.left.value is stage goes
    (c.in-Some.ensures.seen world.b (own x.b p.b) notes run goes) (sym c.is_error.ensures ∙ c.if-is_error.true)
    (c.end.ensures.at world.b _ rests.at)
    (subst (IsQuiet world.b.script) (sym c.end.ensures.kept)
    (rests_quiet w world.b.script x.b c.leave_first.new.self rests.outside rests.settled c.leave_first.ensures.host
    c.leave_first.ensures.quiet run.quiet))
    refl refl refl refl

pub returns-in-Some-2-clause-step : goal.returns-in-Some-2-clause-step
returns-in-Some-2-clause-step g c = λ world p at stage on is.
    let w = g.row.W in
    let x = c.args.self.now in
    let side = ap running_side stage in
    let run = b_runs w world x p is side in
    let goes = b_on w world x p is side on in
    let notes = ap (λ (v : World). v.notes) at in
    provider_rests w world x _ p c.in-Some.left.func c.in-Some.left.value is goes
    (c.in-Some.ensures.seen world.b (own x.b p.b) notes run goes) (sym c.is_error.ensures ∙ c.if-is_error.false)
    (c.in-Some.ensures.rests world.b (own x.b p.b) notes run goes) refl refl (c.ending-self.ensures world.a (own x.a p.a) is.a) refl
