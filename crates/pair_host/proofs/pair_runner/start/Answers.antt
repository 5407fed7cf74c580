use Rattle.pair_host.proofs.Common.{refl, images_for, pair_world}
use Rattle.pair_host.proofs.PairOnItsWay.{begins}
use Rattle.pair_host.proofs.pair_runner.start.Goals as goal

pub returns-clause-start : goal.returns-clause-start
returns-clause-start g c = λ binds.
    let world = pair_world c.args.a.now c.args.b.now binds in
    let provider = c.in_ok-provider.ensures.start in
    begins g.row.W (images_for c.args.a.now c.args.b.now) world _ c.in_ok-caller.ensures.start provider refl c.in_ok-trace.ensures.items
    (c.ending-ending.ensures world.b _ provider)
