use Rattle.pair_host.proofs.Common.{◌≢◌, ◌≡◌, ◌⊎◌, refl, sym, ◌∙◌, inl, inr, arith, false≢true, Running, own_pair_run, images_for}
use Rattle.pair_host.proofs.Common.{pair_world}
use Rattle.pair_host.proofs.PairOnItsWay.{goes-on, reports, room-for-one}
use Rattle.pair_host.proofs.pairs.finish.Goals.{then-loop-steps-test+else-goes_on, else-loop-steps-test}
use Rattle.pair_host.proofs.pairs.finish.Goals as goal

pub loop-steps-init : goal.loop-steps-init
loop-steps-init g c = c.requires.on

pub loop-steps-preserved : goal.loop-steps-preserved
loop-steps-preserved g c =
    let images = images_for c.args.a.now c.args.b.now in
    let world = pair_world c.args.a.now c.args.b.now c.args.binds.now in
    let on = c.loop-steps.invariant in
    goes-on g.row.W images world c.args.limit c.loop-steps.steps c.loop-steps.runner c.step.new.self on c.loop-steps-test.true
    ((c.goes_on.ensures world _ on.there).0 c.if-goes_on.true) c.step.ensures.step c.step.ensures.room

pub step-requires : goal.step-requires
step-requires g c =
    let images = images_for c.args.a.now c.args.b.now in
    let world = pair_world c.args.a.now c.args.b.now c.args.binds.now in
    let on = c.loop-steps.invariant in (
      omega arith,
      (
        c.requires.width,
        (
          c.requires.paired,
          (
            record { state = own_pair_run g.row.W images world c.loop-steps.steps; is = on.there },
            room-for-one g.row.W images world c.args.limit c.loop-steps.steps c.loop-steps.runner on c.loop-steps-test.true,
          ),
        ),
      ),
    )

pub returns : goal.returns
returns g c =
    let images = images_for c.args.a.now c.args.b.now in
    let world = pair_world c.args.a.now c.args.b.now c.args.binds.now in
    let on = c.loop-steps.invariant in
    let over : ((own_pair_run g.row.W images world c.loop-steps.steps).ending ≢ Running) ⊎ (c.loop-steps.steps ≡ c.args.limit) =
    elim c.loop-steps-test.branch as (λ _. ((own_pair_run g.row.W images world c.loop-steps.steps).ending ≢ Running)
    ⊎ (c.loop-steps.steps ≡ c.args.limit)) [
      | then-loop-steps-test+else-goes_on w ↦
          inl (λ e. false≢true (sym w.if-goes_on.false ∙ (w.goes_on.ensures world _ on.there).1 e))
      | else-loop-steps-test w ↦ inr (omega (arith, w.loop-steps-test.false, on.most))
    ] in
    record {
      report = reports g.row.W images world c.args.limit c.loop-steps.steps c.loop-steps.runner _ on over refl (c.spot.ensures world)
          (c.ending.ensures world) (c.into_trace.ensures world);
    }
