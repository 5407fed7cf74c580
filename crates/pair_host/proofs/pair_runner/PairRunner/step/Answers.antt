use Rattle.pair_host.proofs.Common.{◌∙◌, arith, subst, sym, own_placements, IsPair, pair_world}
use Rattle.pair_host.proofs.Turns.{over-stays}
use Rattle.pair_host.proofs.pair_runner.PairRunner.step.Goals as goal

pub returns-in_default : goal.returns-in_default
returns-in_default g c =
    let w = g.row.W in
    let world = pair_world c.args.a.now c.args.b.now c.args.binds.now in
    record {
      step = λ p is. subst (IsPair w world c.args.self.now)
          (sym (over-stays w world (own_placements w world) p (λ e. c.in_default.not-Running (is.ending ∙ e)))) is;
      room = λ n room. omega (arith, room);
    }
