use Rattle.std.proofs.Common.{◌+◌, ◌≤◌, arith, subst, sym}
use Rattle.rules_image.proofs.Disjoint.{ReachTo, reach_more, turn_more}
use Rattle.rules_image.proofs.apart.are_in_turn.Goals as goal

pub loop-number-preserved : goal.loop-number-preserved
loop-number-preserved c =
    let after : c.loop-number.reach ≤ c.range_of-place.result.0 = omega arith in
    record {
      bound = omega arith;
      reach = subst (λ z. ReachTo c.args.notes.now c.args.order.now (c.loop-number.number-index + 1) (z + c.range_of-place.result.1))
          (sym c.from-in-loop-number.ensures)
          (reach_more c.args.notes.now c.args.order.now c.loop-number.number-index c.loop-number.reach c.range_of-place.result.0
          c.range_of-place.result.1 c.range_of-place.ensures.range after c.loop-number.invariant.reach);
      turn = turn_more c.args.notes.now c.args.order.now c.loop-number.number-index c.loop-number.reach c.range_of-place.result.0
          c.range_of-place.result.1 c.range_of-place.ensures.range after
          (omega arith) c.loop-number.invariant.reach c.loop-number.invariant.turn;
    }

pub returns : goal.returns
returns c = λ e j k p q n m less within s t. c.loop-number.invariant.turn j k p q n m less (omega arith) s t
