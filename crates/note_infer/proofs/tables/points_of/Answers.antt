use Rattle.note_infer.proofs.Common.{sym, ◌∙◌, state_at}
use Rattle.note_infer.proofs.PointLists.{points_none, points_step}
use Rattle.note_infer.proofs.tables.points_of.Goals as goal

pub loop-number-init : goal.loop-number-init
loop-number-init c = c.new-points.ensures.items ∙ sym (points_none (state_at c.args.leaders.now c.args.states.now))

pub loop-number-preserved : goal.loop-number-preserved
loop-number-preserved c =
    points_step c.args.leaders.now c.args.states.now c.loop-number.number c.index-states-number.result c.loop-number.points.items
    c.add_point.new.points.items c.requires.ascend c.requires.long c.loop-number-test.true c.index-states-number.is c.loop-number.invariant
    c.in_ok-add_point.ensures
