use Rattle.std.proofs.Common.{◌+◌, ◌*◌, arith, below_more}
use Rattle.note_types.specs.Shapes.{size_at}
use Rattle.rules_image.proofs.RangesLemmas.{holds}
use Rattle.rules_image.proofs.content.instances_hold.Goals as goal
use Rattle.rules_image.specs.Contents.{CellsHold}
use Rattle.rules_image.proofs.Disjoint.{refuted}

pub returns-then-not-instance_holds : goal.returns-then-not-instance_holds
returns-then-not-instance_holds c =
    refuted (λ all.
    let yes = c.instance_holds.ensures.1 (all c.loop-j.j c.loop-j-test.true) in
    let is = c.if-not-instance_holds.true in cc)

pub loop-j-preserved : goal.loop-j-preserved
loop-j-preserved c =
    below_more (λ j. CellsHold c.args.image.now c.args.notes.now c.args.s.now.fields
    (c.args.x.now.place + j * size_at 8 c.args.s.now)) c.loop-j.j c.loop-j.invariant
    (c.instance_holds.ensures.0 c.if-not-instance_holds.false)

pub returns : goal.returns
returns c = holds (λ j within. c.loop-j.invariant j (omega arith))
