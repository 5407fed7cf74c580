use Rattle.width_checker.proofs.Common.{arith}
use Rattle.width_checker.proofs.Walking.{later_place, walked_end, walked_fails, walked_more, walked_start}
use Rattle.width_checker.proofs.walk.Walk.check.Goals as goal

pub loop-at-init : goal.loop-at-init
loop-at-init c =
    let w = c.args.self.now in
    walked_start w.image.now w.notes.now w.func w.f.now c.first_point.result c.first_reloc.result c.enter.new.state
    c.requires.holds.range c.first_point.ensures c.first_reloc.ensures c.enter.ensures

pub loop-at-preserved : goal.loop-at-preserved
loop-at-preserved c =
    let w = c.args.self.now in
    walked_more w.image.now w.notes.now w.func w.f.now c.loop-at.at c.in-Ok.next c.loop-at.marks c.step.new.marks
    c.loop-at.state c.step.new.state c.loop-at.invariant c.loop-at-test.true c.in-Ok.ensures.passes

pub loop-at-smaller : goal.loop-at-smaller
loop-at-smaller c =
    let more =
    later_place c.args.self.now.image.now c.args.self.now.notes.now c.args.self.now.func c.args.self.now.f.now c.loop-at.at c.in-Ok.next
    c.step.new.marks c.step.new.state c.in-Ok.ensures.passes in
    omega arith

pub returns-in-Err-clause-fails : goal.returns-in-Err-clause-fails
returns-in-Err-clause-fails c =
    let w = c.args.self.now in
    walked_fails w.image.now w.notes.now w.func w.f.now c.loop-at.at c.loop-at.marks c.loop-at.state c.in-Err.rule
    c.loop-at.invariant c.loop-at-test.true c.in-Err.ensures.fails

pub returns-clause-meets : goal.returns-clause-meets
returns-clause-meets c =
    let w = c.args.self.now in
    walked_end w.image.now w.notes.now w.func w.f.now c.loop-at.at c.loop-at.marks c.loop-at.state c.requires.holds
    c.loop-at.invariant c.loop-at-test.false
