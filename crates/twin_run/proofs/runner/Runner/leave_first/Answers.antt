use Rattle.twin_run.proofs.Common.{◌≡◌, ◌<◌, ◌∙◌, arith, length}
use Rattle.twin_run.proofs.BoundLaws.{drop_one, first_rests, first_view, no_return_away}
use Rattle.twin_run.proofs.{BoundLaws.no_return_deep, HostingLaws.is_left}
use Rattle.twin_run.proofs.runner.Runner.leave_first.Goals as goal

pub returns-then-self-clause-other : goal.returns-then-self-clause-other
returns-then-self-clause-other g c = λ world r run on. no_return_away g.row.W world c.args.self.now r c.if-self.true run.at

pub returns-then-not-is_in_first-clause-other : goal.returns-then-not-is_in_first-clause-other
returns-then-not-is_in_first-clause-other g c = λ world r run on.
    no_return_deep g.row.W world c.args.self.now r c.if-self.false c.if-not-is_in_first.ensures.other run.at

pub returns-clause-seen : goal.returns-clause-seen
returns-clause-seen g c = λ world r notes run on.
    let x = c.args.self.now in
    let e = c.in-Some.left in
    let facts = c.in-Some.ensures in
    let one : length x.frames ≡ 1 = c.if-not-is_in_first.ensures.first in
    let some : 0 < length x.frames = omega (arith, one) in
    let left = is_left x c.leave.new.m c.leave.new.frames e.func e.r7 e.notified some c.leave.ensures.frames c.leave.ensures.machine
    facts.func facts.r7 facts.notified in
    first_view g.row.W world x r left.0 c.leave.new.m c.leave.new.frames e.func e.r7 e.notified c.result_of.result run on left.1
    (c.leave.ensures.frames ∙ drop_one x.frames one) c.if-self.false (λ q. c.result_of.ensures.run world q notes)

pub returns-clause-rests : goal.returns-clause-rests
returns-clause-rests g c = λ world r notes run on.
    let x = c.args.self.now in
    let e = c.in-Some.left in
    let facts = c.in-Some.ensures in
    let one : length x.frames ≡ 1 = c.if-not-is_in_first.ensures.first in
    let some : 0 < length x.frames = omega (arith, one) in
    let left = is_left x c.leave.new.m c.leave.new.frames e.func e.r7 e.notified some c.leave.ensures.frames c.leave.ensures.machine
    facts.func facts.r7 facts.notified in
    first_rests g.row.W world x r left.0 c.leave.new.m c.leave.new.frames e.func e.r7 e.notified run on left.1
    (c.leave.ensures.frames ∙ drop_one x.frames one)
