use Rattle.twin_run.proofs.Common.{subst, Notes, IsServing}
use Rattle.twin_run.proofs.HostingLaws.{empty_when, finished_at, is_left, resumed_at, returned_at, serving_back, some_when}
use Rattle.twin_run.proofs.runner.Runner.leave_function.Goals as goal

pub returns-then-left-clause-at : goal.returns-then-left-clause-at
returns-then-left-clause-at g c = λ world r notes gate at.
    let w = g.row.W in
    let x = c.args.self.now in
    let e = c.in-Some.left in
    let facts = c.in-Some.ensures in
    let left = is_left x c.leave.new.m c.leave.new.frames e.func e.r7 e.notified c.requires.inside c.leave.ensures.frames
    c.leave.ensures.machine facts.func facts.r7 facts.notified in
    let serving = serving_back w world c.args.notes.now c.resumed.new.self notes (c.resumed.ensures.serving world.script
    (subst (λ (n : Notes). IsServing w n world.script x.host) notes at.serving)) in
    resumed_at w world x r left.0 c.leave.new.m c.leave.new.frames e.func e.r7 e.notified c.resumed.result c.resumed.new.self at left.1
    (λ q. c.resumed.ensures.run world q notes) gate c.if-left.true serving c.resumed.ensures.same c.resumed.ensures.event

pub returns-then-depth-eq0-clause-at : goal.returns-then-depth-eq0-clause-at
returns-then-depth-eq0-clause-at g c = λ world r notes gate at.
    let x = c.args.self.now in
    let e = c.in-Some.left in
    let facts = c.in-Some.ensures in
    let left = is_left x c.leave.new.m c.leave.new.frames e.func e.r7 e.notified c.requires.inside c.leave.ensures.frames
    c.leave.ensures.machine facts.func facts.r7 facts.notified in
    finished_at g.row.W world x r left.0 c.leave.new.m c.leave.new.frames e.func e.r7 e.notified c.result_of.result at left.1
    (λ q. c.result_of.ensures.run world q notes) gate c.if-left.false
    (empty_when c.leave.new.frames c.depth.result c.depth.ensures.count c.if-depth-eq0.true)

pub returns-else-depth-eq0-clause-at : goal.returns-else-depth-eq0-clause-at
returns-else-depth-eq0-clause-at g c = λ world r notes gate at.
    let w = g.row.W in
    let x = c.args.self.now in
    let e = c.in-Some.left in
    let facts = c.in-Some.ensures in
    let left = is_left x c.leave.new.m c.leave.new.frames e.func e.r7 e.notified c.requires.inside c.leave.ensures.frames
    c.leave.ensures.machine facts.func facts.r7 facts.notified in
    let serving = serving_back w world c.args.notes.now c.returned.new.self notes (c.returned.ensures.serving world.script
    (subst (λ (n : Notes). IsServing w n world.script x.host) notes at.serving)) in
    returned_at w world x r left.0 c.leave.new.m c.leave.new.frames e.func e.r7 e.notified c.returned.result c.returned.new.self at left.1
    (λ q. c.returned.ensures.run world q notes) gate c.if-left.false
    (some_when c.leave.new.frames c.depth.result c.depth.ensures.count c.if-depth-eq0.false) serving c.returned.ensures.same
    c.returned.ensures.event
