use Rattle.twin_run.proofs.Common.{arith, length, true}
use Rattle.twin_run.proofs.HostingLaws.{due_enters, due_part, due_shown, taken_at}
use Rattle.twin_run.proofs.runner.Runner.notify.Goals as goal

pub returns-clause-at : goal.returns-clause-at
returns-clause-at g c = λ world r notes script away none due at.
    let w = g.row.W in
    let x = c.args.self.now in
    let h = c.notification-step.new.self in
    let st = c.notification-step.result in
    let part = due_part w world c.args.notes.now c.args.script.now x r h st notes script at c.requires.asked none due away
    c.notification-step.ensures.after in
    let mid = due_shown w world c.args.notes.now c.args.script.now x r h notes script at c.requires.asked
    c.notification-step.ensures.serving c.notification-step.ensures.kept in
    taken_at w world c.take.new.self r _ true st (c.take.ensures.at world _ notes mid) part

pub take-requires : goal.take-requires
take-requires g c =
    let known = due_enters c.args.notes.now c.notification-step.result (length c.args.self.now.frames) _
    c.notification-step.ensures.entered c.notification-step.ensures.depth c.requires.asked in
    (omega arith, (c.requires.width, (c.requires.ready.serving.read, (c.notification-step.ensures.serving.host.notes, known))))
