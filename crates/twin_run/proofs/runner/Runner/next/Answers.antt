use Rattle.twin_run.proofs.Common.{false}
use Rattle.twin_run.proofs.HostingLaws.{next_part, next_shown, taken_at}
use Rattle.twin_run.proofs.runner.Runner.next.Goals as goal

pub returns-clause-at : goal.returns-clause-at
returns-clause-at g c = λ world r notes script away at.
    let w = g.row.W in
    let x = c.args.self.now in
    let h = c.next-step.new.self in
    let m = c.next-step.new.mem in
    let fs = c.next-step.new.frames in
    let st = c.next-step.result in
    let part = next_part w world c.args.notes.now c.args.script.now x r h m fs st notes script at c.requires.asked c.requires.called away
    c.next-step.ensures.after in
    let mid = next_shown w world c.args.notes.now c.args.script.now x r h m fs notes script at c.requires.asked c.next-step.ensures.serving
    c.next-step.ensures.kept c.next-step.ensures.objects in
    taken_at w world c.take.new.self r _ false st (c.take.ensures.at world _ notes mid) part
