use Rattle.std.proofs.Common.{arith}
use Rattle.run_trace.specs.Pointed.{event_lines}
use Rattle.run_trace.proofs.ArgumentLaws.{event-more, events-all}
use Rattle.run_trace.proofs.pointing.append_pointed_to.Goals as goal

pub loop-event-preserved : goal.loop-event-preserved
loop-event-preserved g c = λ image world s notes script read size is.
    event-more (event_lines g.row.W world s.machine) c.args.events.now c.loop-event.event-index c.event-item.result
    c.args.out.now.items c.loop-event.out.items c.append_event.new.out.items c.loop-event-test.true c.event-item.is
    (c.loop-event.invariant image world s notes script read size is)
    (c.in_ok-append_event.ensures image world s notes script read size is)

pub returns : goal.returns
returns g c = λ image world s notes script read size is.
    events-all g.row.W world s.machine c.args.events.now c.loop-event.event-index c.args.out.now.items c.loop-event.out.items
    (let over = c.loop-event-test.false in omega (arith, over)) (c.loop-event.invariant image world s notes script read size is)
