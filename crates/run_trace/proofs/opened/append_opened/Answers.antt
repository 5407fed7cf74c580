use Rattle.std.proofs.Common.{ap, arith, refl, sym, ◌-◌}
use Rattle.object_memory.specs.Memory.{ranges}
use Rattle.note_types.specs.Concrete.{Concrete}
use Rattle.run_trace.proofs.OpenedLaws.{opened-all, opened-more}
use Rattle.run_trace.proofs.opened.append_opened.Goals as goal

pub loop-above-init : goal.loop-above-init
loop-above-init g c = refl

pub loop-above-preserved : goal.loop-above-preserved
loop-above-preserved g c =
    opened-more c.args.notes.now c.args.script.now (ranges c.args.runner.now.mem) c.args.calls.now c.frames-asked.result.0
    c.asked_above.result c.frames-asked.result.1.now c.depth-depth.result c.loop-above.above
    (c.depth-depth.result - 1 - c.loop-above.above) c.under_way-call.result c.opened.result c.args.out.now.items
    c.loop-above.out.items c.append_open_call.new.out.items c.append_backs.new.out.items c.append_open_function.new.out.items
    c.depth-depth.ensures.count c.loop-above-test.true (let less = c.loop-above-test.true in omega (arith, less))
    c.asked_above.ensures.top c.asked_above.ensures.lower (λ f is. c.under_way-call.ensures f (sym (c.entry_of.ensures f is)))
    (λ f is. c.opened.ensures f is) c.loop-above.invariant c.in_ok-append_open_call.ensures c.in_ok-append_backs.ensures
    c.in_ok-append_open_function.ensures

pub returns : goal.returns
returns g c = λ world s is.
    opened-all c.args.notes.now c.args.script.now s (ranges c.args.runner.now.mem) c.args.calls.now c.frames-asked.result.0
    c.frames-asked.result.1.now c.depth-depth.result c.loop-above.above c.args.out.now.items c.loop-above.out.items
    c.depth-depth.ensures.count (let past = c.loop-above-test.false in omega (arith, past))
    (ap (λ (m : Concrete). m.objects) is.at.machine) (c.frames-asked.ensures world s is) c.loop-above.invariant
