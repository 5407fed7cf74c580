use Rattle.std.proofs.Common.{◌∙◌, ◌+◌, ◌++◌}
use Rattle.side_by_side.specs.SideBySide.{side_by_side}
use Rattle.run_trace.specs.Following.{world_under}
use Rattle.twin_trace.proofs.BothLaws.{beside-is}
use Rattle.twin_trace.proofs.runs.BothRuns.tell_next.Goals as goal

pub returns-clause-after : goal.returns-clause-after
returns-clause-after c = record { at4 = c.in_ok-tell_step.ensures.after; at8 = c.in_ok-tell_step-2.ensures.after }

pub returns-clause-text : goal.returns-clause-text
returns-clause-text c =
    let p = c.args.program in
    beside-is p.image.now (world_under p) (c.args.taken + 1) c.new-at32.result.items c.new-at64.result.items
    c.tell_step.new.out.items c.tell_step-2.new.out.items c.args.out.now.items c.append_beside.new.out.items
    c.new-at32.ensures.items c.new-at64.ensures.items c.in_ok-tell_step.ensures.text c.in_ok-tell_step-2.ensures.text
    (c.in_ok-append_beside.ensures
    ∙ (λ i. c.args.out.now.items ++ side_by_side (c.as_slice.ensures.value i) (c.as_slice-2.ensures.value i)))
