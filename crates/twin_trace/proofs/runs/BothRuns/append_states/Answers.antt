use Rattle.std.proofs.Common.{◌∙◌, ◌++◌}
use Rattle.side_by_side.specs.SideBySide.{side_by_side}
use Rattle.run_trace.specs.Following.{world_under}
use Rattle.twin_trace.proofs.BothLaws.{states-are}
use Rattle.twin_trace.proofs.runs.BothRuns.append_states.Goals as goal

pub returns : goal.returns
returns c taken are =
    let p = c.args.program in
    states-are p.image.now (world_under p) taken c.new-at32.result.items c.new-at64.result.items
    c.append_state.new.out.items c.append_state-2.new.out.items c.args.out.now.items c.append_beside.new.out.items
    c.new-at32.ensures.items c.new-at64.ensures.items (c.in_ok-append_state.ensures taken are.at4)
    (c.in_ok-append_state-2.ensures taken are.at8)
    (c.in_ok-append_beside.ensures
    ∙ (λ i. c.args.out.now.items ++ side_by_side (c.as_slice.ensures.value i) (c.as_slice-2.ensures.value i)))
