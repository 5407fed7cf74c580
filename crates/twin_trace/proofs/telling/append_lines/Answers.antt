use Rattle.std.proofs.Common.{ap, append_assoc, ◌∙◌, ◌++◌}
use Rattle.std.proofs.lemmas.Result.{on_ok_weaker}
use Rattle.run_trace.specs.Following.{world_under}
use Rattle.twin_trace.specs.BothTraces.{states_beside, told_steps}
use Rattle.twin_trace.proofs.telling.append_lines.Goals as goal

pub returns : goal.returns
returns c =
    let p = c.args.program in
    on_ok_weaker c.append_states.result (λ h. h c.args.last c.in_ok-append_told.ensures.after
    ∙ (ap (λ t. t ++ states_beside p.image.now (world_under p) c.args.last) c.in_ok-append_told.ensures.text
    ∙ append_assoc c.args.out.now.items (told_steps p.image.now (world_under p) c.args.first c.args.last c.args.differ)
    (states_beside p.image.now (world_under p) c.args.last))) c.append_states.ensures
