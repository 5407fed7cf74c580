use Rattle.std.proofs.Common.{ap, sym, ◌∙◌, ◌++◌}
use Rattle.std.proofs.lemmas.Result.{on_ok_weaker}
use Rattle.run_trace.specs.Following.{world_under}
use Rattle.twin_trace.specs.BothTraces.{steps_beside, told_steps}
use Rattle.twin_trace.proofs.telling.append_told.Goals as goal

pub returns-in-None-clause-text : goal.returns-in-None-clause-text
unfolding told_steps
returns-in-None-clause-text c =
    let p = c.args.program in
    on_ok_weaker c.append_steps.result (λ h. h
    ∙ (ap (λ n. c.args.out.now.items ++ steps_beside p.image.now (world_under p) n c.args.last) c.saturating_sub.ensures
    ∙ ap (λ d. c.args.out.now.items ++ told_steps p.image.now (world_under p) c.args.first c.args.last d) (sym c.in-None.is)))
    c.append_steps.ensures.text
