use Rattle.std.proofs.Common.{◌≡◌, ◌∙◌, ◌++◌, ap, arith, max, subst}
use Rattle.std.proofs.lemmas.Result.{on_ok_weaker}
use Rattle.run_trace.specs.Following.{world_under}
use Rattle.twin_trace.specs.BothTraces.{AreBothAfter}
use Rattle.twin_trace.proofs.BothLaws.{steps-capped}
use Rattle.twin_trace.proofs.telling.append_steps.Goals as goal

pub tell-requires-clause-before : goal.tell-requires-clause-before
tell-requires-clause-before c =
    let same : max 0 c.min-passed.result ≡ c.min-passed.result = omega arith in
    subst (λ n. AreBothAfter c.args.program n c.pass.new.self) same c.in_ok-pass.ensures

pub returns-clause-after : goal.returns-clause-after
returns-clause-after c =
    let same : max c.min-passed.result c.args.last ≡ c.args.last = omega (arith, c.min-passed.ensures) in
    on_ok_weaker c.tell.result (subst (λ n. AreBothAfter c.args.program n c.tell.new.self) same) c.tell.ensures.after

pub returns-clause-text : goal.returns-clause-text
returns-clause-text c =
    let p = c.args.program in
    on_ok_weaker c.tell.result (λ h. h ∙ ap (λ t. c.args.out.now.items ++ t)
    (steps-capped p.image.now (world_under p) c.args.passed c.args.last c.min-passed.result c.min-passed.ensures)) c.tell.ensures.text
