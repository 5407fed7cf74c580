use Rattle.std.proofs.Common.{◌≡◌, ◌-◌, arith, max, rules, subst}
use Rattle.std.proofs.lemmas.Result.{on_ok_weaker}
use Rattle.run_trace.specs.Following.{world_under}
use Rattle.twin_trace.specs.BothTraces.{AreBothAfter}
use Rattle.twin_trace.proofs.BothLaws.{parting-told}
use Rattle.twin_trace.proofs.telling.append_parting.Goals as goal

pub tell-requires-clause-before : goal.tell-requires-clause-before
tell-requires-clause-before c = c.in_ok-append_steps.ensures.after

pub returns-clause-after : goal.returns-clause-after
returns-clause-after c =
    let same : max (c.args.last - 1) c.args.last ≡ c.args.last = omega arith in
    on_ok_weaker c.tell.result (subst (λ n. AreBothAfter c.args.program n c.tell.new.self) same) c.tell.ensures.after

pub returns-clause-text : goal.returns-clause-text
returns-clause-text c =
    let p = c.args.program in
    on_ok_weaker c.tell.result (parting-told p.image.now (world_under p) c.args.first c.args.last c.args.steps c.passed_over-passed.result
    c.args.out.now.items c.append_steps.new.out.items c.extend_from_slice.new.self.items c.tell.new.out.items c.passed_over-passed.ensures
    c.in_ok-append_steps.ensures.text (search rules)) c.tell.ensures.text
