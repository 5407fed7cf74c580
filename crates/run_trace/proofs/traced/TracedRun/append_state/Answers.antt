use Rattle.std.proofs.Common.{◌++◌, ◌∙◌, ap, arith, refl}
use Rattle.std.proofs.lemmas.Result.{on_ok_weaker}
use Rattle.twin_run.specs.Reported.{own_run}
use Rattle.run_trace.specs.Following.{world_under}
use Rattle.run_trace.specs.Traces.{state_lines}
use Rattle.run_trace.proofs.RunnerLaws.{runs-image}
use Rattle.run_trace.proofs.traced.TracedRun.append_state.Goals as goal

pub append_state-requires : goal.append_state-requires
append_state-requires g c =
    let p = c.args.program in
    let there = c.requires.after.1.there in
    let runs = runs-image g.row.W p.image.now p.notes.now p.script.now c.args.self.now.runner _ c.requires.image there in (
      omega arith,
      (c.requires.width, (c.requires.image, (c.requires.bytes, (c.requires.notes, (c.requires.script, runs))))),
    )

pub returns : goal.returns
returns g c =
    let p = c.args.program in
    let w = g.row.W in
    on_ok_weaker c.append_state.result (λ h taken at. h (world_under p) _ refl at.there
    ∙ ap (λ calls. c.args.out.now.items ++ state_lines (world_under p) calls (own_run w p.image.now (world_under p) 0)
    (own_run w p.image.now (world_under p) taken)) (c.as_slice.ensures.value ∙ at.calls)) c.append_state.ensures
