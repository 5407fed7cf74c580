use Rattle.std.proofs.Common.{refl, sym, ◌+◌, ◌∙◌, arith}
use Rattle.std.proofs.lemmas.Bool.{false≢true}
use Rattle.std.proofs.lemmas.Result.{on_ok_weaker}
use Rattle.run_trace.specs.Following.{world_under}
use Rattle.run_trace.proofs.CallLaws.{follows}
use Rattle.run_trace.proofs.ToldLaws.{after-end, after-next}
use Rattle.run_trace.proofs.TraceLaws.{runs-of}
use Rattle.run_trace.proofs.traced.TracedRun.step.Goals as goal

pub next_back-back-requires : goal.next_back-back-requires
next_back-back-requires g c =
    let p = c.args.program in
    let there = c.requires.after.1.there in (
      omega arith,
      (
        runs-of g.row.W p.image.now p.notes.now p.script.now c.args.self.now.runner _ there,
        there.at.ending ∙ (c.goes_on.ensures (world_under p) _ there).0 c.if-goes_on.true,
      ),
    )

pub step-requires : goal.step-requires
step-requires g c =
    let p = c.args.program in (
      omega arith,
      (c.requires.width, runs-of g.row.W p.image.now p.notes.now p.script.now c.args.self.now.runner _ c.requires.after.1.there),
    )

pub returns-then-goes_on-clause-after : goal.returns-then-goes_on-clause-after
returns-then-goes_on-clause-after g c =
    let p = c.args.program in
    let next = c.step.ensures.step (world_under p) in
    on_ok_weaker c.follow.result (λ h taken at. after-next g.row.W p taken c.args.self.now _ at (λ r is. next r refl refl is)
    (λ r is. follows (world_under p) r _ c.next_back-back.result c.args.self.now.calls.items _
    (c.next_back-back.ensures (world_under p) r refl is) (h (world_under p) _ (next r refl refl is)))) c.follow.ensures

pub returns-clause-after : goal.returns-clause-after
returns-clause-after g c taken at =
    let p = c.args.program in
    after-end g.row.W p taken (taken + 1) c.args.self.now
    (λ on. false≢true (sym c.if-goes_on.false ∙ (c.goes_on.ensures (world_under p) _ at.there).1 on)) (omega arith) at

pub returns-clause-counted : goal.returns-clause-counted
returns-clause-counted g c on =
    let there = c.requires.after.1.there in
    absurd (false≢true (sym c.if-goes_on.false ∙ (c.goes_on.ensures (world_under c.args.program) _ there).1 (sym there.at.ending ∙ on)))
