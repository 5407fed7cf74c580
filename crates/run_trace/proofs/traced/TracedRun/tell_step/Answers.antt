use Rattle.std.proofs.Common.{refl, sym, ap, ◌∙◌, ◌++◌, ◌+◌, arith, append-nil}
use Rattle.std.proofs.lemmas.Bool.{false≢true}
use Rattle.std.proofs.lemmas.Result.{on_ok_weaker}
use Rattle.run_trace.specs.Following.{HasEnded, world_under}
use Rattle.run_trace.proofs.CallLaws.{follows}
use Rattle.run_trace.proofs.RunnerLaws.{image-has-bytes}
use Rattle.run_trace.proofs.ToldLaws.{after-end, after-next, over-lines}
use Rattle.run_trace.proofs.TraceLaws.{runs-of, step-is}
use Rattle.run_trace.proofs.traced.TracedRun.tell_step.Goals as goal

pub next_back-back-requires : goal.next_back-back-requires
next_back-back-requires g c =
    let p = c.args.program in
    let there = c.requires.before.there in (
      omega arith,
      (
        runs-of g.row.W p.image.now p.notes.now p.script.now c.args.self.now.runner _ there,
        there.at.ending ∙ (c.goes_on.ensures (world_under p) _ there).0 c.if-goes_on.true,
      ),
    )

pub tell_step-requires : goal.tell_step-requires
tell_step-requires g c =
    let p = c.args.program in
    let there = c.requires.before.there in (
      omega arith,
      (
        c.requires.width,
        (
          runs-of g.row.W p.image.now p.notes.now p.script.now c.args.self.now.runner _ there,
          (
            there.at.ending ∙ (c.goes_on.ensures (world_under p) _ there).0 c.if-goes_on.true,
            image-has-bytes g.row.W p.image.now p.notes.now p.script.now c.args.self.now.runner _ c.requires.image there,
          ),
        ),
      ),
    )

pub returns-then-goes_on-clause-after : goal.returns-then-goes_on-clause-after
returns-then-goes_on-clause-after g c =
    let p = c.args.program in
    let next = c.tell_step.ensures.step (world_under p) in
    on_ok_weaker c.follow.result (λ h. after-next g.row.W p c.args.taken c.args.self.now _ c.requires.before (λ r is. next r refl refl is)
    (λ r is. follows (world_under p) r _ c.next_back-back.result c.args.self.now.calls.items _
    (c.next_back-back.ensures (world_under p) r refl is) (h (world_under p) _ (next r refl refl is)))) c.follow.ensures

pub returns-then-goes_on-clause-text : goal.returns-then-goes_on-clause-text
returns-then-goes_on-clause-text g c =
    let p = c.args.program in
    on_ok_weaker c.follow.result (λ _. c.in_ok-tell_step.ensures.text (world_under p) _ c.requires.image refl refl refl
    c.requires.before.there ∙ ap (λ t. c.args.out.now.items ++ t) (sym (step-is g.row.W p.image.now (world_under p) c.args.taken
    ((c.goes_on.ensures (world_under p) _ c.requires.before.there).0 c.if-goes_on.true)))) c.follow.ensures

pub returns-clause-after : goal.returns-clause-after
returns-clause-after g c =
    let p = c.args.program in
    let over : HasEnded g.row.W p c.args.taken =
    λ on. false≢true (sym c.if-goes_on.false ∙ (c.goes_on.ensures (world_under p) _ c.requires.before.there).1 on) in
    after-end g.row.W p c.args.taken (c.args.taken + 1) c.args.self.now over (omega arith) c.requires.before

pub returns-clause-counted : goal.returns-clause-counted
returns-clause-counted g c on =
    let there = c.requires.before.there in
    absurd (false≢true (sym c.if-goes_on.false ∙ (c.goes_on.ensures (world_under c.args.program) _ there).1 (sym there.at.ending ∙ on)))

pub returns-clause-text : goal.returns-clause-text
returns-clause-text g c =
    let p = c.args.program in
    let over : HasEnded g.row.W p c.args.taken =
    λ on. false≢true (sym c.if-goes_on.false ∙ (c.goes_on.ensures (world_under p) _ c.requires.before.there).1 on) in
    sym (append-nil c.args.out.now.items) ∙ ap (λ t. c.args.out.now.items ++ t) (sym (over-lines g.row.W p c.args.taken over))
