use Rattle.std.proofs.Common.{◌≡◌, ◌⊎◌, ap, arith, inl, inr, sym, ◌∙◌}
use Rattle.std.proofs.lemmas.Bool.{false≢true}
use Rattle.host_model.specs.Runs.{world_of}
use Rattle.host_model.specs.World.{World}
use Rattle.note_types.specs.declared.ending.Ending.TheVariants.{Running}
use Rattle.run_trace.proofs.ToldLaws.{told-next, told-none, told-report, trace-all}
use Rattle.run_trace.proofs.telling.trace.Goals as goal
use Rattle.run_trace.proofs.telling.trace.Goals.{then-loop-taken-test+else-goes_on, else-loop-taken-test}

pub loop-taken-init : goal.loop-taken-init
loop-taken-init g c =
    let world : World = world_of c.args.image.now c.args.notes.now c.args.script.now in
    told-none g.row.W c.args.image.now world c.args.first c.args.last c.in_ok-traced.traced c.args.out.now.items c.requires.first
    c.in_ok-traced.ensures.start.there c.in_ok-traced.ensures.start.calls c.in_ok-traced.ensures.taken

pub next_step-requires : goal.next_step-requires
next_step-requires g c =
    let told = c.loop-taken.invariant in
    let less = c.loop-taken-test.true in
    (omega arith, (c.requires.width, (c.requires.image, (omega (arith, less), record { there = told.way.there; calls = told.calls }))))

pub loop-taken-preserved : goal.loop-taken-preserved
loop-taken-preserved g c =
    let world : World = world_of c.args.image.now c.args.notes.now c.args.script.now in
    let told = c.loop-taken.invariant in
    let there = told.way.there in
    let running = there.at.ending ∙ (c.goes_on.ensures world _ there).0 c.if-goes_on.true in
    let next = c.in_ok-next_step.ensures.after in
    told-next g.row.W c.args.image.now world c.args.first c.args.last c.loop-taken.taken c.loop-taken.traced c.next_step.new.run
    c.args.out.now.items c.loop-taken.out.items c.next_step.new.out.items told c.loop-taken-test.true (omega arith) running
    next.there next.calls (c.in_ok-next_step.ensures.counted running) (λ early. ap (λ v. v.items) (c.in_ok-next_step.ensures.passed early))
    c.in_ok-next_step.ensures.text

pub returns-clause-report : goal.returns-clause-report
returns-clause-report g c =
    let world : World = world_of c.args.image.now c.args.notes.now c.args.script.now in
    let told = c.loop-taken.invariant in
    let over : (c.loop-taken.traced.runner.ending ≡ Running → ⊥) ⊎ (c.loop-taken.taken ≡ c.args.last) =
    elim c.loop-taken-test.branch as (λ _. (c.loop-taken.traced.runner.ending ≡ Running → ⊥) ⊎ (c.loop-taken.taken ≡ c.args.last)) [
      | then-loop-taken-test+else-goes_on w ↦
          inl (λ e. false≢true (sym w.if-goes_on.false ∙ (w.goes_on.ensures world _ told.way.there).1 (sym told.way.there.at.ending ∙ e)))
      | else-loop-taken-test w ↦ inr (omega (arith, w.loop-taken-test.false, told.way.most))
    ] in
    told-report g.row.W c.args.image.now world c.args.first c.args.last c.loop-taken.taken c.loop-taken.traced c.report.result
    c.args.out.now.items c.loop-taken.out.items told over c.report.ensures.steps (c.report.ensures.spot world)
    (c.report.ensures.ending world) (c.report.ensures.events world)

pub append_state-requires : goal.append_state-requires
append_state-requires g c =
    let told = c.loop-taken.invariant in (
      omega arith,
      (
        c.requires.width,
        (
          c.requires.image,
          (
            c.requires.bytes,
            (c.requires.notes, (c.requires.script, (c.loop-taken.taken, record { there = told.way.there; calls = told.calls }))),
          ),
        ),
      ),
    )

pub returns-clause-text : goal.returns-clause-text
returns-clause-text g c =
    let world : World = world_of c.args.image.now c.args.notes.now c.args.script.now in
    let told = c.loop-taken.invariant in
    let over : (c.loop-taken.traced.runner.ending ≡ Running → ⊥) ⊎ (c.loop-taken.taken ≡ c.args.last) =
    elim c.loop-taken-test.branch as (λ _. (c.loop-taken.traced.runner.ending ≡ Running → ⊥) ⊎ (c.loop-taken.taken ≡ c.args.last)) [
      | then-loop-taken-test+else-goes_on w ↦
          inl (λ e. false≢true (sym w.if-goes_on.false ∙ (w.goes_on.ensures world _ told.way.there).1 (sym told.way.there.at.ending ∙ e)))
      | else-loop-taken-test w ↦ inr (omega (arith, w.loop-taken-test.false, told.way.most))
    ] in
    trace-all g.row.W c.args.image.now world c.args.first c.args.last c.loop-taken.taken c.loop-taken.traced c.args.out.now.items
    c.loop-taken.out.items _ c.requires.first told over
    (c.in_ok-append_state.ensures c.loop-taken.taken (record { there = told.way.there; calls = told.calls }))
