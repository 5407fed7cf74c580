use Rattle.std.proofs.Common.{arith, drop, ◌∙◌}
use Rattle.host_model.specs.Placements.{own_placement}
use Rattle.host_model.specs.Runs.{run_step}
use Rattle.run_trace.proofs.BeforeLaws.{events-then, lines-are, on-ok}
use Rattle.run_trace.proofs.RunnerLaws.{runs-after, statics-few}
use Rattle.run_trace.proofs.telling.tell_step.Goals as goal

pub step-step-requires : goal.step-step-requires
step-step-requires g c =
    let runs = c.requires.runs in
    let next = c.step.ensures.step runs.world runs.state runs.its_notes runs.its_script runs.is in
    let after = runs-after g.row.W runs.world c.args.runner.now _ runs.state _ runs.is next c.requires.image in
    let few = statics-few g.row.W c.args.program.notes.now c.args.program.script.now c.args.runner.now runs in
    (omega arith, (c.requires.width, (c.of-before.ensures.few, (after, few))))

pub returns-clause-text : goal.returns-clause-text
returns-clause-text g c =
    on-ok c.append_pointed_to.result c.append_pointed_to.ensures (λ appended world r read size notes script is.
    let w = g.row.W in
    let s = run_step w world (own_placement w world) r in
    let there = c.step.ensures.step world r notes script is in
    let same = c.of-before.ensures.before world r script is in
    let events = c.added-events.ensures ∙ (λ i. drop (events-then w world r c.of-before.result same i)
    ((c.as_slice.ensures.value ∙ c.trace.ensures world s there) i)) in
    lines-are w world c.args.number r s c.args.program.notes.now c.step-step.result c.added-events.result.now _ _ _
    notes (c.step-step.ensures.step world r s notes same there) events c.in_ok-append_step.ensures
    (appended c.args.program.image.now world s notes script read size there))
