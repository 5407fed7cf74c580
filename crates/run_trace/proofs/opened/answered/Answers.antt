use Rattle.run_trace.proofs.OpenedLaws.{accepted-under-way, none-under-way}
use Rattle.run_trace.proofs.opened.answered.Goals as goal

pub returns-then-entry-eq-NO_ENTRY : goal.returns-then-entry-eq-NO_ENTRY
returns-then-entry-eq-NO_ENTRY c = λ f same. none-under-way c.args.script.now f c.args.entry same c.if-entry-eq-NO_ENTRY.true

pub returns-else-entry-eq-NO_ENTRY : goal.returns-else-entry-eq-NO_ENTRY
returns-else-entry-eq-NO_ENTRY c = λ f same.
    accepted-under-way c.args.script.now f c.args.entry c.accepted.result same c.if-entry-eq-NO_ENTRY.false c.accepted.ensures
