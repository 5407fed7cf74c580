use Rattle.twin_run.proofs.Common.{List, ℕ, sym, subst, ◌∙◌, entered, own_placement, taken, HostStep, IsAt}
use Rattle.twin_run.proofs.HostingLaws.{numbers_there, replied_taken}
use Rattle.twin_run.proofs.runner.Runner.take.Goals as goal

pub returns-in-Enter-clause-at : goal.returns-in-Enter-clause-at
returns-in-Enter-clause-at g c = λ world r notes at.
    let w = g.row.W in
    let numbers = numbers_there w world c.args.self.now r c.in-Enter.args c.as_slice.result.now at
    (c.as_slice.ensures.value ∙ c.argument_numbers-numbers.ensures world.notes at.serving.host.notes) in
    subst (λ (s : HostStep). IsAt w world c.enter.new.self (taken c.args.notified w world (own_placement w world) r s)) (sym c.in-Enter.is)
    (subst (λ (xs : List ℕ). IsAt w world c.enter.new.self (entered c.args.notified w world (own_placement w world) r c.in-Enter.func xs))
    numbers (c.enter.ensures.at world r notes at))

pub returns-in-Reply-clause-at : goal.returns-in-Reply-clause-at
returns-in-Reply-clause-at g c = λ world r notes at.
    replied_taken g.row.W world c.args.self.now r c.args.notified c.args.step c.in-Reply.number c.in-Reply.is at
