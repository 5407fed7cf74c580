use Rattle.twin_run.proofs.BoundLaws.{asked_there, if_none, if_some, none_asked, none_at_gate}
use Rattle.twin_run.proofs.runner.Runner.asked_call.Goals as goal

pub returns-then-self-clause-none : goal.returns-then-self-clause-none
returns-then-self-clause-none g c = λ world r run on. none_at_gate g.row.W world c.args.self.now r c.if-self.true run.at

pub returns-clause-seen : goal.returns-clause-seen
returns-clause-seen g c =
    if_some c.args.self.now.asked _ (λ a is world r run on. asked_there g.row.W world c.args.self.now r a is c.if-self.false run on)

pub returns-clause-none : goal.returns-clause-none
returns-clause-none g c =
    if_none c.args.self.now.asked _ (λ is world r run on. none_asked g.row.W world c.args.self.now r is c.if-self.false run.at)
