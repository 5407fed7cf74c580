use Rattle.stack_needs.proofs.Common.{Sees}
use Rattle.stack_needs.proofs.StackLaws.{stack-begun}
use Rattle.stack_needs.proofs.order.Search.begin.Goals as goal

pub returns-clause-stack : goal.returns-clause-stack
returns-clause-stack c =
    stack-begun (Sees c.args.walks.now) c.args.self.now.marks.items c.args.self.now.visits.items c.push.new.self.items
    (record { function = c.args.function; calls = 0 }) c.requires.stack c.requires.called c.in_ok-push.ensures.items
