use Rattle.twin_run.proofs.Common.{arith}
use Rattle.twin_run.proofs.TurnLaws.{not_due_before}
use Rattle.twin_run.proofs.runner.Runner.quiet_ahead.Goals as goal

pub returns-then-due : goal.returns-then-due
returns-then-due g c = λ at n few. absurd (omega (arith, few))

pub returns-else-due : goal.returns-else-due
returns-else-due g c =
    not_due_before c.args.script.now c.args.self.now.host.notifications c.saturating_add-ahead.result c.if-due.ensures
