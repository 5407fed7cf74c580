use Rattle.std.proofs.Common.{rules}
use Rattle.twin_trace.proofs.telling.end_at.Goals as goal

pub returns : goal.returns
returns g c = (c.in_ok-report.report, c.in_ok-report.ensures.report, search rules)
