use Rattle.std.proofs.Common.{rules}
use Rattle.ebc_trace.proofs.tracing.lines_at.Goals as goal

-- the report is the one that was told
pub returns : goal.returns
returns g c = (c.in_ok-report.report, c.in_ok-report.ensures.report, search rules)
