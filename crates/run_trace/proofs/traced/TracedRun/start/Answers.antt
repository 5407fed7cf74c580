use Rattle.std.proofs.Common.{sym, ◌∙◌}
use Rattle.run_trace.specs.Following.{world_under}
use Rattle.run_trace.proofs.CallLaws.{open-none}
use Rattle.run_trace.proofs.traced.TracedRun.start.Goals as goal

pub returns-clause-start : goal.returns-clause-start
returns-clause-start g c = record {
  there = c.in_ok-runner.ensures.start;
  calls = c.new-calls.ensures.items ∙ sym (open-none g.row.W c.args.program.image.now (world_under c.args.program));
}
