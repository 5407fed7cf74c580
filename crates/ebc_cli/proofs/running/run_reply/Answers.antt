use Rattle.ebc_cli.proofs.Common.{ap, ◌∙◌, Done, prints}
use Rattle.ebc_cli.proofs.running.run_reply.Goals as goal

pub returns-clause-tells : goal.returns-clause-tells
returns-clause-tells c = record {
  report = c.in_ok-report.report;
  shown = c.in_ok-report.ensures;
  told = c.printed.ensures ∙ ap (prints Done) c.in_ok-text.ensures;
}
