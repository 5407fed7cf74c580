use Rattle.ebc_cli.proofs.Common.{ap, ◌∙◌, Done, prints}
use Rattle.ebc_cli.proofs.sampling.sample_reply.Goals as goal

pub returns-clause-tells : goal.returns-clause-tells
returns-clause-tells c =
    let found = c.in_ok-report.ensures in
    record {
      verdict = c.in_ok-verdict.verdict;
      report = c.in_ok-report.report;
      checked = c.in_ok-verdict.ensures.verdict;
      shown = record { at4 = found.at4; at8 = found.at8; differ = found.differ };
      told = c.printed.ensures ∙ ap (prints Done) c.in_ok-line.ensures;
    }
