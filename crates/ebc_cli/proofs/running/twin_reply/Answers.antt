use Rattle.ebc_cli.proofs.Common.{refl}
use Rattle.ebc_cli.proofs.running.twin_reply.Goals as goal

pub returns-clause-tells : goal.returns-clause-tells
returns-clause-tells c =
    let found = c.in_ok-report.ensures in
    record {
      report = c.in_ok-report.report;
      shown = record { at4 = found.at4; at8 = found.at8; differ = found.differ };
      told = rw (c.printed.ensures, c.twin_outcome.ensures, c.in_ok-text.ensures) refl;
    }
