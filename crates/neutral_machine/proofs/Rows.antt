-- What a run shows at both widths and in the neutral machine.
use Rattle.neutral_machine.proofs.Common.{◌≡◌, ℕ, Some, Image, World, report_after}
use Rattle.host_model.specs.Reports.{Report}
use Rattle.neutral_machine.specs.NeutralReports.{neutral_report_after}

-- a run shows this after so many steps, at either width
pub record AtWidths (world : World) (image : Image) (k : ℕ) (shown : Report) : Type 0 where
  pub at4 : report_after 4 world image k ≡ shown
  pub at8 : report_after 8 world image k ≡ shown

-- and so it does in the neutral machine
pub record Everywhere (world : World) (image : Image) (k : ℕ) (shown : Report) : Type 0 where
  pub at4 : report_after 4 world image k ≡ shown
  pub at8 : report_after 8 world image k ≡ shown
  pub neutral : neutral_report_after world image k ≡ Some shown
