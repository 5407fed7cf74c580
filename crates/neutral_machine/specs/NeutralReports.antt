-- For proofs: what a configuration of the neutral machine shows. docs/HOST.md, "Runs".
use Rattle.std.specs.Prelude.{ℕ, Option}
use Rattle.neutral_machine.specs.Config.{Config}
use Rattle.host_model.specs.Reports.{Report}
use Rattle.std.specs.Option.{option_map}
use Rattle.pe_image.specs.declared.image.Image.{Image}
use Rattle.host_model.specs.World.{World}
use Rattle.neutral_machine.specs.NeutralRun.{config_after}

-- what a configuration shows
abbrev pub report_of_config : Config → Report
report_of_config a = record { spot = a.spot; trace = a.trace; ending = a.ending }

-- what the neutral machine's run shows after so many steps; none where it is stuck
abbrev pub neutral_report_after : World → Image → ℕ → Option Report
neutral_report_after world image k = option_map report_of_config (config_after world image k)
