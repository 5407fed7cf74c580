-- Meaning: what a run shows: where it stands, the events, and how it ended. docs/HOST.md, "Runs".
use Rattle.std.specs.Prelude.{ℕ, List}
use Rattle.note_types.specs.declared.ending.Ending.{Ending}
use Rattle.note_types.specs.declared.event.Event.{Event}
use Rattle.note_types.specs.declared.spot.Spot.{Spot}
use Rattle.pe_image.specs.declared.image.Image.{Image}
use Rattle.host_model.specs.HostSteps.{spot_of}
use Rattle.host_model.specs.Placements.{Placement, own_placement}
use Rattle.host_model.specs.RunState.{RunState}
use Rattle.host_model.specs.World.{World}
use Rattle.host_model.specs.Runs.{run_of}

pub record Report : Type 0 where
  pub spot : Spot
  pub trace : List Event
  pub ending : Ending

-- what a state of a run shows
abbrev pub report_of : World → Placement → RunState → Report
report_of world P r = record { spot = spot_of world P r.machine; trace = r.trace; ending = r.ending }

-- what a run at a width shows after so many steps, under the placement that this project takes
abbrev pub report_after : ℕ → World → Image → ℕ → Report
report_after w world image k = report_of world (own_placement w world) (run_of w world (own_placement w world) image k)
