-- Meaning: what a run shows: so many steps, until it ends or up to a limit, and where it then stands, its events and how it ended.
-- docs/HOST.md, "Runs".
use Rattle.std.specs.Prelude.{◌≡◌, ◌≢◌, ◌⊎◌, ℕ, ◌<◌, ◌≤◌}
use Rattle.note_types.specs.declared.ending.Ending.TheVariants.{Running}
use Rattle.pe_image.specs.declared.image.Image.{Image}
use Rattle.host_model.specs.Placements.{own_placement}
use Rattle.host_model.specs.Reports.{report_after}
use Rattle.host_model.specs.RunState.{RunState}
use Rattle.host_model.specs.Runs.{run_of}
use Rattle.host_model.specs.World.{World}
use Rattle.twin_run.specs.declared.reports.RunReport.{RunReport}

-- the run at a width after so many steps, under the placement that this project takes
abbrev pub own_run : ℕ → Image → World → ℕ → RunState
own_run w image world k = run_of w world (own_placement w world) image k

-- A run takes so many steps, until it ends or up to a limit.
pub record StepsTaken (w : ℕ) (image : Image) (world : World) (limit steps : ℕ) : Type 0 where
  -- they are no more than the limit
  pub most : steps ≤ limit
  -- the run goes on before each of them
  pub goes_on : (j : ℕ) → j < steps → (own_run w image world j).ending ≡ Running
  -- after them it has ended, or the limit is reached
  pub done : ((own_run w image world steps).ending ≢ Running) ⊎ (steps ≡ limit)

-- A report tells how many steps a run takes up to a limit, and what it shows after them.
pub record IsReport (w : ℕ) (image : Image) (world : World) (limit : ℕ) (x : RunReport) : Type 0 where
  pub steps : StepsTaken w image world limit x.steps
  pub spot : x.spot ≡ (report_after w world image x.steps).spot
  pub ending : x.ending ≡ (report_after w world image x.steps).ending
  pub events : x.events.items ≡ (report_after w world image x.steps).trace
