-- Meaning: what a run of two images shows: so many steps, until it ends or up to a limit, and where the side that runs then stands,
-- the events of both and how the run ended. docs/PAIRS.md, "Runs".
use Rattle.std.specs.Prelude.{◌≡◌, ◌≢◌, ◌⊎◌, ℕ, ◌<◌, ◌≤◌, List}
use Rattle.host_model.specs.RunState.{RunState}
use Rattle.host_model.specs.World.{World}
use Rattle.note_types.specs.declared.ending.Ending.TheVariants.{Running}
use Rattle.pair_model.specs.PairReports.{own_placements, pair_report_after}
use Rattle.pair_model.specs.PairRuns.{pair_run}
use Rattle.pair_model.specs.Pairs.{Both, PairState, PairWorld}
use Rattle.pair_model.specs.declared.bind.Bind.{Bind}
use Rattle.pe_image.specs.declared.image.Image.{Image}
use Rattle.pair_host.specs.declared.reports.PairRun.{PairRun}

-- the images of both
abbrev pub both_images : (a b : Image) → Both Image
both_images a b = record { a = a; b = b }

-- what a run of a pair is about, where a run of each image is about this
abbrev pub pair_about : (a b : World) → List Bind → PairWorld
pair_about a b binds = record { a = a; b = b; binds = binds }

-- the run of a pair at a width after so many steps, under the placements that this project takes
abbrev pub own_pair_run : ℕ → Both Image → PairWorld → ℕ → PairState RunState
own_pair_run w images world k = pair_run w world (own_placements w world) images k

-- A run of a pair takes so many steps, until it ends or up to a limit.
pub record PairStepsTaken (w : ℕ) (images : Both Image) (world : PairWorld) (limit steps : ℕ) : Type 0 where
  -- they are no more than the limit
  pub most : steps ≤ limit
  -- the run goes on before each of them
  pub goes_on : (j : ℕ) → j < steps → (own_pair_run w images world j).ending ≡ Running
  -- after them it has ended, or the limit is reached
  pub done : ((own_pair_run w images world steps).ending ≢ Running) ⊎ (steps ≡ limit)

-- A report tells how many steps a run of a pair takes up to a limit, and what it shows after them.
pub record IsPairReport (w : ℕ) (images : Both Image) (world : PairWorld) (limit : ℕ) (x : PairRun) : Type 0 where
  pub steps : PairStepsTaken w images world limit x.steps
  pub spot : x.spot ≡ (pair_report_after w world images x.steps).spot
  pub ending : x.ending ≡ (pair_report_after w world images x.steps).ending
  pub events : x.events.items ≡ (pair_report_after w world images x.steps).trace
