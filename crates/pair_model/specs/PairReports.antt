-- Meaning: what a run of two images shows: which side runs, where it stands, the events, and how the run ended.
-- docs/PAIRS.md, "Runs".
use Rattle.std.specs.Prelude.{ℕ, List}
use Rattle.host_model.specs.Placements.{Placement, own_placement}
use Rattle.host_model.specs.RunState.{RunState}
use Rattle.note_types.specs.declared.ending.Ending.{Ending}
use Rattle.note_types.specs.declared.spot.Spot.{Spot}
use Rattle.pe_image.specs.declared.image.Image.{Image}
use Rattle.pair_model.specs.PairRuns.{pair_run, pair_spot}
use Rattle.pair_model.specs.Pairs.{Both, PairWorld, Side, PairState, running_side}
use Rattle.pair_model.specs.declared.event.PairEvent.{PairEvent}

pub record PairReport : Type 0 where
  pub side : Side
  pub spot : Spot
  pub trace : List PairEvent
  pub ending : Ending

-- what a state of a run shows
abbrev pub pair_report_of : PairWorld → Both Placement → PairState RunState → PairReport
pair_report_of world P p = record {
  side = running_side p.stage;
  spot = pair_spot world P p;
  trace = p.trace;
  ending = p.ending;
}

-- the placement that this project takes, for each image
abbrev pub own_placements : ℕ → PairWorld → Both Placement
own_placements w world = record { a = own_placement w world.a; b = own_placement w world.b }

-- what a run at a width shows after so many steps, under these placements
abbrev pub pair_report_after : ℕ → PairWorld → Both Image → ℕ → PairReport
pair_report_after w world images k =
    pair_report_of world (own_placements w world) (pair_run w world (own_placements w world) images k)
