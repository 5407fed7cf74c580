-- For proofs: the run of two images on one host in the neutral machine, by the rules of a pair at a width. docs/PAIRS.md, "The
-- neutral pair".
use Rattle.std.specs.Prelude.{ℕ, zero, suc, Option, Some}
use Rattle.std.specs.Option.{option_and_then, option_map}
use Rattle.host_model.specs.Progress.{NoCall}
use Rattle.host_model.specs.World.{World}
use Rattle.neutral_machine.specs.Config.{Config, with_call, with_value}
use Rattle.neutral_machine.specs.NeutralHost.{host_view, objects_at, performed}
use Rattle.neutral_machine.specs.NeutralImage.{static_cells}
use Rattle.neutral_machine.specs.NeutralRun.{neutral_instruction}
use Rattle.neutral_machine.specs.NeutralRuns.{neutral_start, neutral_step}
use Rattle.neutral_machine.specs.Written.{result_value}
use Rattle.note_types.specs.declared.ending.Ending.TheVariants.{Running}
use Rattle.note_types.specs.declared.spot.Spot.{Spot}
use Rattle.note_types.specs.declared.types.Ty.{Ty}
use Rattle.note_types.specs.declared.value.Value.{Value}
use Rattle.pair_model.specs.PairReports.{PairReport}
use Rattle.pair_model.specs.Pairs.{Both, PairWorld, Side, OfA, OfB, PairState, SideOf, running_side}
use Rattle.pair_model.specs.Rules.{pair_start, pair_step}
use Rattle.pe_image.specs.declared.image.Image.{Image}

-- ---- a side

-- A's configuration once its bound call has its reply
unfoldable pub neutral_bound_reply : World → Config → Option Ty → Value → Config
neutral_bound_reply world a kind v =
    record a {
      registers = with_value a.registers 7 (result_value world.notes (objects_at world a) kind v);
      frames = with_call NoCall a.frames;
    }

-- an image's run in the neutral machine
abbrev pub neutral_side : World → Image → SideOf Config
neutral_side world image = record {
  view = λ a. host_view world a a.spot;
  step = neutral_step world (neutral_instruction world image);
  performed = performed world;
  replied = neutral_bound_reply world;
  script = λ a. a.script;
  trace = λ a. a.trace;
  ending = λ a. a.ending;
  resting = λ a. record a { ending = Running };
}

abbrev pub neutral_sides : PairWorld → Both Image → Both (SideOf Config)
neutral_sides world images = record { a = neutral_side world.a images.a; b = neutral_side world.b images.b }

-- ---- runs

-- a step of a pair in the neutral machine; none where that is stuck
abbrev pub neutral_pair_step : PairWorld → Both Image → PairState Config → Option (PairState Config)
neutral_pair_step world images p = pair_step world (neutral_sides world images) p

-- the run of a pair after so many steps
unfoldable pub neutral_pair_run : PairWorld → Both Image → ℕ → Option (PairState Config)
neutral_pair_run world images zero =
    Some (pair_start (neutral_sides world images) (neutral_start world.a (static_cells world.a images.a))
    (neutral_start world.b (static_cells world.b images.b)))
neutral_pair_run world images (suc k) = option_and_then (neutral_pair_step world images) (neutral_pair_run world images k)

-- ---- what it shows

-- where a side stands
abbrev pub neutral_side_spot : PairState Config → Side → Spot
neutral_side_spot p OfA = p.a.spot
neutral_side_spot p OfB = p.b.spot

-- where the side stands that runs
abbrev pub neutral_pair_spot : PairState Config → Spot
neutral_pair_spot p = neutral_side_spot p (running_side p.stage)

-- what a state of a run shows
abbrev pub neutral_pair_report_of : PairState Config → PairReport
neutral_pair_report_of p = record {
  side = running_side p.stage;
  spot = neutral_pair_spot p;
  trace = p.trace;
  ending = p.ending;
}

-- what the run shows after so many steps; none where it is stuck
abbrev pub neutral_pair_report_after : PairWorld → Both Image → ℕ → Option PairReport
neutral_pair_report_after world images k = option_map neutral_pair_report_of (neutral_pair_run world images k)
