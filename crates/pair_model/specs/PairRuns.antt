-- Meaning: the run of two images on one host at a width of w bytes, where each image has a memory, a native area, a stack and
-- frames for itself; and when two such runs are the same. docs/PAIRS.md, "Runs".
use Rattle.std.specs.Prelude.{◌≡◌, ℕ, zero, suc, Option, Some, None}
use Rattle.std.specs.Option.{option_map_or}
use Rattle.host_model.specs.HostSteps.{host_view, objects_at, performed, spot_of, with_call, written_number}
use Rattle.host_model.specs.Placements.{Placement}
use Rattle.host_model.specs.Progress.{NoCall}
use Rattle.host_model.specs.RunState.{RunState}
use Rattle.host_model.specs.Runs.{run_step}
use Rattle.host_model.specs.Start.{run_start}
use Rattle.host_model.specs.World.{World}
use Rattle.note_types.specs.Concrete.{with_register}
use Rattle.note_types.specs.declared.ending.Ending.TheVariants.{Running}
use Rattle.note_types.specs.declared.spot.Spot.{Spot}
use Rattle.note_types.specs.declared.types.Ty.{Ty}
use Rattle.note_types.specs.declared.value.Value.{Value}
use Rattle.pe_image.specs.Mapped.{mapped}
use Rattle.pe_image.specs.declared.image.Image.{Image}
use Rattle.pair_model.specs.Pairs.{Both, PairWorld, Side, OfA, OfB, PairState, SideOf, running_side}
use Rattle.pair_model.specs.Rules.{pair_start, pair_step}

-- ---- a side

-- the number of a value that B returned, by the type of the result of A's signature: 0 where that has none
abbrev pub bound_number : ℕ → World → Placement → RunState → Option Ty → Value → ℕ
bound_number w world P r None v = 0
bound_number w world P r (Some t) v = written_number w world.notes P (objects_at world r) v

-- A's run once its bound call has its reply: R7 has the number, and no native call is under way
unfoldable pub bound_reply : ℕ → World → Placement → RunState → Option Ty → Value → RunState
bound_reply w world P r kind v =
    record r { machine = with_register r.machine 7 (bound_number w world P r kind v); hosts = with_call NoCall r.hosts }

-- an image's run at a width
abbrev pub side_at : ℕ → World → Placement → SideOf RunState
side_at w world P = record {
  view = host_view w world P;
  step = λ r. Some (run_step w world P r);
  performed = performed w world P;
  replied = bound_reply w world P;
  script = λ r. r.script;
  trace = λ r. r.trace;
  ending = λ r. r.ending;
  resting = λ r. record r { ending = Running };
}

abbrev pub sides_at : ℕ → PairWorld → Both Placement → Both (SideOf RunState)
sides_at w world P = record { a = side_at w world.a P.a; b = side_at w world.b P.b }

-- ---- runs

-- a step of a pair at a width, where no side is ever stuck
unfoldable pub pair_step_at : ℕ → PairWorld → Both Placement → PairState RunState → PairState RunState
pair_step_at w world P p = option_map_or (λ q. q) (pair_step world (sides_at w world P) p) p

-- the run of a pair of images, each of which is loaded at its base, after so many steps
unfoldable pub pair_run : ℕ → PairWorld → Both Placement → Both Image → ℕ → PairState RunState
pair_run w world P images zero =
    pair_start (sides_at w world P) (run_start w world.a P.a (mapped images.a P.a.image))
    (run_start w world.b P.b (mapped images.b P.b.image))
pair_run w world P images (suc k) = pair_step_at w world P (pair_run w world P images k)

-- ---- the same

-- where a side stands
abbrev pub side_spot : PairWorld → Both Placement → PairState RunState → Side → Spot
side_spot world P p OfA = spot_of world.a P.a p.a.machine
side_spot world P p OfB = spot_of world.b P.b p.b.machine

-- where the side stands that runs
abbrev pub pair_spot : PairWorld → Both Placement → PairState RunState → Spot
pair_spot world P p = side_spot world P p (running_side p.stage)

-- Two runs of a pair are the same: the same side runs, it stands at the same spot, they have the same events, and they end alike.
-- Each has placements of its own.
pub record SamePair (world : PairWorld) (P : Both Placement) (p : PairState RunState) (Q : Both Placement) (q : PairState RunState)
    : Type 0 where
  pub side : running_side p.stage ≡ running_side q.stage
  pub spot : pair_spot world P p ≡ pair_spot world Q q
  pub trace : p.trace ≡ q.trace
  pub ending : p.ending ≡ q.ending
