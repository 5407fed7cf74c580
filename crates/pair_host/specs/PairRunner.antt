-- For proofs: when a runner of a pair is at a state of a pair's run. docs/PAIRS.md, "The state" and "Runs".
use Rattle.std.specs.Prelude.{◌≡◌, ℕ, ◌+◌, ◌<◌, ◌≤◌, List, [], ◌∷◌, length, map, Option, Some, None, ⊤, vec_capacity}
use Rattle.std.specs.Option.{option_map_or}
use Rattle.note_types.specs.Records.{IsNotes}
use Rattle.note_types.specs.declared.ending.Ending.{Ending}
use Rattle.note_types.specs.declared.ending.Ending.TheVariants.{Running}
use Rattle.note_types.specs.declared.event.Event.{Event}
use Rattle.note_types.specs.declared.notes.Notes.{Notes}
use Rattle.note_types.specs.declared.seen.Seen.{Seen}
use Rattle.host_model.specs.HostPlans.{function_params, signature_params, site_of}
use Rattle.host_model.specs.RunState.{RunState}
use Rattle.host_model.specs.Runs.{world_of}
use Rattle.host_model.specs.Scripts.{IsScript}
use Rattle.host_model.specs.World.{World}
use Rattle.pair_model.specs.Binds.{AllAgree, BoundCall}
use Rattle.pair_model.specs.Pairs.{Both, PairWorld, PairState, Side, OfA, OfB, running_side}
use Rattle.pair_model.specs.Pairs as pairs
use Rattle.pair_model.specs.declared.bind.Bind.{Bind}
use Rattle.pe_image.specs.Images.{IsImage}
use Rattle.pe_image.specs.Mapped.{AreBytes}
use Rattle.pe_image.specs.declared.image.Image.{Image}
use Rattle.twin_run.specs.Bound.{Rests}
use Rattle.twin_run.specs.Runner.{IsRunner}
use Rattle.twin_run.specs.declared.runner.Runner.{Runner}
use Rattle.pair_host.specs.PairReported.{both_images, pair_about}
use Rattle.pair_host.specs.declared.driver.Driver.{Driver}
use Rattle.pair_host.specs.declared.stage.Side.{Side as CodeSide}
use Rattle.pair_host.specs.declared.stage.Side.TheVariants as side
use Rattle.pair_host.specs.declared.stage.Stage.{Stage}
use Rattle.pair_host.specs.declared.stage.Stage.TheVariants as stage
use Rattle.pair_host.specs.declared.pair_runner.PairRunner.{PairRunner}

-- ---- what it is about

-- an image with its notes and script is as these are read
pub record IsDriver (d : Driver) : Type 0 where
  pub image : IsImage d.image.now
  pub bytes : AreBytes d.image.now
  pub notes : IsNotes d.notes.now
  pub script : IsScript d.notes.now d.script.now

-- what a run of it is about
abbrev pub world_for : Driver → World
world_for d = world_of d.image.now d.notes.now d.script.now

-- what a run of a pair is about
abbrev pub pair_world : (a b : Driver) → List Bind → PairWorld
pair_world a b binds = pair_about (world_for a) (world_for b) binds

-- the images of both
abbrev pub images_for : (a b : Driver) → Both Image
images_for a b = both_images a.image.now b.image.now

-- ---- the state

-- a run with these events in place of its own
abbrev pub told : List Event → RunState → RunState
told t r = record r { trace = t }

-- a side's run as its runner has it: with the events of the runner's own steps alone
abbrev pub own : {w : ℕ} → Runner w → RunState → RunState
own x r = told x.host.trace.items r

-- how far the code is
abbrev pub stage_of : Stage → pairs.Stage
stage_of stage.ProviderRuns = pairs.ProviderRuns
stage_of stage.CallerRuns = pairs.CallerRuns
stage_of (stage.CallTaken g f args) = pairs.CallTaken g f (map (λ (s : Seen). s.value) args)
stage_of (stage.CallRuns g) = pairs.CallRuns g
stage_of (stage.CallReturned g v) = pairs.CallReturned g v

-- the side that the code means
abbrev pub side_of : CodeSide → Side
side_of side.A = OfA
side_of side.B = OfB

-- what holds of the provider's runner while it runs, and while the caller does
abbrev pub IsProvider : (w : ℕ) → World → Runner w → RunState → Ending → Side → Type 0
IsProvider w world x r e OfB = IsRunner w world x (own x r)
IsProvider w world x r e OfA = e ≡ Running → Rests w world x (own x r)

-- a call that was taken can be entered: the function is there, and has as many parameters
abbrev pub CanBeEntered : World → pairs.Stage → Type 0
CanBeEntered world (pairs.CallTaken g f values) =
    (f < length world.notes.function) × (length values ≡ length (function_params world.notes f))
CanBeEntered world _ = ⊤

-- A bound call from a place can be taken: it is by the signature of the place's site, and its function is there and has as many
-- parameters.
pub record CanBeCalled (a b : Notes) (place : ℕ) (c : BoundCall) : Type 0 where
  pub site : site_of a place ≡ Some c.signature
  pub there : c.function < length b.function
  pub each : length (signature_params a c.signature) ≡ length (function_params b c.function)

-- the runs go on that the stage needs: B's while it runs, and A's once B's own run is over
abbrev pub SidesGoOn : pairs.Stage → (a b : Ending) → Type 0
SidesGoOn pairs.ProviderRuns a b = b ≡ Running
SidesGoOn (pairs.CallRuns g) a b = (a ≡ Running) × (b ≡ Running)
SidesGoOn _ a b = a ≡ Running

-- What a runner of a pair holds is a state of the pair's run.
pub record IsPair (w : ℕ) (world : PairWorld) (x : PairRunner w) (p : PairState RunState) : Type 0 where
  pub a : IsRunner w world.a x.a (own x.a p.a)
  pub b : IsProvider w world.b x.b p.b p.ending (running_side p.stage)
  pub stage : stage_of x.stage ≡ p.stage
  pub trace : x.trace.items ≡ p.trace
  pub ending : x.ending ≡ p.ending
  pub goes_on : p.ending ≡ Running → SidesGoOn p.stage p.a.ending p.b.ending
  pub enters : CanBeEntered world.b p.stage

-- A runner of a pair is that of some run of these two.
pub record PairRuns (w : ℕ) (a b : Driver) (binds : List Bind) (x : PairRunner w) : Type 0 where
  pub state : PairState RunState
  pub is : IsPair w (pair_world a b binds) x state

-- what a step asks of the two: both were read, and the binds agree
pub record ArePaired (a b : Driver) (binds : List Bind) : Type 0 where
  pub caller : IsDriver a
  pub provider : IsDriver b
  pub agree : AllAgree a.notes.now b.notes.now binds

-- what a step gives, or the pair as it was where it gives none
abbrev pub stepped : Option (PairState RunState) → PairState RunState → PairState RunState
stepped o p = option_map_or (λ q. q) o p

-- a thing that may be none, as a list
abbrev pub listed : {A : Type 0} → Option A → List A
listed None = []
listed (Some x) = x ∷ []

-- There is room for so many events more.
abbrev pub HasPairRoom : {w : ℕ} → PairRunner w → ℕ → Type 0
HasPairRoom x n = length x.trace.items + n ≤ vec_capacity x.trace
