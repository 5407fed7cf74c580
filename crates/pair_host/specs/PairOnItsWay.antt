-- For proofs: runners of a pair on their way along runs, and what two of them compare. docs/PAIRS.md, "Runs".
use Rattle.std.specs.Prelude.{◌≡◌, ◌↔◌, ℕ, ◌-◌, ◌<◌, ◌≤◌, Bool, IsTrue, drop}
use Rattle.note_types.specs.declared.ending.Ending.TheVariants.{Running}
use Rattle.host_model.specs.RunState.{RunState}
use Rattle.pair_model.specs.PairReports.{own_placements}
use Rattle.pair_model.specs.PairRuns.{pair_spot}
use Rattle.pair_model.specs.Pairs.{Both, PairState, PairWorld, running_side}
use Rattle.pe_image.specs.declared.image.Image.{Image}
use Rattle.pair_host.specs.PairDiffers.{OwnPairsSame}
use Rattle.pair_host.specs.PairReported.{own_pair_run}
use Rattle.pair_host.specs.PairRunner.{HasPairRoom, IsPair}
use Rattle.pair_host.specs.declared.pair_runner.PairRunner.{PairRunner}

-- A runner is where the run of a pair is after so many steps, which are no more than a limit; the run goes on before each of them, and
-- there is room for the events of the steps that are left.
pub record IsPairOnItsWay (w : ℕ) (images : Both Image) (world : PairWorld) (limit steps : ℕ) (x : PairRunner w) : Type 0 where
  pub most : steps ≤ limit
  pub goes_on : (j : ℕ) → j < steps → (own_pair_run w images world j).ending ≡ Running
  pub there : IsPair w world x (own_pair_run w images world steps)
  pub room : HasPairRoom x (limit - steps)

-- Two runs of a pair, at 4 and at 8 bytes, are the same but for their first so many events, of which nothing is said.
pub record ArePairsSameButFirst (world : PairWorld) (told : ℕ) (p q : PairState RunState) : Type 0 where
  pub side : running_side p.stage ≡ running_side q.stage
  pub spot : pair_spot world (own_placements 4 world) p ≡ pair_spot world (own_placements 8 world) q
  pub ending : p.ending ≡ q.ending
  pub events : drop told p.trace ≡ drop told q.trace

-- Two runners, at 4 and at 8 bytes, have taken as many steps; the runs are the same before the last of them, and it is known whether
-- they are after it.
pub record ArePairsInStep (images : Both Image) (world : PairWorld) (limit steps : ℕ) (x : PairRunner 4) (y : PairRunner 8) (same : Bool)
    : Type 0 where
  pub at4 : IsPairOnItsWay 4 images world limit steps x
  pub at8 : IsPairOnItsWay 8 images world limit steps y
  pub before : (j : ℕ) → j < steps → OwnPairsSame images world j
  pub now : IsTrue same ↔ OwnPairsSame images world steps
