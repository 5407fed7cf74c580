-- Meaning: where two runs of a pair part: the least number of steps after which they aren't the same. docs/PAIRS.md, "Runs".
use Rattle.std.specs.Prelude.{ℕ, ◌<◌, ◌≤◌, Option, Some, None}
use Rattle.pair_model.specs.PairReports.{own_placements}
use Rattle.pair_model.specs.PairRuns.{SamePair}
use Rattle.pair_model.specs.Pairs.{Both, PairWorld}
use Rattle.pe_image.specs.declared.image.Image.{Image}
use Rattle.pair_host.specs.PairReported.{own_pair_run}

-- the runs of a pair at both widths are the same after so many steps, under the placements that this project takes
abbrev pub OwnPairsSame : Both Image → PairWorld → ℕ → Type 0
OwnPairsSame images world k =
    SamePair world (own_placements 4 world) (own_pair_run 4 images world k) (own_placements 8 world) (own_pair_run 8 images world k)

-- The least number of steps, up to a limit, after which they aren't; none where they are after each.
pub data PairsDifferAt (images : Both Image) (world : PairWorld) (limit : ℕ) : Option ℕ → Type 0 where
  nowhere : ((k : ℕ) → k ≤ limit → OwnPairsSame images world k) → PairsDifferAt images world limit None
  first : (k : ℕ) → k ≤ limit → ¬ OwnPairsSame images world k → ((j : ℕ) → j < k → OwnPairsSame images world j)
      → PairsDifferAt images world limit (Some k)
