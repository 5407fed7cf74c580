-- Meaning: where two runs part: the least number of steps after which they aren't the same. docs/HOST.md, "Runs".
use Rattle.std.specs.Prelude.{ℕ, ◌<◌, ◌≤◌, Option, Some, None}
use Rattle.pe_image.specs.declared.image.Image.{Image}
use Rattle.host_model.specs.Placements.{own_placement}
use Rattle.host_model.specs.World.{World}
use Rattle.host_model.specs.Runs.{SameRun, run_of}

-- the runs at both widths are the same after so many steps, under the placements that this project takes
abbrev pub OwnRunsSame : Image → World → ℕ → Type 0
OwnRunsSame image world k =
    SameRun world (own_placement 4 world) (run_of 4 world (own_placement 4 world) image k) (own_placement 8 world)
    (run_of 8 world (own_placement 8 world) image k)

-- The least number of steps, up to a limit, after which they aren't; none where they are after each.
pub data DifferAt (image : Image) (world : World) (limit : ℕ) : Option ℕ → Type 0 where
  nowhere : ((k : ℕ) → k ≤ limit → OwnRunsSame image world k) → DifferAt image world limit None
  first : (k : ℕ) → k ≤ limit → ¬ OwnRunsSame image world k → ((j : ℕ) → j < k → OwnRunsSame image world j)
      → DifferAt image world limit (Some k)
