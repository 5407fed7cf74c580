-- For proofs: how the objects of a run's memory are found one after the other, from the first base on. docs/HOST.md, "Memory".
use Rattle.std.specs.Prelude.{◌≡◌, ℕ, ◌+◌, ◌*◌, ◌<◌, ◌≤◌, List, [], ◌∷◌, ⊤}
use Rattle.std.specs.List.{find}
use Rattle.ebc_width.specs.Ranges.{Range, covers}
use Rattle.object_memory.specs.Memory.{padded}
use Rattle.host_model.specs.RunState.{RunState}
use Rattle.host_model.specs.World.{World}
use Rattle.twin_run.specs.Runner.{IsRunner}
use Rattle.twin_run.specs.declared.runner.Runner.{Runner}
use Rattle.run_trace.specs.Addresses.{located}

-- A runner is the runner of some run, whose image has bytes.
pub record RunsImage (w : ℕ) (x : Runner w) : Type 0 where
  pub world : World
  pub state : RunState
  pub is : IsRunner w world x state
  pub bytes : 0 < world.image_size

-- Objects lie one after the other from an address on, each with its padding and gap, and none is empty.
abbrev pub AreInRow : ℕ → List Range → Type 0
AreInRow base [] = ⊤
AreInRow base (r ∷ rs) = (r.base ≡ base) × ((0 < r.size) × AreInRow (base + padded r.size) rs)

-- Of these objects those that don't begin before a base are still to be looked at, of which the first has this number. None of the
-- others has the byte at x, and each takes 16 bytes at least.
pub record IsWalk (objects : List Range) (x base object : ℕ) : Type 0 where
  pub few : 16 * object ≤ base
  pub coming : List Range
  pub row : AreInRow base coming
  pub found : located 0 objects x ≡ located object coming x
  pub holder : (a : ℕ) → base ≤ a → find (covers a 1) objects ≡ find (covers a 1) coming
