-- For proofs: runners on their way along runs, and what two of them compare. docs/HOST.md, "Runs".
use Rattle.std.specs.Prelude.{◌≡◌, ◌↔◌, ℕ, ◌<◌, ◌≤◌, Bool, IsTrue, drop}
use Rattle.note_types.specs.declared.ending.Ending.TheVariants.{Running}
use Rattle.pe_image.specs.declared.image.Image.{Image}
use Rattle.host_model.specs.HostSteps.{spot_of}
use Rattle.host_model.specs.Placements.{own_placement}
use Rattle.host_model.specs.RunState.{RunState}
use Rattle.host_model.specs.Runs.{SameRun}
use Rattle.host_model.specs.World.{World}
use Rattle.twin_run.specs.Differs.{OwnRunsSame}
use Rattle.twin_run.specs.Reported.{own_run}
use Rattle.twin_run.specs.Runner.{IsRunner, steps_on}
use Rattle.twin_run.specs.declared.runner.Runner.{Runner}

-- A runner is where the run is after so many steps, which it counted and which are no more than a limit, and the run goes on before
-- each of them.
pub record IsOnItsWay (w : ℕ) (image : Image) (world : World) (limit steps : ℕ) (x : Runner w) : Type 0 where
  pub most : steps ≤ limit
  pub goes_on : (j : ℕ) → j < steps → (own_run w image world j).ending ≡ Running
  pub there : IsRunner w world x (own_run w image world steps)
  pub taken : x.taken ≡ steps

-- Two runs, at 4 and at 8 bytes, are the same but for their first so many events, of which nothing is said.
pub record IsSameButFirst (world : World) (told : ℕ) (r s : RunState) : Type 0 where
  pub spot : spot_of world (own_placement 4 world) r.machine ≡ spot_of world (own_placement 8 world) s.machine
  pub ending : r.ending ≡ s.ending
  pub events : drop told r.trace ≡ drop told s.trace

-- Two runs, at 4 and at 8 bytes, are the same before each of so many steps.
abbrev pub AreSameBefore : World → ℕ → RunState → RunState → Type 0
AreSameBefore world n r s =
    (j : ℕ) → j < n
    → SameRun world (own_placement 4 world) (steps_on 4 world j r) (own_placement 8 world) (steps_on 8 world j s)

-- Two runners, at 4 and at 8 bytes, have taken as many steps; the runs are the same before the last of them, and it is known whether
-- they are after it.
pub record AreInStep (image : Image) (world : World) (limit steps : ℕ) (x : Runner 4) (y : Runner 8) (same : Bool) : Type 0 where
  pub at4 : IsOnItsWay 4 image world limit steps x
  pub at8 : IsOnItsWay 8 image world limit steps y
  pub before : (j : ℕ) → j < steps → OwnRunsSame image world j
  pub now : IsTrue same ↔ OwnRunsSame image world steps
