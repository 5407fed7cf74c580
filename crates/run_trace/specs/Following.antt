-- For proofs: runs that are followed, step by step. docs/TRACE.md, "The state at the end".
use Rattle.std.specs.Prelude.{◌≡◌, ◌≢◌, ℕ, ◌++◌, List}
use Rattle.host_model.specs.Placements.{own_placement}
use Rattle.host_model.specs.RunState.{RunState}
use Rattle.host_model.specs.Runs.{run_step, world_of}
use Rattle.host_model.specs.World.{World}
use Rattle.note_types.specs.declared.ending.Ending.TheVariants.{Running}
use Rattle.pe_image.specs.Images.{IsImage}
use Rattle.twin_run.specs.Reported.{own_run}
use Rattle.twin_run.specs.Runner.{IsRunner}
use Rattle.twin_run.specs.declared.runner.Runner.{Runner}
use Rattle.run_trace.specs.Calls.{open_calls}
use Rattle.run_trace.specs.Traces.{step_lines}
use Rattle.run_trace.specs.declared.telling.Program.{Program}
use Rattle.run_trace.specs.declared.traced.TracedRun.{TracedRun}

-- ---- a step

-- A runner is where the run is after the next step.
abbrev pub Steps : (w : ℕ) → Program → (old new : Runner w) → Type 0
Steps w p old new =
    (world : World) (r : RunState) → world.notes ≡ p.notes.now → world.script ≡ p.script.now → IsRunner w world old r
    → IsRunner w world new (run_step w world (own_placement w world) r)

-- A text has the lines of the next step, as that of this number, behind an old text.
abbrev pub TellsStep : (w : ℕ) → Program → ℕ → Runner w → (old new : List ℕ) → Type 0
TellsStep w p number x old new =
    (world : World) (r : RunState) → IsImage p.image.now → world.image_size ≡ p.image.now.size → world.notes ≡ p.notes.now
    → world.script ≡ p.script.now → IsRunner w world x r
    → new ≡ old ++ step_lines w world number r (run_step w world (own_placement w world) r)

-- ---- a run

abbrev pub world_under : Program → World
world_under p = world_of p.image.now p.notes.now p.script.now

-- A run has ended after so many steps.
abbrev pub HasEnded : (w : ℕ) → Program → ℕ → Type 0
HasEnded w p taken = (own_run w p.image.now (world_under p) taken).ending ≢ Running

-- A run is where the one at its width is after so many steps, with the CALLs that are open then.
pub record IsAfter (w : ℕ) (p : Program) (taken : ℕ) (x : TracedRun w) : Type 0 where
  pub there : IsRunner w (world_under p) x.runner (own_run w p.image.now (world_under p) taken)
  pub calls : x.calls.items ≡ open_calls w p.image.now (world_under p) taken
