-- For proofs: the laws of the host's steps at a width: what the host sees, each of its plans, its step, the serving of a
-- thunk cell, and the start. They say that a run goes on standing for the configuration of the neutral machine.
-- docs/HOST.md, "Laws of its steps".
use Rattle.std.specs.Prelude.{◌≡◌, ℕ, ◌+◌, ◌≤◌, ◌<◌, Some, None, slice_get}
use Rattle.std.specs.Option.{option_map_or}
use Rattle.ebc_width.specs.Width.{IsWidth}
use Rattle.neutral_machine.specs.Stands.{MachineStands, Stands}
use Rattle.neutral_machine.specs.WorldFits.{WorldFits}
use Rattle.note_types.specs.Concrete.{Concrete, stored}
use Rattle.note_types.specs.declared.notes.Thunk.{Thunk}
use Rattle.neutral_machine.specs.Config.{Config}
use Rattle.host_model.specs.HostPlans.{View, Plan, Names}
use Rattle.host_model.specs.HostSteps as width
use Rattle.neutral_machine.specs.Layout.{total}
use Rattle.neutral_machine.specs.NeutralHost as neutral
use Rattle.neutral_machine.specs.NeutralRuns.{neutral_start}
use Rattle.host_model.specs.Placements.{Placement, IsPlacement, stack_bytes, thunk_at}
use Rattle.host_model.specs.RunState.{RunState}
use Rattle.host_model.specs.Start.{run_start}
use Rattle.host_model.specs.Values.{Cells}
use Rattle.host_model.specs.World.{World}
use Rattle.host_laws.specs.PlanFits.{PlanFits}
use Rattle.host_laws.specs.ScriptGiven.{ScriptGiven}
use Rattle.host_laws.specs.StartGiven.{StaticsShow, StartGiven}
use Rattle.host_laws.specs.ThunkLoaded.{ThunkLoaded}

-- A placement is valid at a width, in a world that is as the rules on an image have it.
pub record IsPlaced (w : ℕ) (world : World) (P : Placement) : Type 0 where
  pub width : IsWidth w
  pub world_fits : WorldFits world
  pub placement : IsPlacement w world P

-- A run stands so for a configuration, whose frames fit the stack.
pub record StandsWithin (w : ℕ) (world : World) (P : Placement) (mapped : ℕ → ℕ) (a : Config) (r : RunState) : Type 0 where
  pub placed : IsPlaced w world P
  pub room : total w a.frames ≤ stack_bytes w world.notes
  pub stands : Stands w world P mapped a r

-- What the host sees of a configuration it sees of each run that stands for it.
abbrev pub ViewsAlike : Type 0
ViewsAlike =
    (w : ℕ) (world : World) (P : Placement) (mapped : ℕ → ℕ) (a : Config) (r : RunState) → StandsWithin w world P mapped a r
    → (v : View) → neutral.host_view world a a.spot ≡ Some v → width.host_view w world P r ≡ Some v

-- After each plan that fits, the run stands for what the plan leaves of the configuration.
abbrev pub PlansKeepStanding : Type 0
PlansKeepStanding =
    (w : ℕ) (world : World) (P : Placement) (mapped : ℕ → ℕ) (a : Config) (r : RunState) → StandsWithin w world P mapped a r
    → (p : Plan) → PlanFits w world P a r p → Stands w world P mapped (neutral.performed world a p) (width.performed w world P r p)

-- So it does after the host's step, where the neutral machine isn't stuck in it, the script is as its reader gives it, and the
-- frames that the step leaves fit the stack.
abbrev pub HostStepKeepsStanding : Type 0
HostStepKeepsStanding =
    (w : ℕ) (world : World) (P : Placement) (mapped : ℕ → ℕ) (a b : Config) (r : RunState) → StandsWithin w world P mapped a r
    → ScriptGiven world.notes world.script → total w b.frames ≤ stack_bytes w world.notes
    → neutral.neutral_host_step world a ≡ Some b → Stands w world P mapped b (width.host_step w world P r)

-- The host sees the function that the next thunk cell names.
abbrev pub ThunkIsSeen : Type 0
ThunkIsSeen =
    (w : ℕ) (world : World) (P : Placement) (mapped : ℕ → ℕ) (a : Config) (s : Concrete) → IsPlaced w world P
    → MachineStands w world P mapped None a s
    → (i : ℕ) (t : Thunk) → slice_get world.notes.thunk i ≡ Some t → a.made ≤ i → ThunkLoaded world mapped t
    → width.thunk_view world P s (P.image + t.place) ≡ Names t.function

-- Once it is served, the machine stands for the configuration with one thunk more.
abbrev pub ThunkKeepsStanding : Type 0
ThunkKeepsStanding =
    (w : ℕ) (world : World) (P : Placement) (mapped : ℕ → ℕ) (a : Config) (s : Concrete) → IsPlaced w world P
    → total w a.frames ≤ stack_bytes w world.notes → MachineStands w world P mapped None a s
    → (t : Thunk) → slice_get world.notes.thunk a.made ≡ Some t → ThunkLoaded world mapped t
    → MachineStands w world P mapped None (record a { made = a.made + 1 })
    (option_map_or (λ u. u) (stored s (P.image + t.place) w (thunk_at world.notes P t.function)) s)

-- A run at its start stands for the neutral machine at its start.
abbrev pub StartStands : Type 0
StartStands =
    (w : ℕ) (world : World) (P : Placement) (mapped : ℕ → ℕ) (statics : Cells) → IsPlaced w world P → ((x : ℕ) → mapped x < 256)
    → StaticsShow w world P mapped statics → StartGiven w world statics
    → Stands w world P mapped (neutral_start world statics) (run_start w world P mapped)
