-- For proofs: Whole runs of the neutral machine: where they start, and a step, which is the host's or an instruction's.
-- docs/HOST.md, "The start" and "Steps".
use Rattle.std.specs.Prelude.{ℕ, zero, suc, Bool, true, false, [], length, Option, Some, if◌then◌else◌}
use Rattle.std.specs.Option.{option_and_then}
use Rattle.host_model.specs.HostPlans.{host_turn, is_due, filling, function_params}
use Rattle.host_model.specs.World.{World}
use Rattle.host_model.specs.Objects.{made_objects}
use Rattle.host_model.specs.Progress.{script_start, one_instruction}
use Rattle.note_types.specs.declared.ending.Ending.{Ending}
use Rattle.note_types.specs.declared.ending.Ending.TheVariants.{Running}
use Rattle.note_types.specs.declared.spot.Spot.{Spot}
use Rattle.note_types.specs.declared.spot.Spot.TheVariants as spot
use Rattle.neutral_machine.specs.Config.{Config, call_under_way}
use Rattle.neutral_machine.specs.NeutralHost.{after_stores, with_objects, param_slots, entered, neutral_host_step}
use Rattle.host_model.specs.Values.{Cells, null}

-- ---- the start

-- what all cells hold before the entry function is entered, where those of the static objects hold this
unfoldable pub start_cells : World → Cells → Cells
start_cells world statics =
    let first = length world.notes.statics in
    let made = made_objects world.notes world.script 0 in
    after_stores world.notes made [] (filling world.notes first world.script.object) (with_objects world.notes made first statics)

-- the configuration before the entry function is entered
abbrev pub bare_config : World → Cells → Config
bare_config world statics =
    record {
      registers = λ r. null;
      c = false;
      spot = spot.Gate;
      cells = start_cells world statics;
      made = 0;
      frames = [];
      script = script_start;
      trace = [];
      ending = Running;
    }

-- the configuration before the first step: inside the entry function, with the script's arguments
unfoldable pub neutral_start : World → Cells → Config
neutral_start world statics =
    entered false world (bare_config world statics) world.notes.entry
    (param_slots world.notes (made_objects world.notes world.script 0) (function_params world.notes world.notes.entry) world.script.args)

-- ---- steps

-- at the gate
abbrev pub is_gate : Spot → Bool
is_gate spot.Gate = true
is_gate _ = false

-- a step of a configuration that runs: the host's, or an instruction's, which counts
abbrev pub running_step : World → (Config → Option Config) → Config → Option Config
running_step world instruction a =
    if host_turn (is_gate a.spot) (call_under_way a.frames) (is_due world.script a.script) then neutral_host_step world a
    else instruction (record a { script = one_instruction a.script })

abbrev pub step_if : World → (Config → Option Config) → Config → Ending → Option Config
step_if world instruction a Running = running_step world instruction a
step_if world instruction a _ = Some a

-- a step of the neutral machine, of which this is what an instruction does; none where it is stuck
unfoldable pub neutral_step : World → (Config → Option Config) → Config → Option Config
neutral_step world instruction a = step_if world instruction a a.ending

-- the configuration after so many steps
unfoldable pub neutral_run : World → (Config → Option Config) → Config → ℕ → Option Config
neutral_run world instruction start zero = Some start
neutral_run world instruction start (suc k) = option_and_then (neutral_step world instruction) (neutral_run world instruction start k)
