-- Meaning: Whole runs at a width of w bytes: a step is the host's or the machine's, and a run that ended stays as it is.
-- docs/HOST.md, "Runs".
use Rattle.std.specs.Prelude.{◌≡◌, ℕ, zero, suc, nat_eq, if◌then◌else◌}
use Rattle.ebc_machine.specs.Step.{machine_step}
use Rattle.ebc_machine.specs.declared.StepEnd.{StepEnd}
use Rattle.ebc_machine.specs.declared.StepEnd.TheVariants as ends
use Rattle.note_types.specs.Concrete.{Concrete}
use Rattle.note_types.specs.declared.ending.Ending.{Ending}
use Rattle.note_types.specs.declared.ending.Ending.TheVariants.{Running, Raised}
use Rattle.note_types.specs.declared.notes.Notes.{Notes}
use Rattle.note_types.specs.declared.script.Script.{Script}
use Rattle.pe_image.specs.Mapped.{mapped}
use Rattle.pe_image.specs.declared.image.Image.{Image}
use Rattle.host_model.specs.HostPlans.{host_turn, is_due}
use Rattle.host_model.specs.HostSteps.{spot_of, call_place, call_under_way, with_call, host_step, thunk_view, thunk_made}
use Rattle.host_model.specs.Placements.{Placement}
use Rattle.host_model.specs.Progress.{one_instruction, Asked}
use Rattle.host_model.specs.RunState.{RunState}
use Rattle.host_model.specs.Start.{run_start}
use Rattle.host_model.specs.World.{World}

-- what a run of an image is about, under its notes and with a script
abbrev pub world_of : Image → Notes → Script → World
world_of image notes script = record { notes = notes; script = script; image_size = image.size }

-- ---- a step

-- the run after an instruction that the machine has ended so, with this machine state after it
unfoldable pub after_instruction : ℕ → World → Placement → RunState → StepEnd × Concrete → RunState
after_instruction w world P r (ends.Next, s) = record r { machine = s }
after_instruction w world P r (ends.Native target, s) = record r {
  machine = s;
  hosts = with_call (Asked (call_place world P r.machine.ip) target) r.hosts;
}
after_instruction w world P r (ends.Gate, s) = r
after_instruction w world P r (ends.MakeThunk address, s) = thunk_made w world P r s address (thunk_view world P s address)
after_instruction w world P r (ends.Raised e, s) = record r { ending = Raised e }

-- the run after one instruction, which counts
unfoldable pub instruction_step : ℕ → World → Placement → RunState → RunState
instruction_step w world P r = after_instruction w world P (record r { script = one_instruction r.script }) (machine_step w r.machine)

-- a step of a run that goes on: the host's, or the machine's
unfoldable pub running_step : ℕ → World → Placement → RunState → RunState
running_step w world P r =
    if host_turn (nat_eq r.machine.ip r.machine.gate) (call_under_way r.hosts) (is_due world.script r.script) then host_step w world P r
    else instruction_step w world P r

-- a step of a run, by how it ended
abbrev pub step_if : ℕ → World → Placement → RunState → Ending → RunState
step_if w world P r Running = running_step w world P r
step_if w world P r _ = r

unfoldable pub run_step : ℕ → World → Placement → RunState → RunState
run_step w world P r = step_if w world P r r.ending

-- ---- runs

-- the run after so many steps, where the image's places hold these bytes
unfoldable pub run_after : ℕ → World → Placement → (ℕ → ℕ) → ℕ → RunState
run_after w world P bytes zero = run_start w world P bytes
run_after w world P bytes (suc k) = run_step w world P (run_after w world P bytes k)

-- the run of an image, which is loaded at its base, after so many steps
abbrev pub run_of : ℕ → World → Placement → Image → ℕ → RunState
run_of w world P image k = run_after w world P (mapped image P.image) k

-- Two runs are the same: they stand at the same spot, they have the same events, and they end alike. Each has a placement of
-- its own.
pub record SameRun (world : World) (P : Placement) (r : RunState) (Q : Placement) (s : RunState) : Type 0 where
  pub spot : spot_of world P r.machine ≡ spot_of world Q s.machine
  pub trace : r.trace ≡ s.trace
  pub ending : r.ending ≡ s.ending
