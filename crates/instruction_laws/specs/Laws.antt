-- For proofs: the laws of an instruction: by numbers alone, at either width, whatever the configuration holds. Types, states
-- and rules don't come into them. docs/SIMULATION.md, "What the laws say".
use Rattle.std.specs.Prelude.{◌≡◌, ℕ, ◌+◌, ◌≤◌, None, List}
use Rattle.ebc_width.specs.Width.{IsWidth}
use Rattle.ebc_insn.specs.declared.Insn.{Insn}
use Rattle.ebc_machine.specs.Step.{executed, machine_step}
use Rattle.note_types.specs.Concrete.{Concrete}
use Rattle.neutral_machine.specs.Config.{Config}
use Rattle.neutral_machine.specs.Layout.{total, addresses}
use Rattle.neutral_machine.specs.Outcomes.{Gives}
use Rattle.host_model.specs.Placements.{Placement, IsPlacement, stack_bytes}
use Rattle.host_model.specs.RunState.{SavedFrame}
use Rattle.host_model.specs.Values.{word}
use Rattle.host_model.specs.World.{World}
use Rattle.neutral_machine.specs.Alike.{Does, RowsAlike, StepAlike}
use Rattle.neutral_machine.specs.Instructions.{IsAt}
use Rattle.neutral_machine.specs.Room.{HasRoom}
use Rattle.neutral_machine.specs.Rows.{Site, NeutralEnd}
use Rattle.neutral_machine.specs.Rows as neutral
use Rattle.neutral_machine.specs.Stands.{MachineStands, HostsShow}
use Rattle.neutral_machine.specs.WorldFits.{WorldFits}

-- One instruction at one width: whatever the configuration holds, the machine does what the neutral machine does, unless that
-- is stuck.
abbrev pub OneInstruction : Type 0
OneInstruction =
    (w : ℕ) (world : World) (P : Placement) (mapped : ℕ → ℕ) (a : Config) (s : Concrete) (here : Site) (i : Insn)
    → IsWidth w → IsPlacement w world P → WorldFits world → MachineStands w world P mapped None a s → IsAt world P a s here i
    → HasRoom w world a i
    → Does (RowsAlike w world P mapped) (neutral.executed world a here i) (executed w s (word (P.image + here.next)) i)

-- One step of the machine at one width.
abbrev pub OneStep : Type 0
OneStep =
    (w : ℕ) (world : World) (P : Placement) (mapped : ℕ → ℕ) (a : Config) (s : Concrete) (here : Site) (i : Insn)
    → IsWidth w → IsPlacement w world P → WorldFits world → MachineStands w world P mapped None a s → IsAt world P a s here i
    → HasRoom w world a i
    → StepAlike w world P mapped s (neutral.executed world a here i) (machine_step w s)

-- Where the neutral machine does an instruction, the stack has room for it at a width if it has room for what is given.
abbrev pub RoomAfter : Type 0
RoomAfter =
    (w : ℕ) (world : World) (a : Config) (here : Site) (i : Insn) (e : NeutralEnd) (b : Config)
    → neutral.executed world a here i ≡ Gives (e, b) → total w a.frames ≤ stack_bytes w world.notes
    → total w b.frames ≤ stack_bytes w world.notes → HasRoom w world a i

-- The host frames that were saved show for the configuration after an instruction as they did before it.
abbrev pub HostsKept : Type 0
HostsKept =
    (w : ℕ) (world : World) (P : Placement) (mapped : ℕ → ℕ) (a : Config) (s : Concrete) (ss : List SavedFrame) (here : Site) (i : Insn)
    (e : NeutralEnd) (b : Config)
    → IsWidth w → IsPlacement w world P → WorldFits world → MachineStands w world P mapped None a s
    → HostsShow w world P (addresses w world.notes P a.frames) a.frames ss
    → neutral.executed world a here i ≡ Gives (e, b) → HostsShow w world P (addresses w world.notes P b.frames) b.frames ss

-- what an instruction leaves alone: the script place, the trace and the ending
pub record KeepsRun (a b : Config) : Type 0 where
  pub script : b.script ≡ a.script
  pub trace : b.trace ≡ a.trace
  pub ending : b.ending ≡ a.ending

-- An instruction leaves the script place, the trace and the ending alone.
abbrev pub RunKept : Type 0
RunKept = (world : World) (a : Config) (here : Site) (i : Insn) (e : NeutralEnd) (b : Config)
    → neutral.executed world a here i ≡ Gives (e, b) → KeepsRun a b
