-- For proofs: the law of a step of a run at a width: the run goes on standing for the configuration of the neutral machine,
-- unless that is stuck. docs/HOST.md, "Laws of its steps".
use Rattle.std.specs.Prelude.{◌≡◌, ℕ, ◌≤◌, Some}
use Rattle.ebc_insn.specs.declared.Insn.{Insn}
use Rattle.ebc_width.specs.Width.{IsWidth}
use Rattle.host_laws.specs.ScriptGiven.{ScriptGiven}
use Rattle.instruction_laws.specs.Premises.{IsInsnOf, IsRunOf}
use Rattle.neutral_machine.specs.Room.{HasRoom}
use Rattle.neutral_machine.specs.Rows.{Site}
use Rattle.neutral_machine.specs.Stands.{Stands}
use Rattle.note_types.specs.declared.ending.Ending.TheVariants.{Running}
use Rattle.note_types.specs.declared.spot.Spot.TheVariants.{Place}
use Rattle.pe_image.specs.Mapped.{AreBytes, mapped}
use Rattle.pe_image.specs.declared.image.Image.{Image}
use Rattle.neutral_machine.specs.Config.{Config, call_under_way}
use Rattle.neutral_machine.specs.Layout.{total}
use Rattle.neutral_machine.specs.NeutralRuns.{neutral_step}
use Rattle.host_model.specs.Placements.{Placement, IsPlacement, stack_bytes}
use Rattle.host_model.specs.Progress.{NoCall}
use Rattle.host_model.specs.RunState.{RunState}
use Rattle.host_model.specs.World.{World}
use Rattle.neutral_machine.specs.NeutralRun.{neutral_instruction}
use Rattle.host_model.specs.Runs.{run_step}

-- what a run of an image has at either width
pub record IsRunAt (w : ℕ) (image : Image) (world : World) (P : Placement) : Type 0 where
  pub width : IsWidth w
  pub run : IsRunOf image world
  pub bytes : AreBytes image
  pub placement : IsPlacement w world P
  pub script : ScriptGiven world.notes world.script

-- An instruction of a function of the image stands at a place, and the stack has room for what it puts there.
pub record InsnStands (w : ℕ) (image : Image) (world : World) (a : Config) (place : ℕ) : Type 0 where
  pub here : Site
  pub insn : Insn
  pub stands : IsInsnOf image world here insn
  pub at : here.place ≡ place
  pub room : HasRoom w world a insn

-- What typing is to give of a configuration before a step, and of the one after it: where no native call is under way an
-- instruction stands at its spot, and the frames before and after fit the stack.
pub record StepGoesWell (w : ℕ) (image : Image) (world : World) (a b : Config) : Type 0 where
  pub there : (p : ℕ) → a.spot ≡ Place p → call_under_way a.frames ≡ NoCall → InsnStands w image world a p
  pub before : total w a.frames ≤ stack_bytes w world.notes
  pub after : total w b.frames ≤ stack_bytes w world.notes

-- After a step the run stands for what the step leaves of the configuration. Of one that has ended nothing is asked.
abbrev pub RunStepKeepsStanding : Type 0
RunStepKeepsStanding =
    (w : ℕ) (image : Image) (world : World) (P : Placement) (a b : Config) (r : RunState) → IsRunAt w image world P
    → (a.ending ≡ Running → StepGoesWell w image world a b)
    → Stands w world P (mapped image P.image) a r → neutral_step world (neutral_instruction world image) a ≡ Some b
    → Stands w world P (mapped image P.image) b (run_step w world P r)
