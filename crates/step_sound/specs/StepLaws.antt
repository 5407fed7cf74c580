-- For proofs: One law for each kind of step: from a configuration that meets the invariant the neutral machine isn't stuck,
-- and what its step and the run's step leave meets the invariant. docs/SIMULATION.md, "The laws of the steps".
use Rattle.std.specs.Prelude.{◌≡◌, ℕ, Option, Some}
use Rattle.invariant_laws.specs.Laws.{states_by}
use Rattle.note_types.specs.declared.ending.Ending.TheVariants.{Running}
use Rattle.note_types.specs.declared.state.State.{State}
use Rattle.pe_image.specs.declared.image.Image.{Image}
use Rattle.neutral_machine.specs.Config.{Config}
use Rattle.neutral_machine.specs.NeutralRuns.{neutral_start, neutral_step}
use Rattle.host_model.specs.Placements.{Placement}
use Rattle.host_model.specs.RunState.{RunState}
use Rattle.host_model.specs.World.{World}
use Rattle.invariant_laws.specs.Waiting.{States}
use Rattle.neutral_machine.specs.NeutralImage.{static_cells}
use Rattle.neutral_machine.specs.NeutralRun.{neutral_instruction}
use Rattle.host_model.specs.Runs.{run_of, run_step}
use Rattle.step_sound.specs.Invariant.{Invariant, RunHolds}
use Rattle.step_sound.specs.StepKinds.{IsPlain, IsNativeCall, IsThunk, IsCall, IsEnter, IsReply, IsNotify, IsLeaving, IsResuming, IsLast}
use Rattle.step_sound.specs.StepKinds.{NextStep}

-- a step that keeps the invariant
pub record StepKeeps (w : ℕ) (image : Image) (world : World) (P : Placement) (states : States) (a : Config) (r : RunState) : Type 0 where
  pub after : Config
  pub step : neutral_step world (neutral_instruction world image) a ≡ Some after
  pub invariant : Invariant w image world P states after (run_step w world P r)

-- each step of a kind keeps it
abbrev pub KeepsInvariant : (Image → World → Config → Type 0) → Type 0
KeepsInvariant Kind =
    (w : ℕ) (image : Image) (world : World) (P : Placement) (map : (func place : ℕ) → Option State) (a : Config) (r : RunState)
    → RunHolds w image world P (states_by map) → Invariant w image world P (states_by map) a r → a.ending ≡ Running → Kind image world a
    → StepKeeps w image world P (states_by map) a r

-- ---- instructions

-- that calls no native method and makes no thunk
abbrev pub PlainStepsKeep : Type 0
PlainStepsKeep = KeepsInvariant IsPlain

-- that calls a native method
abbrev pub NativeCallsKeep : Type 0
NativeCallsKeep = KeepsInvariant IsNativeCall

-- that makes a thunk
abbrev pub ThunksKeep : Type 0
ThunksKeep = KeepsInvariant IsThunk

-- ---- steps of the host

abbrev pub CallsKeep : Type 0
CallsKeep = KeepsInvariant IsCall

abbrev pub EntersKeep : Type 0
EntersKeep = KeepsInvariant IsEnter

abbrev pub RepliesKeep : Type 0
RepliesKeep = KeepsInvariant IsReply

abbrev pub NotifiesKeep : Type 0
NotifiesKeep = KeepsInvariant IsNotify

abbrev pub LeavingKeeps : Type 0
LeavingKeeps = KeepsInvariant IsLeaving

abbrev pub ResumingKeeps : Type 0
ResumingKeeps = KeepsInvariant IsResuming

abbrev pub LastKeeps : Type 0
LastKeeps = KeepsInvariant IsLast

-- ---- the start, and which step comes next

-- a run's start meets the invariant
abbrev pub StartMeets : Type 0
StartMeets =
    (w : ℕ) (image : Image) (world : World) (P : Placement) (map : (func place : ℕ) → Option State)
    → RunHolds w image world P (states_by map)
    → Invariant w image world P (states_by map) (neutral_start world (static_cells world image)) (run_of w world P image 0)

-- where the invariant holds of a configuration that goes on, the next step is of one of these kinds
abbrev pub NextStepIsThere : Type 0
NextStepIsThere =
    (w : ℕ) (image : Image) (world : World) (P : Placement) (map : (func place : ℕ) → Option State) (a : Config) (r : RunState)
    → RunHolds w image world P (states_by map) → Invariant w image world P (states_by map) a r → a.ending ≡ Running → NextStep image world a
