-- For proofs: that all premises of the laws of runs can hold at once, and that a typed program comes to each kind of step; and that runs
-- which are the same may differ in memory. docs/SIMULATION.md, "What the laws ask".
use Rattle.std.specs.Prelude.{◌≡◌, ℕ, Some}
use Rattle.note_types.specs.declared.ending.Ending.TheVariants.{Running, Finished}
use Rattle.note_types.specs.declared.value.Value.{Value}
use Rattle.pe_image.specs.declared.image.Image.{Image}
use Rattle.neutral_machine.specs.Config.{Config}
use Rattle.host_model.specs.Placements.{own_placement}
use Rattle.host_model.specs.World.{World}
use Rattle.step_sound.specs.StepKinds.{IsPlain, IsNativeCall, IsThunk, IsNotify, IsCall, IsEnter, IsReply, IsLeaving, IsResuming, IsLast}
use Rattle.neutral_machine.specs.NeutralRun.{config_after}
use Rattle.host_model.specs.Runs.{SameRun, run_of}
use Rattle.twin_run.specs.Headline.{SameCells}
use Rattle.twin_run.specs.TypedRuns.{IsTypedWorld}

-- after some number of steps the neutral machine's run goes on with a step of a kind
pub record ComesTo (image : Image) (world : World) (Kind : Image → World → Config → Type 0) : Type 0 where
  pub steps : ℕ
  pub config : Config
  pub reached : config_after world image steps ≡ Some config
  pub running : config.ending ≡ Running
  pub kind : Kind image world config

-- A program that is typed, comes to each kind of step, and finishes at either width.
pub record GoesThroughAll (image : Image) (world : World) : Type 0 where
  pub typed : IsTypedWorld image world
  pub plain : ComesTo image world IsPlain
  pub native_call : ComesTo image world IsNativeCall
  pub thunk : ComesTo image world IsThunk
  pub notify : ComesTo image world IsNotify
  pub call : ComesTo image world IsCall
  pub enter : ComesTo image world IsEnter
  pub reply : ComesTo image world IsReply
  pub leaving : ComesTo image world IsLeaving
  pub resuming : ComesTo image world IsResuming
  pub last : ComesTo image world IsLast
  pub steps : ℕ
  pub result : Value
  pub finished : (run_of 4 world (own_placement 4 world) image steps).ending ≡ Finished result

-- There is one.
abbrev pub TypedPremisesAreMet : Type 0
TypedPremisesAreMet = (image : Image) × (world : World) × GoesThroughAll image world

-- There are runs of an image that are the same and don't hold the same in memory, under the placements that this project takes. So what
-- the headline says of cells is more than that the runs are the same.
pub record CellsTellMore : Type 0 where
  pub image : Image
  pub world : World
  pub steps : ℕ
  pub same : SameRun world (own_placement 4 world) (run_of 4 world (own_placement 4 world) image steps) (own_placement 8 world)
      (run_of 8 world (own_placement 8 world) image steps)
  pub differ : ¬ SameCells world (own_placement 4 world) (run_of 4 world (own_placement 4 world) image steps) (own_placement 8 world)
      (run_of 8 world (own_placement 8 world) image steps)
