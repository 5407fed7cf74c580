-- Where the objects of a runner's memory lie.
use Rattle.std.proofs.Common.{◌≡◌, ℕ, ◌^◌, ◌<◌, ap, arith, length, subst, sym}
use Rattle.ebc_width.specs.Width.{IsWidth}
use Rattle.pe_image.specs.Images.{IsImage}
use Rattle.pe_image.specs.declared.image.Image.{Image}
use Rattle.object_memory.specs.Memory.{first_base, ranges}
use Rattle.note_types.specs.Concrete.{Concrete}
use Rattle.note_types.specs.declared.notes.Notes.{Notes}
use Rattle.note_types.specs.declared.script.Script.{Script}
use Rattle.host_model.specs.Runs.{world_of}
use Rattle.host_model.specs.RunState.{RunState}
use Rattle.host_model.specs.World.{World}
use Rattle.native_host.proofs.StartLaws.{stack_some}
use Rattle.neutral_machine.proofs.ScriptObjects.{object_takes_bytes}
use Rattle.twin_run.specs.Runner.{IsRunner, Runs}
use Rattle.twin_run.specs.declared.runner.Runner.{Runner}
use Rattle.run_trace.specs.Walks.{AreInRow, RunsImage}
use Rattle.run_trace.proofs.WalkLaws.{placed-in-row}

module _ (w : ℕ) (x : Runner w) (runs : RunsImage w x) where
  -- they lie where the run's state has them
  pub runner-objects : runs.state.machine.objects ≡ ranges x.mem
  runner-objects = sym (ap (λ (s : Concrete). s.objects) runs.is.at.machine)

  -- one after the other, and none is empty
  pub runner-in-row : IsWidth w → AreInRow (first_base w) (ranges x.mem)
  runner-in-row h =
      let at = runs.is.at in
      let notes = at.serving.read in
      let script = at.serving.scripted in
      subst (AreInRow (first_base w)) (sym at.memory.objects)
      (placed-in-row w runs.world x.host.entries (stack_some w runs.world.notes notes) runs.bytes
      (object_takes_bytes w runs.world.notes runs.world.script h script x.host.entries))

-- A runner of a run whose image has bytes is still one of such a run after a step.
pub runs-after : (w : ℕ) (world : World) (x y : Runner w) (r s : RunState) → IsRunner w world x r → IsRunner w world y s
    → 0 < x.image_size → RunsImage w y
runs-after w world x y r s is next bytes =
    record { world = world; state = s; is = next; bytes = subst (λ n. 0 < n) is.at.image_size bytes }

-- notes that were read have few static objects
pub statics-few : (w : ℕ) (notes : Notes) (script : Script) (x : Runner w) → Runs w notes script x → length notes.statics < 2 ^ 32
statics-few w notes script x runs =
    let few = runs.is.at.serving.read.few.statics in
    let same = ap (λ (n : Notes). length n.statics) runs.its_notes in
    omega (arith, few, same)

-- the image of a run has bytes
pub image-has-bytes : (w : ℕ) (image : Image) (notes : Notes) (script : Script) (x : Runner w) (r : RunState) → IsImage image
    → IsRunner w (world_of image notes script) x r → 0 < x.image_size
image-has-bytes w image notes script x r is run =
    let size = run.at.image_size in
    let entry = is.entry in
    omega (arith, size, entry)

-- so the runner of a run of an image that was read is one of such a run
pub runs-image : (w : ℕ) (image : Image) (notes : Notes) (script : Script) (x : Runner w) (r : RunState) → IsImage image
    → IsRunner w (world_of image notes script) x r → RunsImage w x
runs-image w image notes script x r is run =
    runs-after w (world_of image notes script) x x r r run run (image-has-bytes w image notes script x r is run)
