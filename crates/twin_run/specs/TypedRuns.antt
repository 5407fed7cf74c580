-- For proofs: what holds of the runs of a typed program: both machines follow the neutral machine, and so they are the same.
-- docs/SIMULATION.md, "The headline".
use Rattle.std.specs.Prelude.{◌≡◌, ◌↔◌, ℕ, Option, Some, None}
use Rattle.ebc_width.specs.Width.{IsWidth}
use Rattle.note_types.specs.Records.{IsNotes}
use Rattle.pe_image.specs.Images.{IsImage}
use Rattle.pe_image.specs.Mapped.{AreBytes}
use Rattle.pe_image.specs.declared.image.Image.{Image}
use Rattle.neutral_machine.specs.Config.{Config}
use Rattle.host_model.specs.Placements.{Placement, IsPlacement, own_placement}
use Rattle.host_model.specs.Scripts.{IsScript}
use Rattle.host_model.specs.World.{World}
use Rattle.step_sound.specs.Invariant.{Invariant}
use Rattle.neutral_machine.specs.NeutralRun.{config_after}
use Rattle.host_model.specs.Runs.{run_of}
use Rattle.width_checker.specs.Typed.{Typed}
use Rattle.twin_run.specs.Differs.{DifferAt}
use Rattle.twin_run.specs.Behaviour.{Behaviour}
use Rattle.twin_run.specs.Headline.{AreSameAfter, ShowsAlways}
use Rattle.twin_run.specs.StatesOf.{states_of}

-- The world of a run of what was read, where the image is typed under the notes.
pub record IsTypedWorld (image : Image) (world : World) : Type 0 where
  -- the image is well formed, as `read_image` gives one, and each of its places has a byte
  pub well_formed : IsImage image
  pub bytes : AreBytes image
  -- the world has the image's size
  pub size : world.image_size ≡ image.size
  -- the notes are as `read_notes` gives them, and the script as `read_script` gives one under these notes
  pub notes : IsNotes world.notes
  pub script : IsScript world.notes world.script
  -- the image meets the typing rules under the notes
  pub typed : Typed image world.notes

-- At either width: the neutral machine is never stuck, and the run meets the invariant beside it, so that it stands for the neutral
-- machine's after every number of steps.
abbrev pub MachinesFollow : Type 0
MachinesFollow =
    (w : ℕ) (image : Image) (world : World) (P : Placement) (k : ℕ) → IsWidth w → IsTypedWorld image world → IsPlacement w world P
    → (a : Config) × (config_after world image k ≡ Some a) × Invariant w image world P (states_of image world.notes) a
    (run_of w world P image k)

-- So at either width and under every valid placement the runs show one behaviour, and raise nothing but a division by zero.
abbrev pub TypedRunsAsOne : Type 0
TypedRunsAsOne = (image : Image) (world : World) → IsTypedWorld image world → (b : ℕ → Behaviour) × ShowsAlways image world b

-- At both widths: the runs are the same after every number of steps, each under a valid placement of its own, hold the same in memory, and
-- raise nothing but a division by zero.
abbrev pub TypedRunsAreSame : Type 0
TypedRunsAreSame =
    (image : Image) (world : World) (P Q : Placement) (k : ℕ) → IsTypedWorld image world → IsPlacement 4 world P → IsPlacement 8 world Q
    → AreSameAfter world image P Q k

-- So they are under the placements that this project takes,
abbrev pub OwnTypedRunsAreSame : Type 0
OwnTypedRunsAreSame =
    (image : Image) (world : World) (k : ℕ) → IsTypedWorld image world
    → AreSameAfter world image (own_placement 4 world) (own_placement 8 world) k

-- and up to no limit is there a number of steps after which they differ.
abbrev pub TypedNeverDiffer : Type 0
TypedNeverDiffer = (image : Image) (world : World) (limit : ℕ) (differ : Option ℕ) → IsTypedWorld image world
    → DifferAt image world limit differ ↔ (differ ≡ None)
