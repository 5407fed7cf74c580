-- For proofs: what a run's start needs to stand for the neutral machine's: what the cells of static objects hold is what the
-- loaded bytes show, and the script fills cells that are there and enters the entry function with as many values as it
-- takes. docs/HOST.md, "The start".
use Rattle.std.specs.Prelude.{◌≡◌, ℕ, ◌<◌, false, [], length, Some, None}
use Rattle.std.specs.List.{AllByRecursion}
use Rattle.neutral_machine.specs.Stands.{CellShows, cell_address}
use Rattle.note_types.specs.Cells.{cell_size}
use Rattle.note_types.specs.declared.ending.Ending.TheVariants.{Running}
use Rattle.note_types.specs.declared.shape.Field.{Field}
use Rattle.note_types.specs.declared.spot.Spot.TheVariants as spot
use Rattle.neutral_machine.specs.Config.{Config}
use Rattle.host_model.specs.HostPlans.{filling}
use Rattle.neutral_machine.specs.Layout.{addresses}
use Rattle.neutral_machine.specs.Memory.{memory_of, cell_field}
use Rattle.neutral_machine.specs.NeutralHost.{with_objects}
use Rattle.host_model.specs.Objects.{made_objects}
use Rattle.host_model.specs.Placements.{Placement}
use Rattle.host_model.specs.Progress.{script_start}
use Rattle.host_model.specs.Start.{image_byte}
use Rattle.host_model.specs.Values.{Neutral, FieldOf, FieldOfLocals, Cells, null}
use Rattle.host_model.specs.World.{World}
use Rattle.host_laws.specs.PlanFits.{StoreNames, CanEnter}

-- the configuration before the objects of the script are filled
abbrev pub start_config : World → Cells → Config
start_config world statics =
    record {
      registers = λ r. null;
      c = false;
      spot = spot.Gate;
      cells = with_objects world.notes (made_objects world.notes world.script 0) (length world.notes.statics) statics;
      made = 0;
      frames = [];
      script = script_start;
      trace = [];
      ending = Running;
    }

-- Each cell of a static object holds a value that the loaded bytes show, and no local is a cell of one.
pub record StaticsShow (w : ℕ) (world : World) (P : Placement) (mapped : ℕ → ℕ) (statics : Cells) : Type 0 where
  pub show : (k i f : ℕ) (z : Field) (v : Neutral) → k < length world.notes.statics → statics (FieldOf k i f) ≡ Some v
      → cell_field world.notes (memory_of world (start_config world statics)) (FieldOf k i f) ≡ Some z
      → CellShows w (addresses w world.notes P []) (image_byte world P mapped)
      (cell_address w world P (start_config world statics) (FieldOf k i f) z) (cell_size w z.cell) v
  pub no_local : (d f : ℕ) → statics (FieldOfLocals d f) ≡ None

-- The script's cells at the start are there, and the entry function can be entered where no frame stands.
pub record StartGiven (w : ℕ) (world : World) (statics : Cells) : Type 0 where
  pub cells : AllByRecursion (StoreNames world (start_config world statics) [])
      (filling world.notes (length world.notes.statics) world.script.object)
  pub entry : (a : Config) → a.frames ≡ [] → CanEnter w world a world.notes.entry world.script.args
