-- For proofs: the cells that there are: the typed objects made so far, the locals of the frames, and what they hold.
-- docs/HOST.md, "The neutral machine".
use Rattle.std.specs.Prelude.{◌≡◌, ℕ, List, Option, Some, if◌then◌else◌, slice_get}
use Rattle.std.specs.Option.{option_and_then}
use Rattle.note_types.specs.FieldSets.{HasField}
use Rattle.note_types.specs.declared.notes.Notes.{Notes}
use Rattle.note_types.specs.declared.shape.Field.{Field}
use Rattle.note_types.specs.declared.shape.Shape.{Shape}
use Rattle.host_model.specs.Values.{Neutral, CellPlace, FieldOf, FieldOfLocals, Cells, same_cell_place}
use Rattle.neutral_machine.specs.Config.{Config, locals_at}
use Rattle.host_model.specs.HostPlans.{field_in}
use Rattle.host_model.specs.declared.object.TypedObject.{TypedObject}
use Rattle.host_model.specs.Objects.{made_objects}
use Rattle.host_model.specs.World.{World}

-- The typed objects made so far, the shape of the locals of the function frame at each depth, and what the cells hold.
pub record Memory : Type 0 where
  pub objects : List TypedObject
  pub locals : ℕ → Option Shape
  pub cells : Cells

-- the memory of a configuration
abbrev pub memory_of : World → Config → Memory
memory_of world a = record {
  objects = made_objects world.notes world.script a.script.entries;
  locals = locals_at a.frames;
  cells = a.cells;
}

-- the field that a cell is
abbrev pub cell_field : Notes → Memory → CellPlace → Option Field
cell_field notes m (FieldOf k i f) = option_and_then (field_in notes i f) (slice_get m.objects k)
cell_field notes m (FieldOfLocals d f) = option_and_then (λ (s : Shape). slice_get s.fields f) (m.locals d)

-- a local field is written
pub record IsFieldWritten (m : Memory) (d f : ℕ) : Type 0 where
  pub value : Neutral
  pub is : m.cells (FieldOfLocals d f) ≡ Some value

-- all local fields of a set are written
abbrev pub AreWritten : Memory → ℕ → ℕ → Type 0
AreWritten m d set = (f : ℕ) → HasField set f → IsFieldWritten m d f

-- the cells with another value in one of them
abbrev pub with_cell : Cells → CellPlace → Neutral → Cells
with_cell cells p v q = if same_cell_place p q then Some v else cells q
