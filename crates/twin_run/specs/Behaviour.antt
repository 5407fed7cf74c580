-- Meaning: what a run shows, which has no width and no placement in it: where it stands, its events, how it ended, and what cells of
-- memory are read as. docs/SIMULATION.md, "The headline".
use Rattle.std.specs.Prelude.{◌≡◌, ℕ, List, Option, Some, None, slice_get, slice_index}
use Rattle.std.specs.Option.{option_map, option_and_then}
use Rattle.ebc_width.specs.Bytes.{little_endian}
use Rattle.host_model.specs.HostPlans.{field_at, signature_params}
use Rattle.host_model.specs.HostSteps.{call_under_way, cell_address, objects_at, spot_of}
use Rattle.host_model.specs.Placements.{Placement}
use Rattle.host_model.specs.Progress.{NativeCall, Accepted}
use Rattle.host_model.specs.Readings.{reading_of, sort_of_cell}
use Rattle.host_model.specs.RunState.{RunState}
use Rattle.host_model.specs.World.{World}
use Rattle.note_types.specs.Cells.{cell_size}
use Rattle.note_types.specs.declared.cell.Cell.{Cell}
use Rattle.note_types.specs.declared.ending.Ending.{Ending}
use Rattle.note_types.specs.declared.ending.Ending.TheVariants.{Running}
use Rattle.note_types.specs.declared.event.Event.{Event}
use Rattle.note_types.specs.declared.notes.Want.{Want}
use Rattle.note_types.specs.declared.notes.Want.TheVariants as want
use Rattle.note_types.specs.declared.notes.WantParam.{WantParam}
use Rattle.note_types.specs.declared.script.ScriptCall.{ScriptCall}
use Rattle.note_types.specs.declared.shape.Field.{Field}
use Rattle.note_types.specs.declared.spot.Spot.{Spot}
use Rattle.note_types.specs.declared.value.Value.{Value}

-- ---- cells

-- what a cell at an address is read as
abbrev pub content_seen : ℕ → World → Placement → RunState → Cell → (address : ℕ) → Value
content_seen w world P r c address =
    reading_of w world.notes P (objects_at world r) (sort_of_cell c) (little_endian r.machine.byte address (cell_size w c))

-- what the cell of a field of an instance of a typed object is read as: none where no such object is made, or it has no such field
abbrev pub cell_seen : ℕ → World → Placement → RunState → (object instance field : ℕ) → Option Value
cell_seen w world P r object instance field =
    option_map (λ (x : Field). content_seen w world P r x.cell (cell_address w world.notes P (objects_at world r) object instance x))
    (field_at world.notes (objects_at world r) object instance field)

-- the cell that a method reads whose address it wants
abbrev pub cell_read : Want → Option Cell
cell_read (want.Inout c) = Some c
cell_read _ = None

-- the cell that the method reads whose address is the argument of that number in the script's call of that number
abbrev pub read_by : World → (entry argument : ℕ) → Option Cell
read_by world entry argument =
    option_and_then (λ (c : ScriptCall). option_and_then (λ (p : WantParam). cell_read p.want)
    (slice_get (signature_params world.notes c.signature) argument)) (slice_get world.script.call entry)

-- what such a cell is read as, of a native call that the script answers
abbrev pub lent_in : ℕ → World → Placement → RunState → NativeCall ℕ → (argument : ℕ) → Option Value
lent_in w world P r (Accepted entry callbacks slots) argument =
    option_map (λ c. content_seen w world P r c (slice_index slots argument)) (read_by world entry argument)
lent_in w world P r _ argument = None

-- what the cell is read as that the native call under way was lent by the argument of that number, to be read
abbrev pub lent_seen : ℕ → World → Placement → RunState → (argument : ℕ) → Option Value
lent_seen w world P r argument = lent_in w world P r (call_under_way r.hosts) argument

-- ---- the whole

-- What a run shows: where it stands, the events, how it ended, and what the cells of typed objects are read as; and, while it goes on,
-- what the cells are read as that the native call under way was lent to be read.
pub record Behaviour : Type 0 where
  pub spot : Spot
  pub events : List Event
  pub ending : Ending
  pub cells : (object instance field : ℕ) → Option Value
  pub lent : (argument : ℕ) → Option Value

-- The state of a run at a width, under a placement, shows this.
pub record IsShown (w : ℕ) (world : World) (P : Placement) (r : RunState) (b : Behaviour) : Type 0 where
  pub spot : spot_of world P r.machine ≡ b.spot
  pub events : r.trace ≡ b.events
  pub ending : r.ending ≡ b.ending
  pub cells : (object instance field : ℕ) → cell_seen w world P r object instance field ≡ b.cells object instance field
  pub lent : r.ending ≡ Running → (argument : ℕ) → lent_seen w world P r argument ≡ b.lent argument
