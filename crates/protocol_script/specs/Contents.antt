-- Meaning: what the cells of a script's object hold at first: which fit, and which have to be given. docs/SCRIPTS.md, "What
-- the reader refuses".
use Rattle.std.specs.Prelude.{ℕ, Bool, true, false, not, ◌&&◌, ◌||◌, List, length, nat_le, nat_lt, slice_get}
use Rattle.std.specs.List.{list_all, range_with_len}
use Rattle.std.specs.Option.{option_map_or}
use Rattle.note_types.specs.Cells.{content_type}
use Rattle.note_types.specs.declared.notes.Notes.{Notes}
use Rattle.note_types.specs.declared.script.CellValue.{CellValue}
use Rattle.note_types.specs.declared.script.ScriptObject.{ScriptObject}
use Rattle.note_types.specs.declared.shape.Field.{Field}
use Rattle.note_types.specs.declared.value.Value.{Value}
use Rattle.note_types.specs.declared.value.Value.TheVariants as value
use Rattle.host_model.specs.HostPlans.{field_of}
use Rattle.host_model.specs.Objects.{shape_of}
use Rattle.host_model.specs.declared.object.TypedObject.{TypedObject}
use Rattle.host_model.specs.ScriptValues.{fits}
use Rattle.host_model.specs.Scripts.{is_given, is_needed}

-- the instance of each cell is one of the object's
abbrev pub are_inside : ScriptObject → Bool
are_inside o = list_all (λ (c : CellValue). nat_lt c.instance o.count) o.cells

-- a value fits the field of a shape
abbrev pub cell_fits : Notes → List TypedObject → ℕ → CellValue → Bool
cell_fits notes made shape c = option_map_or (λ (x : Field). fits made (content_type x.cell) c.value) (field_of notes shape c.field) false

-- the field of that number is given, if it has to be
abbrev pub is_settled : List Field → List CellValue → (instance field : ℕ) → Bool
is_settled fields cells instance field =
    option_map_or (λ (x : Field). not (is_needed x.cell)) (slice_get fields field) true || is_given cells instance field

-- so is each field of an instance
unfoldable pub all_settled : List Field → List CellValue → ℕ → Bool
all_settled fields cells instance = list_all (is_settled fields cells instance) (range_with_len 0 (length fields))

-- so are those of each instance
unfoldable pub is_filled : List Field → ℕ → List CellValue → Bool
is_filled fields count cells = list_all (all_settled fields cells) (range_with_len 0 count)

-- the cells of an object fit, and those that have to be given are
unfoldable pub are_contents : Notes → List TypedObject → ScriptObject → Bool
are_contents notes made o = list_all (cell_fits notes made o.shape) o.cells && is_filled (shape_of notes o.shape).fields o.count o.cells

-- a pointer names an object of at most that number
abbrev pub is_by : ℕ → Value → Bool
is_by number (value.Ptr o i) = nat_le o number
is_by number _ = true

-- so does each pointer in the cells of an object
abbrev pub are_by : ℕ → ScriptObject → Bool
are_by number o = list_all (λ (c : CellValue). is_by number c.value) o.cells
