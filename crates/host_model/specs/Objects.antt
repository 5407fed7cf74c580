-- Meaning: typed objects, and those of a run: the static objects of the notes, the objects that the script has at the start,
-- and those that its accepted calls made, numbered from 0 in that order. docs/HOST.md, "Objects".
use Rattle.std.specs.Prelude.{ℕ, List, [], ◌++◌, map, take, slice_index_or}
use Rattle.std.specs.List.{flat_map}
use Rattle.note_types.specs.declared.notes.Notes.{Notes}
use Rattle.note_types.specs.declared.notes.Static.{Static}
use Rattle.note_types.specs.declared.script.Script.{Script}
use Rattle.note_types.specs.declared.script.ScriptCall.{ScriptCall}
use Rattle.note_types.specs.declared.script.ScriptObject.{ScriptObject}
use Rattle.note_types.specs.declared.shape.Shape.{Shape}
pub use Rattle.host_model.specs.declared.object.TypedObject.{TypedObject}

-- the shape with no fields, which takes nothing
abbrev pub no_shape : Shape
no_shape = record { name = []; n = 0; c = 0; fields = [] }

-- the shape of the notes with this number
abbrev pub shape_of : Notes → ℕ → Shape
shape_of notes s = slice_index_or notes.shape s no_shape

-- a static object of the notes
abbrev pub static_object : Static → TypedObject
static_object s = record { shape = s.shape; count = s.count }

-- an object of a script
abbrev pub script_object : ScriptObject → TypedObject
script_object o = record { shape = o.shape; count = o.count }

-- the objects that a script's call makes
abbrev pub objects_of : ScriptCall → List ScriptObject
objects_of c = c.make

-- the script's objects that are there once so many of its calls were accepted
unfoldable pub placed_objects : Script → ℕ → List ScriptObject
placed_objects script accepted = script.object ++ flat_map objects_of (take accepted script.call)

-- the typed objects that are there then
unfoldable pub made_objects : Notes → Script → ℕ → List TypedObject
made_objects notes script accepted = map static_object notes.statics ++ map script_object (placed_objects script accepted)
