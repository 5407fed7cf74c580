-- For proofs: what the arguments of a native call point to: docs/TRACE.md, "What arguments point to".
use Rattle.std.specs.Prelude.{◌≡◌, ℕ, ◌+◌, ◌*◌, ◌-◌, ◌^◌, ◌≤◌, List, [], ◌∷◌, false, ◌&&◌, Option, Some, None, length, nat_eq, nat_lt}
use Rattle.std.specs.Prelude.{option_map, slice_get, take}
use Rattle.std.specs.Prelude.{if◌then◌else◌, slice_index_or}
use Rattle.std.specs.List.{find, flat_map, range_with_len}
use Rattle.std.specs.Option.{option_and_then, option_map_or}
use Rattle.ebc_width.specs.Ranges.{Range, covers}
use Rattle.host_model.specs.Objects.{made_objects}
use Rattle.host_model.specs.World.{World}
use Rattle.host_model.specs.declared.object.TypedObject.{TypedObject}
use Rattle.note_types.specs.Concrete.{Concrete, rest_from}
use Rattle.note_types.specs.declared.cell.Cell.{Cell}
use Rattle.note_types.specs.declared.cell.Cell.TheVariants as cell
use Rattle.note_types.specs.declared.event.Event.{Event}
use Rattle.note_types.specs.declared.event.Event.TheVariants as events
use Rattle.note_types.specs.declared.notes.Notes.{Notes}
use Rattle.note_types.specs.declared.notes.Static.{Static}
use Rattle.note_types.specs.declared.seen.Seen.{Seen}
use Rattle.note_types.specs.declared.shape.Field.{Field}
use Rattle.note_types.specs.declared.shape.Shape.{Shape}
use Rattle.note_types.specs.declared.value.Value.{Value}
use Rattle.note_types.specs.declared.value.Value.TheVariants as values
use Rattle.step_texts.specs.PointedTexts.{pointed_line}
use Rattle.step_texts.specs.declared.pointed.Cells.{Cells}
use Rattle.step_texts.specs.declared.pointed.Cells.TheVariants as cells
use Rattle.run_trace.specs.Walks.{AreInRow}

-- ---- shapes

-- what the instances of such a size hold, of which this cell is the only one
abbrev pub cells_of_one : Cell → ℕ → Cells
cells_of_one cell.I16 size = if nat_eq size 2 then cells.Words else cells.Others
cells_of_one cell.I8 size = if nat_eq size 1 then cells.Bytes else cells.Others
cells_of_one _ size = cells.Others

-- the same of instances of these fields and such a size
abbrev pub cells_in : List Field → (n c : ℕ) → Cells
cells_in (f ∷ []) n c = if nat_eq f.n 0 && (nat_eq f.c 0 && nat_eq n 0) then cells_of_one f.cell c else cells.Others
cells_in _ n c = cells.Others

abbrev pub cells_of : Shape → Cells
cells_of shape = cells_in shape.fields shape.n shape.c

-- how many bytes an instance takes
abbrev pub size_of : ℕ → Shape → ℕ
size_of w shape = shape.n * w + shape.c

-- ---- places

-- where the object of that number in a memory begins
abbrev pub base_of : Concrete → ℕ → Option ℕ
base_of s number = option_map (λ (r : Range). r.base) (slice_get s.objects number)

-- a number, if it has 64 bits
abbrev pub of_64_bits : Option ℕ → Option ℕ
of_64_bits None = None
of_64_bits (Some a) = if nat_lt a (2 ^ 64) then Some a else None

-- A walk over the objects of a memory comes to the object of this number at this base, if there is one: it is the first of those
-- that are still to come, which lie one after the other.
pub record IsReached (objects : List Range) (number base : ℕ) : Type 0 where
  pub coming : List Range
  pub row : AreInRow base coming
  pub same : (j : ℕ) → slice_get objects (number + j) ≡ slice_get coming j
  pub holder : (a : ℕ) → base ≤ a → find (covers a 1) objects ≡ find (covers a 1) coming

-- where a typed object begins: a static one in the image, and one of the script behind the image
abbrev pub object_at : Notes → Concrete → ℕ → Option ℕ
object_at notes s object =
    if nat_lt object (length notes.statics)
    then option_and_then (λ base. option_map (λ (t : Static). base + t.place) (slice_get notes.statics object)) (base_of s 2)
    else base_of s (3 + (object - length notes.statics))

-- the bytes from an instance of a shape to the end of the typed object, which has so many of them
abbrev pub bytes_of : ℕ → Notes → Concrete → Shape → (count object instance : ℕ) → Option (List ℕ)
bytes_of w notes s shape count object instance =
    option_map (λ bytes. take ((count - instance) * size_of w shape) bytes)
    (option_and_then (λ base. rest_from s (base + instance * size_of w shape)) (object_at notes s object))

-- ---- lines

-- the line of an argument that points to an instance of an object of this shape
abbrev pub shape_line : ℕ → Notes → Concrete → ℕ → (count object instance : ℕ) → Shape → List ℕ
shape_line w notes s argument count object instance shape =
    option_map_or (pointed_line argument (cells_of shape))
    (bytes_of w notes s shape count object instance) []

-- the same of an instance of this object
abbrev pub object_line : ℕ → Notes → Concrete → ℕ → (object instance : ℕ) → TypedObject → List ℕ
object_line w notes s argument object instance o =
    option_map_or (shape_line w notes s argument o.count object instance) (slice_get notes.shape o.shape) []

-- the same of an instance of the typed object of that number
abbrev pub instance_line : ℕ → World → Concrete → ℕ → (object instance : ℕ) → List ℕ
instance_line w world s argument object instance =
    option_map_or (object_line w world.notes s argument object instance)
    (slice_get (made_objects world.notes world.script (length world.script.call)) object) []

-- the line of an argument; none where it isn't the address of an instance of a typed object
abbrev pub value_line : ℕ → World → Concrete → ℕ → Value → List ℕ
value_line w world s argument (values.Ptr object instance) = instance_line w world s argument object instance
value_line w world s argument _ = []

abbrev pub argument_line : ℕ → World → Concrete → ℕ → Seen → List ℕ
argument_line w world s argument seen = if seen.lent then [] else value_line w world s argument seen.value

abbrev pub unseen : Seen
unseen = record { lent = false; value = values.Any }

-- the lines of what arguments point to, the first one first
abbrev pub arguments_lines : ℕ → World → Concrete → List Seen → List ℕ
arguments_lines w world s args = flat_map (λ k. argument_line w world s k (slice_index_or args k unseen)) (range_with_len 0 (length args))

-- the lines of what the arguments of an event point to, if it is a native call
abbrev pub event_lines : ℕ → World → Concrete → Event → List ℕ
event_lines w world s (events.Called place signature args) = arguments_lines w world s args
event_lines w world s _ = []

-- the lines of what the arguments point to of the native calls among these events
unfoldable pub pointed_lines : ℕ → World → Concrete → List Event → List ℕ
pointed_lines w world s events = flat_map (event_lines w world s) events
