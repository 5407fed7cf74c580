-- Meaning: where the modelled host's things lie at a width of w bytes: the native area, whose addresses name the gate, the
-- methods, the functions' thunks and the handles; the stack; the image; and the script's objects. docs/HOST.md, "Memory".
use Rattle.std.specs.Prelude.{◌≡◌, ◌⊎◌, ℕ, ◌+◌, ◌-◌, ◌*◌, ◌%◌, ◌^◌, ◌<◌, ◌≤◌, max, ◌||◌, List, [], ◌∷◌, length, Option, Some, None, nat_eq}
use Rattle.std.specs.Prelude.{nat_lt, if◌then◌else◌, slice_get, slice_index}
use Rattle.std.specs.List.{All, AllPairs}
use Rattle.std.specs.Option.{option_map, option_map_or}
use Rattle.object_memory.specs.Memory.{padded, first_base}
use Rattle.note_types.specs.Concrete.{AreDisjoint}
use Rattle.note_types.specs.Shapes.{size_at}
use Rattle.ebc_width.specs.Ranges.{Range}
use Rattle.host_model.specs.World.{World}
use Rattle.host_model.specs.Objects.{TypedObject, shape_of, script_object, placed_objects}
use Rattle.note_types.specs.declared.cell.SlotKind.{SlotKind}
use Rattle.note_types.specs.declared.cell.SlotKind.TheVariants.{N, Q, D}
use Rattle.note_types.specs.declared.notes.FnNote.{FnNote}
use Rattle.note_types.specs.declared.notes.Notes.{Notes}
use Rattle.note_types.specs.declared.notes.Pair.{Pair}
use Rattle.note_types.specs.declared.notes.Param.{Param}
use Rattle.note_types.specs.declared.notes.Static.{Static}
use Rattle.note_types.specs.declared.notes.Thunk.{Thunk}
use Rattle.note_types.specs.declared.script.ScriptObject.{ScriptObject}

-- ---- sizes

-- the bytes of a pair
abbrev pub pair_at : ℕ → Pair → ℕ
pair_at w p = p.n * w + p.c

-- the bytes of a stack slot
abbrev pub slot_bytes : ℕ → SlotKind → ℕ
slot_bytes w N = w
slot_bytes w Q = 8
slot_bytes w D = 4

-- the bytes of an instance of a shape of the notes
abbrev pub shape_bytes : ℕ → Notes → ℕ → ℕ
shape_bytes w notes shape = size_at w (shape_of notes shape)

-- the bytes of a typed object
abbrev pub object_bytes : ℕ → Notes → TypedObject → ℕ
object_bytes w notes o = o.count * shape_bytes w notes o.shape

-- each thing of the native area has so many bytes
abbrev pub area_step : ℕ
area_step = 16

-- how many handles there are
abbrev pub handle_count : ℕ
handle_count = 1024

-- the bytes of the native area: the gate, the methods, the functions' thunks and the handles
abbrev pub area_bytes : Notes → ℕ
area_bytes notes = area_step * (1 + length notes.methods + length notes.function + handle_count)

-- the bytes of a function's parameters
abbrev pub params_bytes : ℕ → List Param → ℕ
params_bytes w [] = 0
params_bytes w (p ∷ ps) = slot_bytes w p.kind + params_bytes w ps

-- the bytes of a return cell
abbrev pub return_cell : ℕ
return_cell = 16

-- what a function that the firmware enters takes of the stack: its parameters, its return cell, and what it needs
abbrev pub frame_bytes : ℕ → FnNote → ℕ
frame_bytes w f = params_bytes w f.params + (return_cell + pair_at w f.need)

-- the most that such a function takes: the entry function, or one that is marked so; functions are counted from i on
unfoldable pub most_bytes : ℕ → ℕ → ℕ → List FnNote → ℕ
most_bytes w entry i [] = 0
most_bytes w entry i (f ∷ fs) = max (if nat_eq i entry || f.enter then frame_bytes w f else 0) (most_bytes w entry (i + 1) fs)

-- the most frames of the host
abbrev pub frame_limit : ℕ
frame_limit = 9

-- the bytes of the stack: nine times the most that such a function takes
abbrev pub stack_bytes : ℕ → Notes → ℕ
stack_bytes w notes = frame_limit * most_bytes w notes.entry 0 notes.function

-- ---- addresses

-- Where the host's things lie: the bases of the native area, of the stack, of the image, and of the script's objects, those at
-- the start first, and then those that its calls make.
pub record Placement : Type 0 where
  pub native : ℕ
  pub stack : ℕ
  pub image : ℕ
  pub objects : List ℕ

-- the address past the stack, which is R0 where no function is entered
abbrev pub stack_end : ℕ → Notes → Placement → ℕ
stack_end w notes P = P.stack + stack_bytes w notes

-- where the native area, the stack and the image lie
abbrev pub native_range : Notes → Placement → Range
native_range notes P = record { base = P.native; size = area_bytes notes }

abbrev pub stack_range : ℕ → Notes → Placement → Range
stack_range w notes P = record { base = P.stack; size = stack_bytes w notes }

abbrev pub image_range : World → Placement → Range
image_range world P = record { base = P.image; size = world.image_size }

-- the address of a method
abbrev pub method_at : Placement → ℕ → ℕ
method_at P m = P.native + area_step * (1 + m)

-- the address of a function's thunk
abbrev pub thunk_at : Notes → Placement → ℕ → ℕ
thunk_at notes P f = P.native + area_step * (1 + length notes.methods + f)

-- the address of a handle
abbrev pub handle_at : Notes → Placement → ℕ → ℕ
handle_at notes P k = P.native + area_step * (1 + length notes.methods + length notes.function + k)

-- the place of a static object
abbrev pub static_place : Notes → ℕ → ℕ
static_place notes k = option_map_or (λ (s : Static). s.place) (slice_get notes.statics k) 0

-- the base of a typed object: a static one lies in the image
unfoldable pub object_at : Notes → Placement → ℕ → ℕ
object_at notes P k =
    if nat_lt k (length notes.statics) then P.image + static_place notes k
    else slice_index P.objects (k - length notes.statics)

-- the address of an instance of a typed object that is made
abbrev pub instance_address : ℕ → Notes → Placement → List TypedObject → (object instance : ℕ) → ℕ
instance_address w notes P made object instance =
    object_at notes P object + instance * option_map_or (λ (o : TypedObject). shape_bytes w notes o.shape) (slice_get made object) 0

-- where a typed object of that number lies
abbrev pub object_range : ℕ → Notes → Placement → ℕ → TypedObject → Range
object_range w notes P k o = record { base = object_at notes P k; size = object_bytes w notes o }

-- the place of a function, and the address of its code
abbrev pub place_of : Notes → ℕ → ℕ
place_of notes f = option_map_or (λ (g : FnNote). g.place) (slice_get notes.function f) 0

abbrev pub code_at : Notes → Placement → ℕ → ℕ
code_at notes P f = P.image + place_of notes f

-- an address, where the thing is one of so many
abbrev pub there : ℕ → ℕ → ℕ → Option ℕ
there count i address = if nat_lt i count then Some address else None

-- the address of a method, of a function's thunk, of a handle: none where there is no such thing
abbrev pub method_address : Notes → Placement → ℕ → Option ℕ
method_address notes P m = there (length notes.methods) m (method_at P m)

abbrev pub entry_address : Notes → Placement → ℕ → Option ℕ
entry_address notes P f = there (length notes.function) f (thunk_at notes P f)

abbrev pub handle_address : Notes → Placement → ℕ → Option ℕ
handle_address notes P k = there handle_count k (handle_at notes P k)

-- the base of a typed object that has one, and the address of a thunk cell of the notes
abbrev pub object_address : Notes → Placement → ℕ → Option ℕ
object_address notes P k = there (length notes.statics + length P.objects) k (object_at notes P k)

abbrev pub thunk_cell_address : Notes → Placement → ℕ → Option ℕ
thunk_cell_address notes P i = option_map (λ (t : Thunk). P.image + t.place) (slice_get notes.thunk i)

-- ---- placements

-- the objects of a script at their bases
unfoldable pub script_ranges : ℕ → Notes → List ScriptObject → List ℕ → List Range
script_ranges w notes (o ∷ os) (b ∷ bs) = record { base = b; size = object_bytes w notes (script_object o) } ∷ script_ranges w notes os bs
script_ranges w notes _ _ = []

-- all that the host has placed once so many of the script's calls were accepted, in the order in which it places it
unfoldable pub placed_ranges : ℕ → World → Placement → ℕ → List Range
placed_ranges w world P entries =
    native_range world.notes P
    ∷ stack_range w world.notes P
    ∷ image_range world P
    ∷ script_ranges w world.notes (placed_objects world.script entries) P.objects

-- all that it ever places
abbrev pub all_ranges : ℕ → World → Placement → List Range
all_ranges w world P = placed_ranges w world P (length world.script.call)

-- Neither address 0 nor an address past the width lies in a range.
pub record IsWithin (w : ℕ) (r : Range) : Type 0 where
  pub above : (0 < r.base) ⊎ (r.size ≡ 0)
  pub below : r.base + r.size ≤ 2 ^ (8 * w)

-- A valid placement at a width: each of the script's objects has a base; all that the host places is apart from one another
-- and within the width; and the bases of the native area and of the image are even, so that code goes to even addresses.
pub record IsPlacement (w : ℕ) (world : World) (P : Placement) : Type 0 where
  pub each : length P.objects ≡ length (placed_objects world.script (length world.script.call))
  pub apart : AllPairs AreDisjoint (all_ranges w world P)
  pub within : All (IsWithin w) (all_ranges w world P)
  pub even_native : P.native % 2 ≡ 0
  pub even_image : P.image % 2 ≡ 0

-- ---- this project's own placement

-- the bases of objects that are placed one after the other from an address on, each with its padding and gap
unfoldable pub bases_from : ℕ → Notes → ℕ → List ScriptObject → List ℕ
bases_from w notes base [] = []
bases_from w notes base (o ∷ os) = base ∷ bases_from w notes (base + padded (object_bytes w notes (script_object o))) os

-- the placement that this project takes at a width
unfoldable pub own_placement : ℕ → World → Placement
own_placement w world =
    let stack = first_base w + padded (area_bytes world.notes) in
    let image = stack + padded (stack_bytes w world.notes) in
    record {
      native = first_base w;
      stack = stack;
      image = image;
      objects = bases_from w world.notes (image + padded world.image_size) (placed_objects world.script (length world.script.call));
    }
