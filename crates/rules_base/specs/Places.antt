-- Meaning: the places that an operand in memory names. docs/RULES.md, "Places", has the words.
use Rattle.std.specs.Prelude.{ℕ, ◌-◌, ◌/◌, ◌%◌, ◌^◌, Bool, false, ◌&&◌, nat_le, nat_lt, nat_eq, if◌then◌else◌, Option, Some, None, List, []}
use Rattle.std.specs.Prelude.{◌∷◌, slice_get, position, pos, ◌+ℤ◌, int_le, unsigned_abs, bit_or}
use Rattle.std.specs.Ordering.{int_eq}
use Rattle.note_types.specs.States.{type_of}
use Rattle.note_types.specs.declared.cell.Cell.{Cell}
use Rattle.note_types.specs.declared.cell.SlotKind.{SlotKind}
use Rattle.note_types.specs.declared.cell.SlotKind.TheVariants.{N, Q, D}
use Rattle.note_types.specs.declared.items.Item.{Item}
use Rattle.note_types.specs.declared.items.Item.TheVariants.{Slot, Locals}
use Rattle.note_types.specs.declared.notes.FnNote.{FnNote}
use Rattle.note_types.specs.declared.notes.Notes.{Notes}
use Rattle.note_types.specs.declared.notes.Pair.{Pair}
use Rattle.note_types.specs.declared.notes.Param.{Param}
use Rattle.note_types.specs.declared.shape.Field.{Field}
use Rattle.note_types.specs.declared.shape.Shape.{Shape}
use Rattle.note_types.specs.declared.state.State.{State}
use Rattle.note_types.specs.declared.types.Ty.{Ty}
use Rattle.note_types.specs.declared.types.Ty.TheVariants.{Ptr, Local, Lent, ThunkAt}
use Rattle.rules_base.specs.declared.operand.Distance.{Distance}
use Rattle.rules_base.specs.declared.place.Place.{Place}
use Rattle.rules_base.specs.declared.place.Place.TheVariants as place
use Rattle.rules_base.specs.declared.place.Reach.{Reach}
use Rattle.rules_base.specs.Parts.{and_then}
use Rattle.std.specs.Option.{option_or}
use Rattle.note_types.specs.Known.{local_fields, locals_of}
use Rattle.ebc_base.specs.Steps.{only_if}

-- ---- sets of local fields

-- the set has the field
abbrev pub has_field : ℕ → ℕ → Bool
has_field set f = nat_lt f 64 && nat_eq (set / 2 ^ f % 2) 1

-- the set of one field
abbrev pub only_field : ℕ → ℕ
only_field f = if nat_lt f 64 then 2 ^ f else 0

-- the set with the field
abbrev pub with_field : ℕ → ℕ → ℕ
with_field set f = bit_or set (only_field f)

-- ---- sizes

-- what a slot takes of the stack
abbrev pub slot_size : SlotKind → Pair
slot_size N = record { n = 1; c = 0 }
slot_size Q = record { n = 0; c = 8 }
slot_size D = record { n = 0; c = 4 }

-- what a function's locals take of the stack
abbrev pub size_of : Option Shape → Pair
size_of None = record { n = 0; c = 0 }
size_of (Some s) = record { n = s.n; c = s.c }

unfoldable pub locals_size : Notes → FnNote → Pair
locals_size notes f = size_of (locals_of notes f)

-- ---- fields

-- a field begins at exactly this pair
abbrev pub begins_at : Reach → Field → Bool
begins_at at x = int_eq (pos x.n) at.n && int_eq (pos x.c) at.c

-- the number of the field at a pair
unfoldable pub field_number_at : List Field → Reach → Option ℕ
field_number_at fields at = position (begins_at at) fields

-- the cell of a field
unfoldable pub cell_of : List Field → ℕ → Option Cell
cell_of fields f = and_then (slice_get fields f) (λ x. Some x.cell)

-- a local field, of which there are at most 64
abbrev pub local_field : List Field → ℕ → Option Place
local_field fields f = and_then (cell_of fields f) (λ cell. only_if (nat_lt f 64) (place.Local f cell))

-- the local field at a pair
abbrev pub local_at : List Field → ℕ → ℕ → Option Place
local_at fields n c = and_then (field_number_at fields (record { n = pos n; c = pos c })) (local_field fields)

-- ---- the stack

-- what lies so many natural units and bytes past something
abbrev pub past : Pair → ℕ → ℕ → (ℕ → ℕ → Option Place) → Option Place
past size n c rest = if nat_le size.n n && nat_le size.c c then rest (n - size.n) (c - size.c) else None

-- the parameter at a pair above the return cell
unfoldable pub parameter_at : List Param → ℕ → ℕ → Option Place
parameter_at [] n c = None
parameter_at (p ∷ ps) n c =
    if nat_eq n 0 && nat_eq c 0 then Some (place.Parameter p.kind p.ty)
    else past (slot_size p.kind) n c (parameter_at ps)

-- what lies at a pair above the top of the stack: a local field, or past all items and the return cell of 16 bytes a
-- parameter
unfoldable pub stack_at : List Field → Pair → List Param → List Item → ℕ → ℕ → Option Place
stack_at fields size params [] n c = if nat_le 16 c then parameter_at params n (c - 16) else None
stack_at fields size params (Slot kind ty ∷ items) n c = past (slot_size kind) n c (stack_at fields size params items)
stack_at fields size params (Locals ∷ items) n c =
    option_or (local_at fields n c) (past size n c (stack_at fields size params items))

-- what lies at a distance from R0
abbrev pub from_stack : List Field → Pair → List Param → List Item → Distance → Option Place
from_stack fields size params items d =
    if int_le (pos 0) d.n && int_le (pos 0) d.c
    then stack_at fields size params items (unsigned_abs d.n) (unsigned_abs d.c)
    else None

-- ---- the place that a register and a distance name

-- a cell of an object
abbrev pub object_cell : Bool → Cell → Option Place
object_cell null cell = Some (place.Object cell null)

-- the field of an object of a shape at a pair
unfoldable pub field_place : Shape → Reach → Bool → Option Place
field_place s at null = and_then (field_number_at s.fields at) (λ f. and_then (cell_of s.fields f) (object_cell null))

-- the field of an instance of a shape at a pair
abbrev pub instance_field : List Shape → ℕ → Reach → Bool → Option Place
instance_field shapes shape at null = and_then (slice_get shapes shape) (λ s. field_place s at null)

-- no distance
abbrev pub is_nowhere : Distance → Bool
is_nowhere d = int_eq d.n (pos 0) && int_eq d.c (pos 0)

-- what a pointer and a distance name
abbrev pub pointed : Notes → FnNote → Ty → Distance → Option Place
pointed notes f (Ptr s k n c null) d = instance_field notes.shape s (record { n = n +ℤ d.n; c = c +ℤ d.c }) null
pointed notes f (Local x) d = if is_nowhere d then local_field (local_fields notes f) x else None
pointed notes f (Lent cell) d = if is_nowhere d then Some (place.Object cell false) else None
pointed notes f (ThunkAt i) d = if is_nowhere d then Some (place.ThunkCell i) else None
pointed notes f _ d = None

-- the place that a register and a distance name
unfoldable pub place_at : Notes → FnNote → State → ℕ → Distance → Option Place
place_at notes f s r d =
    if nat_eq r 0 then from_stack (local_fields notes f) (locals_size notes f) f.params s.items d else pointed notes f (type_of s r) d
