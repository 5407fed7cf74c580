-- Meaning: what a type of a function's register or slot may name, and what a state of a function is: types within their
-- bounds, which name only things of the notes and fields of the function's locals. docs/NOTES.md says what a state is.
use Rattle.std.specs.Prelude.{◌≡◌, ℕ, ◌^◌, ◌<◌, ◌≤◌, Bool, true, false, List, [], Option, None, Some, length, option_and_then, slice_get}
use Rattle.std.specs.Prelude.{count_by, is_some, ⊤}
use Rattle.note_types.specs.Cells.{IsBoundedCell}
use Rattle.note_types.specs.FieldSets.{HasField}
use Rattle.note_types.specs.States.{type_of}
use Rattle.note_types.specs.Types.{IsBounded}
use Rattle.note_types.specs.declared.cell.Cell.{Cell}
use Rattle.note_types.specs.declared.cell.Cell.TheVariants as cell
use Rattle.note_types.specs.declared.cell.SlotKind.{SlotKind}
use Rattle.note_types.specs.declared.items.Item.{Item}
use Rattle.note_types.specs.declared.items.Item.TheVariants.{Slot, Locals}
use Rattle.note_types.specs.declared.notes.FnNote.{FnNote}
use Rattle.note_types.specs.declared.notes.Notes.{Notes}
use Rattle.note_types.specs.declared.shape.Field.{Field}
use Rattle.note_types.specs.declared.shape.Shape.{Shape}
use Rattle.note_types.specs.declared.state.Fact.{Fact}
use Rattle.note_types.specs.declared.state.State.{State}
use Rattle.note_types.specs.declared.types.Ty.{Ty}
use Rattle.note_types.specs.declared.types.Ty.TheVariants.{Any, Int, Lin, Scaled, Ptr, Local, Lent, Status, SignedStatus, Mask, Handle}
use Rattle.note_types.specs.declared.types.Ty.TheVariants.{Entry, Method, ThunkAt, Saved}

-- ---- a function's locals

-- the shape of a function's locals, where it has any
abbrev pub locals_of : Notes → FnNote → Option Shape
locals_of notes f = option_and_then (slice_get notes.shape) f.locals

-- the fields of a shape, none where there is no shape
abbrev pub fields_of : Option Shape → List Field
fields_of None = []
fields_of (Some s) = s.fields

-- the fields of a function's locals
unfoldable pub local_fields : Notes → FnNote → List Field
local_fields notes f = fields_of (locals_of notes f)

-- ---- types

-- the shape or method that a cell names is there
abbrev pub CellNames : Notes → Cell → Type 0
CellNames notes (cell.Ptr s k null) = s < length notes.shape
CellNames notes (cell.P64 s k null) = s < length notes.shape
CellNames notes (cell.Method m) = m < length notes.methods
CellNames notes _ = ⊤

-- a cell within its bounds that names only things of the notes
pub record IsKnownCell (notes : Notes) (cell : Cell) : Type 0 where
  pub bounded : IsBoundedCell cell
  pub names : CellNames notes cell

-- the fields of a set are fields of the function's locals
abbrev pub AreFields : Notes → FnNote → ℕ → Type 0
AreFields notes f set = (x : ℕ) → HasField set x → x < length (local_fields notes f)

-- what a type names is there: a thing of the notes, or a field of the function's locals
abbrev pub Names : Notes → FnNote → Ty → Type 0
Names notes f (Ptr s k n c null) = s < length notes.shape
Names notes f (Local x) = x < length (local_fields notes f)
Names notes f (Lent cell) = CellNames notes cell
Names notes f (Status g) = AreFields notes f g
Names notes f (SignedStatus g) = AreFields notes f g
Names notes f (Method m) = m < length notes.methods
Names notes f (ThunkAt i) = i < length notes.thunk
Names notes f Any = ⊤
Names notes f (Int lo hi div) = ⊤
Names notes f (Lin n c) = ⊤
Names notes f (Scaled n c hi) = ⊤
Names notes f Mask = ⊤
Names notes f Handle = ⊤
Names notes f Entry = ⊤
Names notes f (Saved r) = ⊤

-- a type within its bounds that names only what is there
pub record IsKnown (notes : Notes) (f : FnNote) (t : Ty) : Type 0 where
  pub bounded : IsBounded t
  pub names : Names notes f t

-- ---- states

-- whether an item is the function's locals
abbrev pub is_locals : Item → Bool
is_locals Locals = true
is_locals (Slot kind t) = false

-- whether an item is a slot
abbrev pub is_slot : Item → Bool
is_slot (Slot kind t) = true
is_slot Locals = false

-- the fact is about one of R1 to R7, and its constant has 64 bits
abbrev pub IsFact : Fact → Type 0
IsFact x = (1 ≤ x.reg) × (x.reg < 8) × (x.k < 2 ^ 64)

-- A state between two instructions of a function: a known type for each of R1 to R7 and for each slot, of which there are
-- at most 64, the function's locals at most once and only where it has any, and perhaps a fact. R0 has no type of its own.
pub record IsState (notes : Notes) (f : FnNote) (s : State) : Type 0 where
  pub eight : length s.regs ≡ 8
  pub unused : type_of s 0 ≡ Any
  pub registers : (r : ℕ) → IsKnown notes f (type_of s r)
  pub slots : (k : ℕ) (kind : SlotKind) (t : Ty) → slice_get s.items k ≡ Some (Slot kind t) → IsKnown notes f t
  pub few : count_by is_slot s.items ≤ 64
  pub once : count_by is_locals s.items ≤ 1
  pub there : (k : ℕ) → slice_get s.items k ≡ Some Locals → is_some f.locals ≡ true
  pub fact : (x : Fact) → s.fact ≡ Some x → IsFact x
