-- For proofs: how the host reads neutral values: the reading that their numbers have at both widths, and none where the
-- numbers could be read apart. docs/HOST.md, "Readings".
use Rattle.std.specs.Prelude.{ℕ, ◌^◌, ◌&&◌, List, [], ◌∷◌, Option, Some, None, nat_eq, nat_lt, if◌then◌else◌, slice_get}
use Rattle.std.specs.Option.{option_map, option_and_then}
use Rattle.ebc_insn.specs.declared.Size.TheVariants as sizes
use Rattle.note_types.specs.BelowTests.{same_cell, same_kind}
use Rattle.host_model.specs.declared.object.TypedObject.{TypedObject}
use Rattle.host_model.specs.Readings.{Sort, Anything, Number, SizeOf, Pointer, HandleOf, EntryOf, StatusOf, MethodOf, Role, GivenAs}
use Rattle.host_model.specs.Readings.{OutCell, InoutCell, role_of, sort_of_cell, before_all}
use Rattle.host_model.specs.ScriptValues.{given, lent}
use Rattle.note_types.specs.declared.cell.Cell.{Cell}
use Rattle.note_types.specs.declared.cell.Cell.TheVariants as cell
use Rattle.note_types.specs.declared.cell.SlotKind.{SlotKind}
use Rattle.note_types.specs.declared.cell.SlotKind.TheVariants.{N, Q, D}
use Rattle.note_types.specs.declared.notes.Notes.{Notes}
use Rattle.note_types.specs.declared.notes.WantParam.{WantParam}
use Rattle.note_types.specs.declared.seen.Seen.{Seen}
use Rattle.note_types.specs.declared.shape.Field.{Field}
use Rattle.note_types.specs.declared.shape.Shape.{Shape}
use Rattle.note_types.specs.declared.value.Value.{Value}
use Rattle.note_types.specs.declared.value.Value.TheVariants as value
use Rattle.host_model.specs.Values.{Neutral, Num, At, Handle, Method, Entry, Error, Junk, LocalOf, CellPlace, FieldOfLocals, Cells, word}
use Rattle.neutral_machine.specs.Config.{StackItem, Pushed, Frame, locals_at}
use Rattle.neutral_machine.specs.Locations.{Access, Move, kept}
use Rattle.neutral_machine.specs.Operations.{Instance, instance_of, kept_natural}
use Rattle.ebc_base.specs.Steps.{only_if}

-- ---- values

-- a pair as a plain number
abbrev pub as_number : ℕ → ℕ → Option Value
as_number n c = only_if (nat_eq n 0) (value.Int (word c))

-- a pair as null
abbrev pub as_null : ℕ → ℕ → Option Value
as_null n c = only_if (nat_eq n 0 && nat_eq (word c) 0) value.Null

-- a pair as a status without error
abbrev pub as_success : ℕ → ℕ → Option Value
as_success n c = only_if (nat_eq n 0 && nat_lt (word c) (2 ^ 31)) (value.StatusOk (word c))

-- an instance of a typed object as a pointer
abbrev pub as_pointer : Instance → Value
as_pointer x = value.Ptr x.object x.instance

-- the reading of a value as a sort of numbers
unfoldable pub neutral_reading : Notes → List TypedObject → Sort → Neutral → Option Value
neutral_reading notes made Anything v = Some value.Any
neutral_reading notes made Number (Num n c) = as_number n c
neutral_reading notes made (SizeOf n c) (Num m d) = only_if (nat_eq m n && nat_eq d c) (value.Size n c)
neutral_reading notes made Pointer (Num n c) = as_null n c
neutral_reading notes made Pointer (At a n c) = option_map as_pointer (instance_of notes made (At a n c))
neutral_reading notes made HandleOf (Num n c) = as_null n c
neutral_reading notes made HandleOf (Handle k) = Some (value.Handle k)
neutral_reading notes made EntryOf (Num n c) = as_null n c
neutral_reading notes made EntryOf (Entry f) = Some (value.Entry f)
neutral_reading notes made StatusOf (Num n c) = as_success n c
neutral_reading notes made StatusOf (Error k) = Some (value.StatusError k)
neutral_reading notes made MethodOf (Method m) = Some (value.Method m)
neutral_reading notes made _ _ = None

-- the reading of a function's result, of which the machine at a width looks at the natural part: a plain number has to be
-- below 2^32, and no result is a size
unfoldable pub neutral_result : Notes → List TypedObject → Sort → Neutral → Option Value
neutral_result notes made Number (Num n c) = if nat_lt (word c) (2 ^ 32) then as_number n c else None
neutral_result notes made (SizeOf n c) v = None
neutral_result notes made sort v = neutral_reading notes made sort v

-- ---- arguments

-- the cell of the locals of a frame that a value is the address of, where it has that kind
abbrev pub local_named : List Frame → Cell → Neutral → Option CellPlace
local_named frames cell (At (LocalOf d f) n c) =
    option_and_then (λ (x : Field). only_if (nat_eq n 0 && (nat_eq c 0 && same_cell x.cell cell)) (FieldOfLocals d f))
    (option_and_then (λ (s : Shape). slice_get s.fields f) (locals_at frames d))
local_named frames cell _ = None

-- how a cell is loaded
abbrev pub access_to : Cell → Access
access_to cell.I8 = Move sizes.Byte
access_to cell.I16 = Move sizes.Word
access_to cell.I32 = Move sizes.Dword
access_to cell.I64 = Move sizes.Qword
access_to (cell.P64 s k may) = Move sizes.Qword
access_to _ = Move sizes.Natural

-- what a cell gives back of the value in it
abbrev pub content_value : Notes → List TypedObject → Cell → Neutral → Neutral
content_value notes made c v = kept notes made (access_to c) v

-- an argument as the native call sees it
unfoldable pub neutral_argument : Notes → List TypedObject → List Frame → Cells → Role → Neutral → Option Seen
neutral_argument notes made frames cells (GivenAs sort) v = option_map given (neutral_reading notes made sort v)
neutral_argument notes made frames cells (OutCell c) v = option_map (λ p. given value.Out) (local_named frames c v)
neutral_argument notes made frames cells (InoutCell c) v =
    option_map lent (option_and_then (neutral_reading notes made (sort_of_cell c))
    (option_map (content_value notes made c) (option_and_then cells (local_named frames c v))))

-- the arguments, one for each parameter
unfoldable pub neutral_arguments : Notes → List TypedObject → List Frame → Cells → List WantParam → List Neutral → Option (List Seen)
neutral_arguments notes made frames cells (p ∷ ps) (v ∷ vs) =
    before_all (neutral_argument notes made frames cells (role_of p.want) v) (neutral_arguments notes made frames cells ps vs)
neutral_arguments notes made frames cells _ _ = Some []

-- ---- argument slots

-- the value that a slot of a kind gives back: in natural size what that keeps of it
abbrev pub slot_given : Notes → List TypedObject → SlotKind → Neutral → Neutral
slot_given notes made N v = kept_natural notes made v
slot_given notes made Q v = v
slot_given notes made D v = Junk

-- the values in the slots of a call's arguments: none unless these are pushed slots of their kinds
unfoldable pub neutral_slots : Notes → List TypedObject → List WantParam → List StackItem → Option (List Neutral)
neutral_slots notes made [] is = Some []
neutral_slots notes made (p ∷ ps) (Pushed kind v ∷ is) =
    if same_kind kind p.kind then before_all (Some (slot_given notes made kind v)) (neutral_slots notes made ps is) else None
neutral_slots notes made (p ∷ ps) _ = None
