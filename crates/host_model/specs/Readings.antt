-- Meaning: how the host reads numbers at a width of w bytes: as the values that scripts write, where a number has such a
-- reading, and else as the number itself. docs/HOST.md, "Readings".
use Rattle.std.specs.Prelude.{ℕ, suc, ◌+◌, ◌-◌, ◌*◌, ◌/◌, ◌%◌, ◌^◌, Bool, ◌&&◌, List, [], ◌∷◌, length, Option, Some, None, nat_eq, nat_le}
use Rattle.std.specs.Prelude.{nat_lt, if◌then◌else◌}
use Rattle.std.specs.Option.{option_map, option_or, option_and_then}
use Rattle.ebc_width.specs.Width.{cut_at}
use Rattle.ebc_width.specs.Bytes.{little_endian}
use Rattle.ebc_width.specs.Ranges.{covers}
use Rattle.note_types.specs.Cells.{cell_size}
use Rattle.note_types.specs.Concrete.{Concrete, loaded}
use Rattle.host_model.specs.Objects.{TypedObject}
use Rattle.host_model.specs.Placements.{Placement, slot_bytes, shape_bytes, area_step, handle_count, stack_range, method_at, thunk_at}
use Rattle.host_model.specs.Placements.{handle_at, object_at}
use Rattle.host_model.specs.ScriptValues.{given, lent}
use Rattle.host_model.specs.Values.{error_bit, word}
use Rattle.note_types.specs.declared.cell.Cell.{Cell}
use Rattle.note_types.specs.declared.cell.Cell.TheVariants as cell
use Rattle.note_types.specs.declared.notes.Notes.{Notes}
use Rattle.note_types.specs.declared.notes.Want.{Want}
use Rattle.note_types.specs.declared.notes.Want.TheVariants as want
use Rattle.note_types.specs.declared.notes.WantParam.{WantParam}
use Rattle.note_types.specs.declared.seen.Seen.{Seen}
use Rattle.note_types.specs.declared.types.Ty.{Ty}
use Rattle.note_types.specs.declared.types.Ty.TheVariants as ty
use Rattle.note_types.specs.declared.value.Value.{Value}
use Rattle.note_types.specs.declared.value.Value.TheVariants as value

-- ---- what a number is read as

-- A sort of numbers, as far as reading goes.
pub data Sort : Type 0 where
  Anything : Sort
  Number : Sort
  SizeOf : (n c : ℕ) → Sort
  Pointer : Sort
  HandleOf : Sort
  EntryOf : Sort
  StatusOf : Sort
  MethodOf : Sort

-- what the content of a cell is read as
abbrev pub sort_of_cell : Cell → Sort
sort_of_cell cell.I8 = Number
sort_of_cell cell.I16 = Number
sort_of_cell cell.I32 = Number
sort_of_cell cell.I64 = Number
sort_of_cell cell.N = Number
sort_of_cell cell.Stat = StatusOf
sort_of_cell cell.Handle = HandleOf
sort_of_cell cell.Entry = EntryOf
sort_of_cell (cell.Ptr s k null) = Pointer
sort_of_cell (cell.P64 s k null) = Pointer
sort_of_cell (cell.Method m) = MethodOf

-- what a function's result of a type is read as
abbrev pub sort_of_type : Ty → Sort
sort_of_type (ty.Int lo hi div) = Number
sort_of_type (ty.Ptr s k n c null) = Pointer
sort_of_type (ty.Status g) = StatusOf
sort_of_type ty.Handle = HandleOf
sort_of_type ty.Entry = EntryOf
sort_of_type (ty.Method m) = MethodOf
sort_of_type _ = Anything

-- what an argument is: a number of a sort, or the address of a cell that the method writes, or reads and may write
pub data Role : Type 0 where
  GivenAs : (sort : Sort) → Role
  OutCell : (cell : Cell) → Role
  InoutCell : (cell : Cell) → Role

-- the role of an argument of which this is wanted
abbrev pub role_of : Want → Role
role_of want.Any = GivenAs Anything
role_of (want.Int lo hi) = GivenAs Number
role_of (want.Size n c) = GivenAs (SizeOf n c)
role_of want.Ptr = GivenAs Pointer
role_of want.Handle = GivenAs HandleOf
role_of want.Status = GivenAs StatusOf
role_of want.Entry = GivenAs EntryOf
role_of (want.Out c) = OutCell c
role_of (want.Inout c) = InoutCell c

-- ---- addresses that name things

-- which of so many things, 16 bytes each from an address on, begins at x
abbrev pub thing_at : ℕ → ℕ → ℕ → Option ℕ
thing_at first count x =
    if nat_le first x && (nat_lt (x - first) (area_step * count) && nat_eq ((x - first) % area_step) 0) then Some ((x - first) / area_step)
    else None

-- the method whose address is x
abbrev pub method_named : Notes → Placement → ℕ → Option ℕ
method_named notes P x = thing_at (method_at P 0) (length notes.methods) x

-- the function whose thunk's address is x
abbrev pub entry_named : Notes → Placement → ℕ → Option ℕ
entry_named notes P x = thing_at (thunk_at notes P 0) (length notes.function) x

-- the handle whose address is x
abbrev pub handle_named : Notes → Placement → ℕ → Option ℕ
handle_named notes P x = thing_at (handle_at notes P 0) handle_count x

-- which of so many instances of a size, from a base on, begins at x
abbrev pub instance_named : ℕ → ℕ → ℕ → ℕ → Option ℕ
instance_named base size count x =
    if nat_eq x base then Some 0
    else if nat_lt base x && (nat_lt (x - base) (count * size) && nat_eq ((x - base) % size) 0) then Some ((x - base) / size)
    else None

-- the instance that begins at x, of the first of these objects that has one there; they are numbered from k on
unfoldable pub pointer_from : ℕ → Notes → Placement → ℕ → List TypedObject → ℕ → Option Value
pointer_from w notes P k [] x = None
pointer_from w notes P k (o ∷ os) x =
    option_or (option_map (λ i. value.Ptr k i) (instance_named (object_at notes P k) (shape_bytes w notes o.shape) o.count x))
    (pointer_from w notes P (suc k) os x)

-- ---- readings

-- a reading, or the number itself where it has none
abbrev pub or_wild : ℕ → Option Value → Value
or_wild x None = value.Wild x
or_wild x (Some v) = v

-- null, or another reading
abbrev pub or_null : ℕ → Option Value → Option Value
or_null x v = if nat_eq x 0 then Some value.Null else v

-- the status that a number is: a code below 2^31, or one with the error bit
abbrev pub status_read : ℕ → ℕ → Option Value
status_read w x =
    if nat_lt x (2 ^ 31) then Some (value.StatusOk x)
    else if nat_le (error_bit w) x && nat_lt (x - error_bit w) (2 ^ 31) then Some (value.StatusError (x - error_bit w))
    else None

-- the reading of a number of a sort, under the typed objects that are made
unfoldable pub reading_of : ℕ → Notes → Placement → List TypedObject → Sort → ℕ → Value
reading_of w notes P made Anything x = value.Any
reading_of w notes P made Number x = value.Int x
reading_of w notes P made (SizeOf n c) x = if nat_eq x (word (n * w + c)) then value.Size n c else value.Wild x
reading_of w notes P made Pointer x = or_wild x (or_null x (pointer_from w notes P 0 made x))
reading_of w notes P made HandleOf x = or_wild x (or_null x (option_map value.Handle (handle_named notes P x)))
reading_of w notes P made EntryOf x = or_wild x (or_null x (option_map value.Entry (entry_named notes P x)))
reading_of w notes P made StatusOf x = or_wild x (status_read w x)
reading_of w notes P made MethodOf x = or_wild x (option_map value.Method (method_named notes P x))

-- whether a cell at x lies in the stack
abbrev pub in_stack : ℕ → Notes → Placement → Cell → ℕ → Bool
in_stack w notes P c x = covers x (cell_size w c) (stack_range w notes P)

-- an argument as the native call sees it, where memory holds these bytes
unfoldable pub argument_read : ℕ → Notes → Placement → List TypedObject → (ℕ → ℕ) → Role → ℕ → Seen
argument_read w notes P made byte (GivenAs sort) x = given (reading_of w notes P made sort x)
argument_read w notes P made byte (OutCell c) x = given (if in_stack w notes P c x then value.Out else value.Wild x)
argument_read w notes P made byte (InoutCell c) x =
    if in_stack w notes P c x then lent (reading_of w notes P made (sort_of_cell c) (little_endian byte x (cell_size w c)))
    else given (value.Wild x)

-- the arguments, one for each parameter
unfoldable pub arguments_read : ℕ → Notes → Placement → List TypedObject → (ℕ → ℕ) → List WantParam → List ℕ → List Seen
arguments_read w notes P made byte (p ∷ ps) (x ∷ xs) = argument_read w notes P made byte
    (role_of p.want) x ∷ arguments_read w notes P made byte ps xs
arguments_read w notes P made byte _ _ = []

-- ---- argument slots

-- one more number before others, where each is there
abbrev pub before_all : {A : Type 0} → Option A → Option (List A) → Option (List A)
before_all first rest = option_and_then (λ x. option_map (λ xs. x ∷ xs) rest) first

-- the numbers in the slots of a call's arguments, from address r on: none unless each slot is mapped
unfoldable pub slots_from : ℕ → Concrete → ℕ → List WantParam → Option (List ℕ)
slots_from w s r [] = Some []
slots_from w s r (p ∷ ps) = before_all (loaded s (cut_at w r) (slot_bytes w p.kind)) (slots_from w s (r + slot_bytes w p.kind) ps)
