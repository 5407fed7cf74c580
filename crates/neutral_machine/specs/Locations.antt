-- For proofs: what a register and a pair name: a cell of a typed object, of the function's own locals or of a local that was
-- lent, a parameter, or a thunk cell. An access has to name its beginning exactly, and to be of its size and kind.
-- docs/RULES.md, "Places" and "Access".
use Rattle.std.specs.Prelude.{ℕ, suc, ◌+◌, ◌*◌, ◌^◌, Bool, true, false, ◌&&◌, ◌||◌, List, [], ◌∷◌, length, take, Option, Some, None, nat_eq}
use Rattle.std.specs.Prelude.{nat_lt, if◌then◌else◌, slice_get}
use Rattle.std.specs.Option.{option_map, option_or, option_and_then}
use Rattle.ebc_insn.specs.declared.Size.{Size}
use Rattle.ebc_insn.specs.declared.Size.TheVariants as sizes
use Rattle.note_types.specs.declared.cell.Cell.{Cell}
use Rattle.note_types.specs.declared.cell.Cell.TheVariants as cell
use Rattle.note_types.specs.declared.cell.SlotKind.{SlotKind}
use Rattle.note_types.specs.declared.cell.SlotKind.TheVariants.{N, Q, D}
use Rattle.note_types.specs.declared.notes.FnNote.{FnNote}
use Rattle.note_types.specs.declared.notes.Notes.{Notes}
use Rattle.note_types.specs.declared.notes.Thunk.{Thunk}
use Rattle.note_types.specs.declared.shape.Field.{Field}
use Rattle.note_types.specs.declared.shape.Shape.{Shape}
use Rattle.host_model.specs.Values.{Neutral, At, Handle, Method, Entry, Error, ObjectOf, ThunkOf, LocalOf, CellPlace, FieldOf}
use Rattle.host_model.specs.Values.{FieldOfLocals, plain, word}
use Rattle.neutral_machine.specs.Config.{StackItem, Pushed, LocalsOf, Frame, Function, Host, Config, depth}
use Rattle.host_model.specs.declared.object.TypedObject.{TypedObject}
use Rattle.host_model.specs.Objects.{shape_of}
use Rattle.host_model.specs.Placements.{return_cell}
use Rattle.host_model.specs.ScriptValues.{has_instances}
use Rattle.host_model.specs.World.{World}
use Rattle.neutral_machine.specs.Memory.{memory_of, cell_field, with_cell}
use Rattle.neutral_machine.specs.Operations.{kept_natural, narrowed, instance_at, instance_of, Instance, is_null}

-- ---- accesses

-- How an instruction reads or writes memory: as a move of a size, as a form of 64 or of 32 bits, or as MOVsn does.
pub data Access : Type 0 where
  Move : (size : Size) → Access
  Form : (wide : Bool) → Access
  Signed : Access

-- the bytes of an access
abbrev pub access_bytes : ℕ → Access → ℕ
access_bytes w (Move sizes.Byte) = 1
access_bytes w (Move sizes.Word) = 2
access_bytes w (Move sizes.Dword) = 4
access_bytes w (Move sizes.Qword) = 8
access_bytes w (Move sizes.Natural) = w
access_bytes w (Form true) = 8
access_bytes w (Form false) = 4
access_bytes w Signed = w

-- whether an access of 8, 16, 32 or 64 bits, or of natural size, is of this kind
abbrev pub is_byte : Access → Bool
is_byte (Move sizes.Byte) = true
is_byte _ = false

abbrev pub is_word : Access → Bool
is_word (Move sizes.Word) = true
is_word _ = false

abbrev pub is_dword : Access → Bool
is_dword (Move sizes.Dword) = true
is_dword (Form false) = true
is_dword _ = false

abbrev pub is_qword : Access → Bool
is_qword (Move sizes.Qword) = true
is_qword (Form true) = true
is_qword _ = false

abbrev pub is_natural : Access → Bool
is_natural (Move sizes.Natural) = true
is_natural _ = false

abbrev pub is_signed : Access → Bool
is_signed Signed = true
is_signed _ = false

-- which accesses read a cell
abbrev pub reads : Access → Cell → Bool
reads a cell.I8 = is_byte a
reads a cell.I16 = is_word a
reads a cell.I32 = is_dword a
reads a cell.I64 = is_qword a
reads a cell.N = is_natural a
reads a cell.Stat = is_natural a || is_signed a
reads a cell.Handle = is_natural a
reads a cell.Entry = is_natural a
reads a (cell.Ptr s k may) = is_natural a
reads a (cell.P64 s k may) = is_qword a
reads a (cell.Method m) = is_natural a

-- which accesses write a cell
abbrev pub writes : Access → Cell → Bool
writes a (cell.Method m) = false
writes a cell.Stat = is_natural a
writes a c = reads a c

-- which accesses read a parameter in a slot of a kind; of a wide slot MOVsn reads the low bytes at width 4
abbrev pub reads_slot : Access → SlotKind → Bool
reads_slot (Move sizes.Natural) N = true
reads_slot Signed N = true
reads_slot Signed Q = true
reads_slot (Move sizes.Qword) Q = true
reads_slot _ _ = false

-- what an access keeps of a value
abbrev pub kept : Notes → List TypedObject → Access → Neutral → Neutral
kept notes objects (Move sizes.Byte) v = narrowed 8 v
kept notes objects (Move sizes.Word) v = narrowed 16 v
kept notes objects (Move sizes.Dword) v = narrowed 32 v
kept notes objects (Move sizes.Qword) v = v
kept notes objects (Move sizes.Natural) v = kept_natural notes objects v
kept notes objects (Form true) v = v
kept notes objects (Form false) v = narrowed 32 v
kept notes objects Signed v = kept_natural notes objects v

-- ---- locations

-- a pair of natural units and bytes, modulo 2 ^ 64
pub record Offset : Type 0 where
  pub n : ℕ
  pub c : ℕ

-- What an address names: a cell, a parameter of the function by its number, or a thunk cell.
pub data Location : Type 0 where
  CellAt : CellPlace → Location
  ParamAt : (number : ℕ) → Location
  ThunkAt : (thunk : ℕ) → Location

-- whether a pair is that of a field of instance i of a shape
abbrev pub is_field : Shape → ℕ → ℕ → ℕ → Field → Bool
is_field s i n c z = nat_eq n (word (i * s.n + z.n)) && nat_eq c (word (i * s.c + z.c))

-- the number of the first field that meets a test, fields being counted from f on
abbrev pub find_field : (Field → Bool) → ℕ → List Field → Option ℕ
find_field t f [] = None
find_field t f (z ∷ zs) = if t z then Some f else find_field t (suc f) zs

-- the cell at a pair past the start of an object
abbrev pub cell_in : Notes → ℕ → ℕ → ℕ → TypedObject → Option CellPlace
cell_in notes k n c o =
    let s = shape_of notes o.shape in
    let i = instance_at s n c in
    if nat_lt i o.count then option_map (FieldOf k i) (find_field (is_field s i n c) 0 s.fields) else None

-- what a pair past an anchor names
unfoldable pub located_past : Notes → List TypedObject → Neutral → Option Location
located_past notes objects (At (ObjectOf k) n c) = option_map CellAt (option_and_then (cell_in notes k n c) (slice_get objects k))
located_past notes objects (At (ThunkOf i) n c) = if nat_eq n 0 && nat_eq c 0 then Some (ThunkAt i) else None
located_past notes objects (At (LocalOf d f) n c) = if nat_eq n 0 && nat_eq c 0 then Some (CellAt (FieldOfLocals d f)) else None
located_past notes objects _ = None

-- the parameters of the function on top: the slots below it that its note has types for
abbrev pub parameter_count : Option FnNote → ℕ
parameter_count None = 0
parameter_count (Some f) = length f.params

abbrev pub items_below : List Frame → List StackItem
items_below [] = []
items_below (Function f ∷ fs) = f.items
items_below (Host h ∷ fs) = h.params

abbrev pub parameters_of : Notes → List Frame → List StackItem
parameters_of notes [] = []
parameters_of notes (Function f ∷ fs) = take (parameter_count (slice_get notes.function f.func)) (items_below fs)
parameters_of notes (Host h ∷ fs) = []

-- the natural units and the bytes of an item
abbrev pub item_units : StackItem → ℕ
item_units (Pushed N v) = 1
item_units (Pushed Q v) = 0
item_units (Pushed D v) = 0
item_units (LocalsOf s) = s.n

abbrev pub item_bytes : StackItem → ℕ
item_bytes (Pushed N v) = 0
item_bytes (Pushed Q v) = 8
item_bytes (Pushed D v) = 4
item_bytes (LocalsOf s) = s.c

-- the number of the parameter at a pair, the slots being counted from j on and the first of them being at (n, c)
abbrev pub parameter_at : Offset → ℕ → ℕ → ℕ → List StackItem → Option Location
parameter_at at j n c [] = None
parameter_at at j n c (i ∷ is) =
    if nat_eq at.n n && nat_eq at.c c then Some (ParamAt j)
    else parameter_at at (suc j) (n + item_units i) (c + item_bytes i) is

-- the local field at a pair, where the locals begin at (n, c)
abbrev pub local_field : Offset → ℕ → ℕ → ℕ → Shape → Option Location
local_field at d n c s = option_map (λ f. CellAt (FieldOfLocals d f))
    (find_field (λ (z : Field). nat_eq at.n (n + z.n) && nat_eq at.c (c + z.c)) 0 s.fields)

-- what a pair above R0 names, where the frame's items begin at (n, c) and its parameters are these
abbrev pub located_among : Offset → ℕ → ℕ → ℕ → List StackItem → List StackItem → Option Location
located_among at d n c params [] = parameter_at at 0 n (c + return_cell) params
located_among at d n c params (Pushed kind v ∷ is) = located_among at d (n + item_units (Pushed kind v))
    (c + item_bytes (Pushed kind v)) params is
located_among at d n c params (LocalsOf s ∷ is) =
    option_or (local_field at d n c s) (located_among at d (n + s.n) (c + s.c) params is)

-- what a pair above R0 names
unfoldable pub located_on_stack : Notes → List Frame → Offset → Option Location
located_on_stack notes [] at = None
located_on_stack notes (Host h ∷ fs) at = None
located_on_stack notes (Function f ∷ fs) at = located_among at (depth fs) 0 0 (parameters_of notes (Function f ∷ fs)) f.items

-- ---- what a cell takes

-- a plain number in so many bits
abbrev pub fits_bits : ℕ → Option ℕ → Bool
fits_bits bits None = false
fits_bits bits (Some x) = nat_lt x (2 ^ bits)

abbrev pub is_error : Neutral → Bool
is_error (Error k) = nat_lt k (2 ^ 31)
is_error _ = false

abbrev pub is_handle : Neutral → Bool
is_handle (Handle k) = true
is_handle _ = false

abbrev pub is_entry : Neutral → Bool
is_entry (Entry f) = true
is_entry _ = false

abbrev pub is_method : ℕ → Neutral → Bool
is_method m (Method k) = nat_eq k m
is_method m _ = false

-- an instance of a shape with so many from there on
abbrev pub room_if : ℕ → ℕ → ℕ → Option TypedObject → Bool
room_if s count i None = false
room_if s count i (Some o) = has_instances s count i o

abbrev pub is_instance : List TypedObject → ℕ → ℕ → Option Instance → Bool
is_instance objects s count None = false
is_instance objects s count (Some x) = room_if s count x.instance (slice_get objects x.object)

-- whether a value fits what a cell holds
unfoldable pub fits_cell : Notes → List TypedObject → Cell → Neutral → Bool
fits_cell notes objects cell.I8 v = fits_bits 8 (plain v)
fits_cell notes objects cell.I16 v = fits_bits 16 (plain v)
fits_cell notes objects cell.I32 v = fits_bits 32 (plain v)
fits_cell notes objects cell.I64 v = fits_bits 64 (plain v)
fits_cell notes objects cell.N v = fits_bits 32 (plain v)
fits_cell notes objects cell.Stat v = fits_bits 31 (plain v) || is_error v
fits_cell notes objects cell.Handle v = is_handle v || is_null v
fits_cell notes objects cell.Entry v = is_entry v || is_null v
fits_cell notes objects (cell.Ptr s k may) v = is_instance objects s k (instance_of notes objects v) || (may && is_null v)
fits_cell notes objects (cell.P64 s k may) v = is_instance objects s k (instance_of notes objects v) || (may && is_null v)
fits_cell notes objects (cell.Method m) v = is_method m v

-- ---- loads and stores

-- the entry of a thunk, where the thunk is made
abbrev pub entry_if : Option Thunk → Option Neutral
entry_if None = None
entry_if (Some t) = Some (Entry t.function)

-- the value in a slot that an access reads
abbrev pub slot_value : Access → Option StackItem → Option Neutral
slot_value access None = None
slot_value access (Some (LocalsOf s)) = None
slot_value access (Some (Pushed kind v)) = if reads_slot access kind then Some v else None

-- the value of a cell that an access reads
abbrev pub cell_value : World → Config → Access → CellPlace → Option Field → Option Neutral
cell_value world a access p None = None
cell_value world a access p (Some z) = if reads access z.cell then a.cells p else None

-- the value at a location, as an access reads it
unfoldable pub value_at : World → Config → Access → Location → Option Neutral
value_at world a access (CellAt p) = cell_value world a access p (cell_field world.notes (memory_of world a) p)
value_at world a access (ParamAt j) = slot_value access (slice_get (parameters_of world.notes a.frames) j)
value_at world a access (ThunkAt i) = if is_natural access && nat_lt i a.made then entry_if (slice_get world.notes.thunk i) else None

-- the configuration with a value in a cell, where an access writes it and the value fits
abbrev pub stored_in : World → Config → Access → CellPlace → Neutral → Option Field → Option Config
stored_in world a access p v None = None
stored_in world a access p v (Some z) =
    if writes access z.cell && fits_cell world.notes (memory_of world a).objects z.cell v
    then Some (record a { cells = with_cell a.cells p v }) else None

-- the configuration with a value at a location
unfoldable pub stored_at : World → Config → Access → Location → Neutral → Option Config
stored_at world a access (CellAt p) v = stored_in world a access p v (cell_field world.notes (memory_of world a) p)
stored_at world a access (ParamAt j) v = None
stored_at world a access (ThunkAt i) v = None
