-- Meaning: what holds of a script that was read under notes: its values are within what a text may have, the things that it
-- names are there, and the conditions are met, said of each thing by itself. That no table gives a cell twice isn't said
-- here. docs/SCRIPTS.md, "What the reader refuses", has them in words.
use Rattle.std.specs.Prelude.{◌≡◌, ◌⊎◌, ℕ, ◌+◌, ◌^◌, ◌≤◌, ◌<◌, Bool, true, false, not, ◌&&◌, List, [], Some, length, map, nat_eq, nat_le}
use Rattle.std.specs.Prelude.{slice_get, take, ⊤}
use Rattle.std.specs.List.{list_any, sum_by}
use Rattle.std.specs.List.Sorted.{IsStrictlyIncreasing}
use Rattle.object_memory.specs.Memory.{padded}
use Rattle.note_types.specs.Cells.{content_type}
use Rattle.note_types.specs.Limits.{IsVersion}
use Rattle.note_types.specs.Records.{Each}
use Rattle.note_types.specs.Shapes.{IsShape}
use Rattle.note_types.specs.declared.cell.Cell.{Cell}
use Rattle.note_types.specs.declared.cell.Cell.TheVariants as cell
use Rattle.note_types.specs.declared.notes.Notes.{Notes}
use Rattle.note_types.specs.declared.script.Callback.{Callback}
use Rattle.note_types.specs.declared.script.CellValue.{CellValue}
use Rattle.note_types.specs.declared.script.Notify.{Notify}
use Rattle.note_types.specs.declared.script.OutValue.{OutValue}
use Rattle.note_types.specs.declared.script.Script.{Script}
use Rattle.note_types.specs.declared.script.ScriptCall.{ScriptCall}
use Rattle.note_types.specs.declared.script.ScriptObject.{ScriptObject}
use Rattle.note_types.specs.declared.script.WriteValue.{WriteValue}
use Rattle.note_types.specs.declared.seen.Seen.{Seen}
use Rattle.note_types.specs.declared.shape.Field.{Field}
use Rattle.note_types.specs.declared.value.Value.{Value}
use Rattle.note_types.specs.declared.value.Value.TheVariants as value
use Rattle.host_model.specs.HostPlans.{field_of, function_params, signature_params}
use Rattle.host_model.specs.Objects.{TypedObject, made_objects, placed_objects, script_object, shape_of}
use Rattle.host_model.specs.Placements.{handle_count, object_bytes}
use Rattle.host_model.specs.ScriptValues.{fits, fits_each, given}
use Rattle.host_model.specs.Values.{IsCode}

-- ---- values

-- A value that a text of a script may have: its numbers are within their limits, and the things of the notes that it names are
-- there. What it says of an object is tried where it is used.
abbrev pub IsWritten : Notes → Value → Type 0
IsWritten notes (value.Int n) = n < 2 ^ 64
IsWritten notes (value.Size n c) = (n ≤ 2 ^ 20) × (c ≤ 2 ^ 20)
IsWritten notes (value.Ptr o i) = (o < 2 ^ 64) × (i < 2 ^ 64)
IsWritten notes value.Null = ⊤
IsWritten notes (value.StatusOk k) = IsCode k
IsWritten notes (value.StatusError k) = IsCode k
IsWritten notes (value.Handle k) = k < handle_count
IsWritten notes (value.Entry f) = f < length notes.function
IsWritten notes (value.Method m) = m < length notes.methods
IsWritten notes value.Any = ⊤
IsWritten notes value.Out = ⊥
IsWritten notes (value.Wild x) = ⊥

-- an argument that a call expects: a value, lent or not, or `out`
abbrev pub IsArgument : Notes → Seen → Type 0
IsArgument notes s = IsWritten notes s.value ⊎ (s ≡ given value.Out)

-- ---- what the conditions are said of

-- a cell that 0 doesn't fit: the address of a method, or a pointer that may not be null
abbrev pub is_needed : Cell → Bool
is_needed (cell.Ptr s k null) = not null
is_needed (cell.P64 s k null) = not null
is_needed (cell.Method m) = true
is_needed _ = false

-- a cell of an instance is given
abbrev pub is_given : List CellValue → (instance field : ℕ) → Bool
is_given cells instance field = list_any (λ (c : CellValue). nat_eq c.instance instance && nat_eq c.field field) cells

-- the bytes that an object takes where an address has 8 bytes, with its padding and gap
abbrev pub room_of : Notes → ScriptObject → ℕ
room_of notes o = padded (object_bytes 8 notes (script_object o))

-- objects keep the limits: 8 MiB in all, and 4,096 of them
abbrev pub have_room : Notes → List ScriptObject → Bool
have_room notes objects = nat_le (sum_by (room_of notes) objects) (2 ^ 23) && nat_le (length objects) 4096

-- the callbacks of a call
abbrev pub callbacks_of : ScriptCall → ℕ
callbacks_of c = length c.enter

-- all typed objects of a script
abbrev pub all_made : Notes → Script → List TypedObject
all_made notes script = made_objects notes script (length script.call)

-- ---- tables of objects

-- a cell is one of an object's instances, and its value fits its field
pub record IsCellOf (notes : Notes) (made : List TypedObject) (o : ScriptObject) (c : CellValue) : Type 0 where
  pub instance : c.instance < o.count
  pub field : Field
  pub there : field_of notes o.shape c.field ≡ Some field
  pub written : IsWritten notes c.value
  pub value : fits made (content_type field.cell) c.value ≡ true

-- The typed object of that number: it has instances of a shape of the notes that is well formed, its cells fit, those that 0
-- doesn't fit are given in each instance, and pointers in them name no later object.
pub record IsObjectOf (notes : Notes) (made : List TypedObject) (number : ℕ) (o : ScriptObject) : Type 0 where
  pub known : o.shape < length notes.shape
  pub shape : IsShape (shape_of notes o.shape)
  pub count : (1 ≤ o.count) × (o.count < 2 ^ 64)
  pub cells : Each (IsCellOf notes made o) o.cells
  pub given : (i f : ℕ) (x : Field) → i < o.count → slice_get (shape_of notes o.shape).fields f ≡ Some x → is_needed x.cell ≡ true
      → is_given o.cells i f ≡ true
  pub earlier : (k : ℕ) (c : CellValue) (p i : ℕ) → slice_get o.cells k ≡ Some c → c.value ≡ value.Ptr p i → p ≤ number

-- ---- calls

-- a function of the notes is entered with values
pub record IsCallbackOf (notes : Notes) (b : Callback) : Type 0 where
  pub function : b.function < length notes.function
  pub values : Each (IsWritten notes) b.values

-- an argument's cell gets a value
pub record IsOutOf (notes : Notes) (o : OutValue) : Type 0 where
  pub argument : o.argument < 2 ^ 64
  pub written : IsWritten notes o.value

-- a `write` names an instance of a typed object and a field of its shape, and has a value
pub record IsWriteOf (notes : Notes) (made : List TypedObject) (w : WriteValue) : Type 0 where
  pub object : TypedObject
  pub there : slice_get made w.object ≡ Some object
  pub instance : w.instance < object.count
  pub field : Field
  pub is_field : field_of notes object.shape w.field ≡ Some field
  pub written : IsWritten notes w.value

-- The call of that number: it is one by a signature of the notes and has an argument for each of its parameters, what it makes,
-- enters and writes is there, and the script up to it keeps the limits.
pub record IsCallOf (notes : Notes) (script : Script) (number : ℕ) (c : ScriptCall) : Type 0 where
  pub signature : c.signature < length notes.signature
  pub seen : Each (IsArgument notes) c.args
  pub args : length c.args ≡ length (signature_params notes c.signature)
  pub enter : Each (IsCallbackOf notes) c.enter
  pub make : (j : ℕ) (o : ScriptObject) → slice_get c.make j ≡ Some o
      → IsObjectOf notes (all_made notes script) (length (made_objects notes script number) + j) o
  pub out : Each (IsOutOf notes) c.out
  pub write : Each (IsWriteOf notes (all_made notes script)) c.write
  pub result : IsWritten notes c.result
  pub few : number < 16384
  pub room : have_room notes (placed_objects script (number + 1)) ≡ true
  pub callbacks : sum_by callbacks_of (take (number + 1) script.call) ≤ 16384

-- ---- notifications

-- a notification enters a function of the notes with values, after at most 10,000,000 instructions
pub record IsNotifyOf (notes : Notes) (n : Notify) : Type 0 where
  pub at : n.at ≤ 10000000
  pub function : n.function < length notes.function
  pub args : Each (IsWritten notes) n.args

-- The notifications of a script: version 1 has none; there are few, and each waits for more instructions than the one before.
pub record HasNotifications (notes : Notes) (script : Script) : Type 0 where
  pub each : Each (IsNotifyOf notes) script.notify
  pub none : script.version ≡ 1 → script.notify ≡ []
  pub few : length script.notify ≤ 16384
  pub ascend : IsStrictlyIncreasing (map (λ (n : Notify). n.at) script.notify)

-- ---- the whole

-- a script that was read
pub record IsScript (notes : Notes) (script : Script) : Type 0 where
  pub version : IsVersion script.version
  pub written : Each (IsWritten notes) script.args
  pub args : fits_each (made_objects notes script 0) (function_params notes notes.entry) script.args ≡ true
  pub objects : (k : ℕ) (o : ScriptObject) → slice_get script.object k ≡ Some o
      → IsObjectOf notes (all_made notes script) (length notes.statics + k) o
  pub calls : (i : ℕ) (c : ScriptCall) → slice_get script.call i ≡ Some c → IsCallOf notes script i c
  pub room : (k : ℕ) (o : ScriptObject) → slice_get script.object k ≡ Some o → have_room notes (take (k + 1) script.object) ≡ true
  pub notify : HasNotifications notes script
