-- Meaning: the conditions on scripts whose texts and names are right, in the order in which they are tried, and the key at
-- which the first that fails is named. docs/SCRIPTS.md lists them.
use Rattle.std.specs.Prelude.{ℕ, ◌+◌, ◌-◌, Bool, true, false, ◌||◌, List, ◌++◌, length, nat_eq, nat_le, nat_lt, slice_get, Result, codes}
use Rattle.std.specs.List.{list_all}
use Rattle.std.specs.Option.{option_map_or}
use Rattle.note_types.specs.declared.fault.TomlFault.{TomlFault}
use Rattle.note_types.specs.declared.fault.TomlFault.TheVariants.{Range}
use Rattle.note_types.specs.declared.notes.Notes.{Notes}
use Rattle.note_types.specs.declared.script.Notify.{Notify}
use Rattle.note_types.specs.declared.script.Script.{Script}
use Rattle.note_types.specs.declared.script.ScriptCall.{ScriptCall}
use Rattle.note_types.specs.declared.script.ScriptObject.{ScriptObject}
use Rattle.note_types.specs.declared.script.WriteValue.{WriteValue}
use Rattle.ebc_base.specs.Steps.{◌>>=◌, passes}
use Rattle.note_texts.specs.Keys.{row_prefix}
use Rattle.host_model.specs.HostPlans.{function_params, signature_params}
use Rattle.host_model.specs.Objects.{made_objects, shape_of}
use Rattle.host_model.specs.declared.object.TypedObject.{TypedObject}
use Rattle.host_model.specs.ScriptValues.{fits_each}
use Rattle.script_draft.specs.Lists.{all_pass}
use Rattle.protocol_script.specs.Contents.{are_by, are_contents, are_inside}
use Rattle.protocol_script.specs.Limits.{limits}
use Rattle.protocol_script.specs.ShapeTests.{is_shape}
use Rattle.protocol_script.specs.declared.tables.TableCondition.{TableCondition}
use Rattle.protocol_script.specs.declared.tables.TableCondition.TheVariants.{Instances, WellFormed, Contents, Pointers}

-- ---- 1. the arguments fit the entry function; 2. each call has as many arguments as its signature has parameters

-- the arguments of a script fit the parameters of the entry function, with the objects of the start
unfoldable pub args_fit : Notes → Script → Bool
args_fit notes script = fits_each (made_objects notes script 0) (function_params notes notes.entry) script.args

-- a call has one argument for each parameter of its signature
abbrev pub has_args : Notes → ScriptCall → Bool
has_args notes c = nat_eq (length c.args) (length (signature_params notes c.signature))

abbrev pub call_args : Notes → ℕ → ScriptCall → Result (Unit {0}) TomlFault
call_args notes i c = passes (has_args notes c) (Range (row_prefix (codes "call") i ++ codes "args"))

-- ---- 3. instances of cells, and objects and instances of writes, are there; 4. shapes are well formed; 5. cells fit, and
-- those that have to be given are; 6. pointers in cells name no later object

-- the key that a condition on a table of objects names
abbrev pub table_key : TableCondition → List ℕ
table_key Instances = codes "cells"
table_key WellFormed = codes "shape"
table_key Contents = codes "cells"
table_key Pointers = codes "cells"

-- whether the typed object of that number meets a condition, where these are all typed objects
unfoldable pub table_meets : TableCondition → Notes → List TypedObject → ℕ → ScriptObject → Bool
table_meets Instances notes made number o = are_inside o
table_meets WellFormed notes made number o = is_shape (shape_of notes o.shape)
table_meets Contents notes made number o = are_contents notes made o
table_meets Pointers notes made number o = are_by number o

-- a table of the list at a path, which is the typed object of that number
abbrev pub table_passes : TableCondition → Notes → List TypedObject → List ℕ → ℕ → ℕ → ScriptObject → Result (Unit {0}) TomlFault
table_passes condition notes made path number i o =
    passes (table_meets condition notes made number o) (Range (row_prefix path i ++ table_key condition))

-- the tables of the list at a path, of which the first is the typed object of that number
unfoldable pub tables_pass : TableCondition → Notes → List TypedObject → List ℕ → ℕ → List ScriptObject → Result (Unit {0}) TomlFault
tables_pass condition notes made path first objects =
    all_pass (λ i o. table_passes condition notes made path (first + i) i o) 0 objects

-- the instance of a typed object is there
abbrev pub is_there : List TypedObject → (object instance : ℕ) → Bool
is_there made object instance = option_map_or (λ (o : TypedObject). nat_lt instance o.count) (slice_get made object) false

-- whether the `write` texts of a call meet a condition: the first alone asks something of them
abbrev pub writes_meet : TableCondition → List TypedObject → List WriteValue → Bool
writes_meet Instances made writes = list_all (λ (w : WriteValue). is_there made w.object w.instance) writes
writes_meet WellFormed made writes = true
writes_meet Contents made writes = true
writes_meet Pointers made writes = true

-- what a call makes and writes, where its first object is the typed object of that number
unfoldable pub call_passes : TableCondition → Notes → List TypedObject → ℕ → ℕ → ScriptCall → Result (Unit {0}) TomlFault
call_passes condition notes made first i c = do
  _ ← tables_pass condition notes made (row_prefix (codes "call") i ++ codes "make") first c.make
  passes (writes_meet condition made c.write) (Range (row_prefix (codes "call") i ++ codes "write"))

-- what each call makes and writes: its first object comes after those that were there before
unfoldable pub calls_pass : TableCondition → Notes → Script → List TypedObject → Result (Unit {0}) TomlFault
calls_pass condition notes script made =
    all_pass (λ i c. call_passes condition notes made (length (made_objects notes script i)) i c) 0 script.call

-- a condition on all tables of objects, of the start and then call by call
unfoldable pub all_tables_pass : TableCondition → Notes → Script → List TypedObject → Result (Unit {0}) TomlFault
all_tables_pass condition notes script made = do
  _ ← tables_pass condition notes made (codes "object") (length notes.statics) script.object
  calls_pass condition notes script made

-- ---- 8. there are at most 16,384 notifications; 9. each waits for more instructions than the one before

-- there are few notifications
abbrev pub notify_few : Script → Result (Unit {0}) TomlFault
notify_few script = passes (nat_le (length script.notify) 16384) (Range (codes "notify"))

-- how many instructions the notification of that number waits for
abbrev pub waits_for : List Notify → ℕ → ℕ
waits_for notifications i = option_map_or (λ (n : Notify). n.at) (slice_get notifications i) 0

-- the notification of that number waits for more of them than the one before, if it isn't the first
abbrev pub is_later : List Notify → ℕ → Bool
is_later notifications i = nat_eq i 0 || nat_lt (waits_for notifications (i - 1)) (waits_for notifications i)

-- the table of that number of the list `notify` is one of a later notification
abbrev pub notify_at : List Notify → ℕ → Result (Unit {0}) TomlFault
notify_at notifications i = passes (is_later notifications i) (Range (row_prefix (codes "notify") i ++ codes "at"))

-- each table of the list is
unfoldable pub notify_ascends : List Notify → Result (Unit {0}) TomlFault
notify_ascends notifications = all_pass (λ i (n : Notify). notify_at notifications i) 0 notifications

-- the conditions on notifications, in their order
unfoldable pub notify_conditions : Script → Result (Unit {0}) TomlFault
notify_conditions script = do
  _ ← notify_few script
  notify_ascends script.notify

-- ---- all together

-- the conditions on tables of objects, where these are all typed objects
unfoldable pub table_conditions : Notes → Script → List TypedObject → Result (Unit {0}) TomlFault
table_conditions notes script made = do
  _ ← all_tables_pass Instances notes script made
  _ ← all_tables_pass WellFormed notes script made
  _ ← all_tables_pass Contents notes script made
  all_tables_pass Pointers notes script made

-- nothing where all conditions are met, and otherwise the fault at the first that isn't
unfoldable pub conditions : Notes → Script → Result (Unit {0}) TomlFault
conditions notes script = do
  _ ← passes (args_fit notes script) (Range (codes "args"))
  _ ← all_pass (call_args notes) 0 script.call
  _ ← table_conditions notes script (made_objects notes script (length script.call))
  _ ← limits notes script
  notify_conditions script
