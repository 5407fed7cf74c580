-- Meaning: what the modelled host does in a step, decided from what it sees: the same at both widths where the host sees the
-- same; only an image that isn't checked shows it a number of an address. docs/HOST.md, "Steps", says in which order the
-- host tries its checks.
use Rattle.std.specs.Prelude.{ℕ, suc, Bool, true, false, not, ◌&&◌, List, [], ◌∷◌, ◌++◌, map, length, Option, Some, None, nat_eq, nat_le}
use Rattle.std.specs.Prelude.{nat_lt, if◌then◌else◌, slice_get}
use Rattle.std.specs.List.{list_all, count_by, enumerate_from, find, flat_map}
use Rattle.std.specs.Option.{option_map, option_or, option_map_or, option_and_then}
use Rattle.note_types.specs.Cells.{content_type}
use Rattle.host_model.specs.World.{World}
use Rattle.host_model.specs.Objects.{TypedObject, script_object, made_objects, shape_of}
use Rattle.host_model.specs.Placements.{frame_limit}
use Rattle.host_model.specs.Progress.{ScriptPlace, NativeCall, NoCall, Asked, Accepted}
use Rattle.host_model.specs.ScriptValues.{same_seen, given, fits, fits_each, fits_result}
use Rattle.note_types.specs.declared.cell.Cell.{Cell}
use Rattle.note_types.specs.declared.ending.Ending.{Ending}
use Rattle.note_types.specs.declared.ending.Ending.TheVariants.{Raised, Mismatch, ScriptEnd}
use Rattle.note_types.specs.declared.event.Event.{Event}
use Rattle.note_types.specs.declared.event.Event.TheVariants as event
use Rattle.note_types.specs.declared.exception.Exception.TheVariants as raises
use Rattle.note_types.specs.declared.notes.FnNote.{FnNote}
use Rattle.note_types.specs.declared.notes.Notes.{Notes}
use Rattle.note_types.specs.declared.notes.Param.{Param}
use Rattle.note_types.specs.declared.notes.Signature.{Signature}
use Rattle.note_types.specs.declared.notes.Site.{Site}
use Rattle.note_types.specs.declared.notes.Want.{Want}
use Rattle.note_types.specs.declared.notes.Want.TheVariants as want
use Rattle.note_types.specs.declared.notes.WantParam.{WantParam}
use Rattle.note_types.specs.declared.reason.Reason.TheVariants as reason
use Rattle.note_types.specs.declared.script.Callback.{Callback}
use Rattle.note_types.specs.declared.script.CellValue.{CellValue}
use Rattle.note_types.specs.declared.script.Notify.{Notify}
use Rattle.note_types.specs.declared.script.OutValue.{OutValue}
use Rattle.note_types.specs.declared.script.Script.{Script}
use Rattle.note_types.specs.declared.script.ScriptCall.{ScriptCall}
use Rattle.note_types.specs.declared.script.ScriptObject.{ScriptObject}
use Rattle.note_types.specs.declared.script.WriteValue.{WriteValue}
use Rattle.note_types.specs.declared.seen.Seen.{Seen}
use Rattle.note_types.specs.declared.shape.Field.{Field}
use Rattle.note_types.specs.declared.types.Ty.{Ty}
use Rattle.note_types.specs.declared.value.Value.{Value}
use Rattle.note_types.specs.declared.value.Value.TheVariants as value

-- ---- whose step it is

-- a notification is left, and so many instructions are done as it waits for
unfoldable pub is_due : Script → ScriptPlace → Bool
is_due script at = option_map_or (λ (n : Notify). nat_le n.at at.instructions) (slice_get script.notify at.notifications) false

-- whether the next step is the host's: where a function has returned to the gate, where a native call is under way, and else
-- where a notification is due
abbrev pub host_turn : {A : Type 0} → (gate : Bool) → NativeCall A → (due : Bool) → Bool
host_turn true call due = true
host_turn false NoCall due = due
host_turn false (Asked place target) due = true
host_turn false (Accepted entry callbacks slots) due = true

-- ---- what the host sees

-- What a call instruction asks for: nothing, where its place has no site; a call whose argument slots aren't all mapped; or one
-- with these arguments, and with another target than the method of the site where a number is given.
pub data Asking : Type 0 where
  NoSite : Asking
  Unmapped : (signature : ℕ) → Asking
  Asks : (signature : ℕ) (elsewhere : Option ℕ) (args : List Seen) → Asking

-- What the host sees when it has a step to do: a function that it entered has returned, the first one or another, with this
-- value; a call instruction at a place asks for a native call; a call is under way that the script's call `entry` answers,
-- where so many callbacks were entered, so many frames of the host are there, and all cells that its reply writes are mapped
-- or not; a function that it entered as a notification has returned, with this value; or a notification is due, where so many
-- frames of the host are there.
pub data View : Type 0 where
  Returns : (first : Bool) (function : ℕ) (value : Value) → View
  Calls : (place : ℕ) (asking : Asking) → View
  GoesOn : (entry callbacks frames : ℕ) (mapped : Bool) → View
  NotifiedReturns : (function : ℕ) (value : Value) → View
  IsDue : (frames : ℕ) → View

-- what it sees where a function has returned that it entered, as a notification or not
abbrev pub return_view : (notified first : Bool) → (function : ℕ) → Value → View
return_view true first f v = NotifiedReturns f v
return_view false first f v = Returns first f v

-- what it sees where no native call is under way
abbrev pub due_view : World → ScriptPlace → (frames : ℕ) → Option View
due_view world at frames = if is_due world.script at then Some (IsDue frames) else None

-- ---- what the host does

-- Where a value is stored: in a field of an instance of a typed object, or in the cell that an argument is the address of.
pub data Target : Type 0 where
  InObject : (object instance field : ℕ) → Target
  InArgument : (number : ℕ) → Target

-- A store: where, in a cell of which kind, and which value.
pub record Store : Type 0 where
  pub target : Target
  pub cell : Cell
  pub value : Value

-- What the host does in a step. It takes a result and leaves the run; it leaves a function; it accepts a native call, makes
-- these objects and fills them; it enters a function with these values; it stores values and gives a result of a type; it leaves
-- a function that it entered as a notification; it enters one so; or the run ends. Each but the first and the last adds an
-- event, and the last may.
pub data Plan : Type 0 where
  Finishes : (result : Value) → Plan
  Leaves : (event : Event) → Plan
  Accepts : (event : Event) (entry : ℕ) (objects : List TypedObject) (stores : List Store) → Plan
  Enters : (event : Event) (entry function : ℕ) (values : List Value) → Plan
  Replies : (event : Event) (stores : List Store) (kind : Option Ty) (result : Value) → Plan
  Resumes : (event : Event) → Plan
  Notifies : (event : Event) (function : ℕ) (values : List Value) → Plan
  Ends : (events : List Event) (ending : Ending) → Plan

-- ---- cells of objects

-- the field of a shape of the notes
abbrev pub field_of : Notes → ℕ → ℕ → Option Field
field_of notes shape field = slice_get (shape_of notes shape).fields field

-- the field that an instance of an object has
abbrev pub field_in : Notes → ℕ → ℕ → TypedObject → Option Field
field_in notes instance field o = if nat_lt instance o.count then field_of notes o.shape field else None

-- the field that a cell of a typed object is, where the object, the instance and the field are there
unfoldable pub field_at : Notes → List TypedObject → ℕ → ℕ → ℕ → Option Field
field_at notes made object instance field = option_and_then (field_in notes instance field) (slice_get made object)

-- ---- stores

-- the store of what a cell of an object holds at first
abbrev pub cell_store : Notes → ℕ → ScriptObject → CellValue → List Store
cell_store notes object o c =
    option_map_or (λ (x : Field). record { target = InObject object c.instance c.field; cell = x.cell; value = c.value } ∷ [])
    (field_of notes o.shape c.field) []

-- the stores of what an object of that number holds at first
abbrev pub object_stores : Notes → ℕ × ScriptObject → List Store
object_stores notes o = flat_map (cell_store notes o.0 o.1) o.1.cells

-- the stores of what objects hold at first, which are numbered from `first` on
unfoldable pub filling : Notes → ℕ → List ScriptObject → List Store
filling notes first objects = flat_map (object_stores notes) (enumerate_from first objects)

-- the cell that an argument of a role is the address of
abbrev pub cell_lent : Want → Option Cell
cell_lent (want.Out c) = Some c
cell_lent (want.Inout c) = Some c
cell_lent _ = None

-- the cell that the argument of that number is the address of
abbrev pub lent_at : List WantParam → ℕ → Option Cell
lent_at params number = option_and_then (λ (p : WantParam). cell_lent p.want) (slice_get params number)

-- the store of a value that a reply leaves in the cell of an argument
abbrev pub out_store : List WantParam → OutValue → List Store
out_store params o = option_map_or (λ c. record { target = InArgument o.argument; cell = c; value = o.value } ∷ [])
    (lent_at params o.argument) []

-- the store of a value that a reply leaves in a cell of an object
abbrev pub write_store : Notes → List TypedObject → WriteValue → List Store
write_store notes made v =
    option_map_or (λ (x : Field). record { target = InObject v.object v.instance v.field; cell = x.cell; value = v.value } ∷ [])
    (field_at notes made v.object v.instance v.field) []

-- all stores of a reply: in cells of objects first, and then in cells of arguments
unfoldable pub reply_stores : Notes → List TypedObject → List WantParam → ScriptCall → List Store
reply_stores notes made params c = flat_map (write_store notes made) c.write ++ flat_map (out_store params) c.out

-- ---- the call step

-- the number of the signature by which the call instruction at a place calls
unfoldable pub site_of : Notes → ℕ → Option ℕ
site_of notes place = option_map (λ (s : Site). s.signature) (find (λ (s : Site). nat_eq s.place place) notes.site)

-- the parameters of the signature of that number
abbrev pub signature_params : Notes → ℕ → List WantParam
signature_params notes g = option_map_or (λ (s : Signature). s.params) (slice_get notes.signature g) []

-- the method of the signature of that number
abbrev pub signature_method : Notes → ℕ → ℕ
signature_method notes g = option_map_or (λ (s : Signature). s.method) (slice_get notes.signature g) 0

-- the type of its result
abbrev pub signature_result : Notes → ℕ → Option Ty
signature_result notes g = option_and_then (λ (s : Signature). s.result) (slice_get notes.signature g)

-- the event of a native call
abbrev pub call_event : ℕ → Asking → Event
call_event place NoSite = event.Called place None []
call_event place (Unmapped g) = event.Called place (Some g) []
call_event place (Asks g elsewhere args) = event.Called place (Some g) args

-- how a run ends at a call without a site, with a slot that isn't mapped, or to another target
abbrev pub asking_refused : ℕ → Asking → Option Ending
asking_refused place NoSite = Some (Mismatch (reason.Site place))
asking_refused place (Unmapped g) = Some (Raised raises.StackFault)
asking_refused place (Asks g (Some address) args) = Some (Mismatch (reason.Target address))
asking_refused place (Asks g None args) = None

-- the first argument, counted from k, that isn't the one that the script has
unfoldable pub argument_refused : ℕ → List Seen → List Seen → Option Ending
argument_refused k (x ∷ xs) (y ∷ ys) = if same_seen x y then argument_refused (suc k) xs ys else Some (Mismatch (reason.Argument k x y))
argument_refused k _ _ = None

-- how a run ends where the script has no call left, one by another signature, or one with other arguments
abbrev pub entry_refused : Option ScriptCall → ℕ → List Seen → Option Ending
entry_refused None g args = Some ScriptEnd
entry_refused (Some c) g args =
    if nat_eq c.signature g then argument_refused 0 args c.args
    else Some (Mismatch (reason.Signature g c.signature))

-- the signature of a call that is asked for, and its arguments
abbrev pub asked_signature : Asking → ℕ
asked_signature NoSite = 0
asked_signature (Unmapped g) = g
asked_signature (Asks g elsewhere args) = g

abbrev pub asked_args : Asking → List Seen
asked_args (Asks g elsewhere args) = args
asked_args _ = []

-- the objects that a script's call makes
abbrev pub objects_made_by : Option ScriptCall → List ScriptObject
objects_made_by None = []
objects_made_by (Some c) = c.make

-- the run ends after the event, or the call is accepted
abbrev pub call_settled : World → ℕ → Event → Option Ending → Plan
call_settled world entry e (Some ending) = Ends (e ∷ []) ending
call_settled world entry e None =
    let objects = objects_made_by (slice_get world.script.call entry) in
    Accepts e entry (map script_object objects) (filling world.notes (length (made_objects world.notes world.script entry)) objects)

-- a call that is asked for at a place, where so many calls were accepted
unfoldable pub call_plan : World → ℕ → ℕ → Asking → Plan
call_plan world entries place asking =
    call_settled world entries (call_event place asking)
    (option_or (asking_refused place asking) (entry_refused (slice_get world.script.call entries) (asked_signature asking)
    (asked_args asking)))

-- ---- the enter step

-- the firmware may enter the function: it isn't the entry function, and it is marked so
abbrev pub may_enter : Notes → ℕ → Bool
may_enter notes f = not (nat_eq f notes.entry) && option_map_or (λ (g : FnNote). g.enter) (slice_get notes.function f) false

-- the parameters of a function
abbrev pub function_params : Notes → ℕ → List Param
function_params notes f = option_map_or (λ (g : FnNote). g.params) (slice_get notes.function f) []

-- the function may be entered with these values
abbrev pub callback_fits : Notes → List TypedObject → Callback → Bool
callback_fits notes made b = may_enter notes b.function && fits_each made (function_params notes b.function) b.values

-- a callback of a script's call
unfoldable pub enter_plan : Notes → List TypedObject → (entry callbacks frames : ℕ) → Callback → Plan
enter_plan notes made entry callbacks frames b =
    if not (callback_fits notes made b) then Ends [] (Mismatch (reason.Enter entry callbacks))
    else if nat_le frame_limit frames then Ends [] (Mismatch reason.Depth)
    else Enters (event.Entered b.function (map given b.values)) entry b.function b.values

-- ---- the reply step

-- the result is an error
abbrev pub is_error : Value → Bool
is_error (value.StatusError k) = true
is_error _ = false

-- how often an `out` list names an argument
abbrev pub times_named : ℕ → List OutValue → ℕ
times_named number outs = count_by (λ (o : OutValue). nat_eq o.argument number) outs

-- an argument is named so often as its role asks: an out argument once, or never where the result is an error; an inout
-- argument at most once; and any other never
abbrev pub named_right : Bool → Want → ℕ → Bool
named_right error (want.Out c) n = nat_eq n (if error then 0 else 1)
named_right error (want.Inout c) n = nat_le n 1
named_right error _ n = nat_eq n 0

-- so is each argument of these parameters, which are counted from k
unfoldable pub all_named_right : Bool → ℕ → List WantParam → List OutValue → Bool
all_named_right error k [] outs = true
all_named_right error k (p ∷ ps) outs = named_right error p.want (times_named k outs) && all_named_right error (suc k) ps outs

-- an `out` list is right: each argument is named right, and nothing else is named
abbrev pub outs_right : Bool → List WantParam → List OutValue → Bool
outs_right error params outs = all_named_right error 0 params outs && list_all (λ (o : OutValue). nat_lt o.argument (length params)) outs

-- a value fits the cell of its argument
abbrev pub out_fits : List TypedObject → List WantParam → OutValue → Bool
out_fits made params o = option_map_or (λ c. fits made (content_type c) o.value) (lent_at params o.argument) false

-- a value fits its cell of an object, which is there
abbrev pub write_fits : Notes → List TypedObject → WriteValue → Bool
write_fits notes made v = option_map_or (λ (x : Field). fits made (content_type x.cell) v.value)
    (field_at notes made v.object v.instance v.field) false

-- the reply of a script's call is right
unfoldable pub reply_fits : Notes → List TypedObject → ScriptCall → Bool
reply_fits notes made c =
    let params = signature_params notes c.signature in
    fits_result made (signature_result notes c.signature) c.result
    && (list_all (write_fits notes made) c.write
    && (list_all (out_fits made params) c.out
    && outs_right (is_error c.result) params c.out))

-- the reply of a script's call, where the cells that it writes are mapped or not
unfoldable pub reply_plan : Notes → List TypedObject → ℕ → Bool → ScriptCall → Plan
reply_plan notes made entry mapped c =
    if reply_fits notes made c && mapped then
    Replies (event.Replied entry c.result) (reply_stores notes made (signature_params notes c.signature) c)
    (signature_result notes c.signature) c.result
    else Ends [] (Mismatch (reason.Reply entry))

-- ---- the notify step

-- the function of a notification may be entered with its values, and all thunks of the notes were served
abbrev pub notification_fits : World → List TypedObject → ScriptPlace → Notify → Bool
notification_fits world made at n =
    may_enter world.notes n.function
    && (fits_each made (function_params world.notes n.function) n.args && nat_le (length world.notes.thunk) at.thunks)

-- a notification of the script, the next one
unfoldable pub notify_plan : World → List TypedObject → ScriptPlace → (frames : ℕ) → Notify → Plan
notify_plan world made at frames n =
    if not (notification_fits world made at n) then Ends [] (Mismatch (reason.Notify at.notifications))
    else if nat_le frame_limit frames then Ends [] (Mismatch reason.Depth)
    else Notifies (event.Notified n.function (map given n.args)) n.function n.args

-- ---- the host's plan

-- a native call that was accepted goes on with its next callback, and with its reply after the last one
abbrev pub next_plan : Notes → List TypedObject → (entry callbacks frames : ℕ) → Bool → ScriptCall → Plan
next_plan notes made entry callbacks frames mapped c =
    option_map_or (enter_plan notes made entry callbacks frames) (slice_get c.enter callbacks) (reply_plan notes made entry mapped c)

-- what the host does where it sees this
unfoldable pub host_plan : World → ScriptPlace → View → Plan
host_plan world at (Returns true f v) = Finishes v
host_plan world at (Returns false f v) = Leaves (event.Returned f v)
host_plan world at (Calls place asking) = call_plan world at.entries place asking
host_plan world at (GoesOn entry callbacks frames mapped) =
    option_map_or (next_plan world.notes (made_objects world.notes world.script at.entries) entry callbacks frames mapped)
    (slice_get world.script.call entry) (Ends [] ScriptEnd)
host_plan world at (NotifiedReturns f v) = Resumes (event.Resumed f v)
host_plan world at (IsDue frames) =
    option_map_or (notify_plan world (made_objects world.notes world.script at.entries) at frames)
    (slice_get world.script.notify at.notifications) (Ends [] ScriptEnd)

-- ---- thunks

-- What the host sees of a thunk cell that it is to serve: its eight bytes aren't all mapped; they name no function that may
-- be entered; or they name one.
pub data ThunkView : Type 0 where
  NotMapped : ThunkView
  NamesNone : ThunkView
  Names : (function : ℕ) → ThunkView
