-- For proofs: what the modelled host sees of a configuration of the neutral machine, and what its plans leave: as at a
-- width, with values in the place of numbers. docs/HOST.md, "Steps".
use Rattle.std.specs.Prelude.{ℕ, suc, ◌+◌, Bool, true, false, ◌&&◌, List, [], ◌∷◌, ◌++◌, length, Option, Some, None, nat_eq, nat_lt}
use Rattle.std.specs.Prelude.{if◌then◌else◌, is_some, slice_get}
use Rattle.std.specs.List.{list_all}
use Rattle.std.specs.Option.{option_map, option_map_or, option_and_then}
use Rattle.host_model.specs.HostPlans.{Asking, NoSite, Asks, View, Calls, GoesOn, Target, InObject, InArgument, Store, Plan}
use Rattle.host_model.specs.HostPlans.{Finishes, Leaves, Accepts, Enters, Replies, Resumes, Notifies, Ends, cell_lent, field_at}
use Rattle.host_model.specs.HostPlans.{signature_params, signature_method, site_of, function_params, host_plan, return_view, due_view}
use Rattle.note_types.specs.Cells.{content_type}
use Rattle.host_model.specs.World.{World}
use Rattle.host_model.specs.declared.object.TypedObject.{TypedObject}
use Rattle.host_model.specs.Objects.{made_objects}
use Rattle.host_model.specs.Progress.{one_entry, one_notification, one_thunk, NativeCall, NoCall, Asked, Accepted, copied, one_callback}
use Rattle.host_model.specs.Progress.{is_empty}
use Rattle.host_model.specs.Readings.{sort_of_type}
use Rattle.note_types.specs.declared.cell.Cell.{Cell}
use Rattle.note_types.specs.declared.ending.Ending.TheVariants.{Finished}
use Rattle.note_types.specs.declared.notes.FnNote.{FnNote}
use Rattle.note_types.specs.declared.notes.Notes.{Notes}
use Rattle.note_types.specs.declared.notes.Param.{Param}
use Rattle.note_types.specs.declared.notes.Thunk.{Thunk}
use Rattle.note_types.specs.declared.notes.WantParam.{WantParam}
use Rattle.note_types.specs.declared.script.ScriptCall.{ScriptCall}
use Rattle.note_types.specs.declared.script.WriteValue.{WriteValue}
use Rattle.note_types.specs.declared.shape.Field.{Field}
use Rattle.note_types.specs.declared.spot.Spot.{Spot}
use Rattle.note_types.specs.declared.spot.Spot.TheVariants as spot
use Rattle.note_types.specs.declared.types.Ty.TheVariants as ty
use Rattle.note_types.specs.declared.value.Value.{Value}
use Rattle.neutral_machine.specs.Config.{StackItem, Pushed, FunctionFrame, Frame, Function, Host, Config, hosts, top_function}
use Rattle.neutral_machine.specs.Config.{call_under_way, with_call, with_value}
use Rattle.neutral_machine.specs.Locations.{is_method}
use Rattle.host_model.specs.Placements.{place_of}
use Rattle.neutral_machine.specs.NeutralReadings.{local_named, neutral_result, neutral_arguments, neutral_slots}
use Rattle.neutral_machine.specs.Memory.{with_cell}
use Rattle.host_model.specs.Values.{Neutral, At, ThunkOf, LocalOf, CellPlace, FieldOf, FieldOfLocals, Cells, null}
use Rattle.neutral_machine.specs.Written.{value_as, result_value}

-- the typed objects that are made
abbrev pub objects_at : World → Config → List TypedObject
objects_at world a = made_objects world.notes world.script a.script.entries

-- ---- what the host sees

-- the items of the top function frame
abbrev pub top_items : Config → List StackItem
top_items a = option_map_or (λ (f : FunctionFrame). f.items) (top_function a.frames) []

-- the values in the argument slots of a call by a signature
abbrev pub slots_of : World → Config → ℕ → Option (List Neutral)
slots_of world a g = neutral_slots world.notes (objects_at world a) (signature_params world.notes g) (top_items a)

-- what a call asks for by the signature of its site; none unless its target is the method of that signature, and each
-- argument has a reading
abbrev pub asking_by : World → Config → Neutral → ℕ → Option Asking
asking_by world a target g =
    if is_method (signature_method world.notes g) target then
    option_map (Asks g None) (option_and_then (neutral_arguments world.notes (objects_at world a) a.frames a.cells
    (signature_params world.notes g)) (slots_of world a g))
    else None

-- what a call instruction at a place asks for
unfoldable pub asking_at : World → Config → (place : ℕ) → (target : Neutral) → Option Asking
asking_at world a place target = option_map_or (asking_by world a target) (site_of world.notes place) (Some NoSite)

-- all cells of objects that the reply of a script's call writes are there
unfoldable pub writes_there : World → Config → ℕ → Bool
writes_there world a entry =
    option_map_or (λ (c : ScriptCall). list_all (λ (v : WriteValue). is_some
    (field_at world.notes (objects_at world a) v.object v.instance v.field)) c.write) (slice_get world.script.call entry) false

-- the slot of an argument that wants a cell is the address of a local field that is such a cell
abbrev pub slot_lends : List Frame → Option Cell → Option Neutral → Bool
slot_lends frames None slot = true
slot_lends frames (Some c) slot = is_some (option_and_then (local_named frames c) slot)

-- so are the slots of the parameters that want cells, which are counted from k
unfoldable pub all_lent : List Frame → List Neutral → ℕ → List WantParam → Bool
all_lent frames slots k [] = true
all_lent frames slots k (p ∷ ps) = slot_lends frames (cell_lent p.want) (slice_get slots k) && all_lent frames slots (suc k) ps

-- the cells are there that a native call was lent which copied these slots and which the script's call of that number answers
unfoldable pub lent_there : World → List Frame → (entry : ℕ) → (slots : List Neutral) → Bool
lent_there world frames entry slots =
    option_map_or (λ (c : ScriptCall). all_lent frames slots 0 (signature_params world.notes c.signature))
    (slice_get world.script.call entry) true

-- the result of a function that R7 holds
unfoldable pub result_of : World → Config → ℕ → Option Value
result_of world a f =
    neutral_result world.notes (objects_at world a)
    (option_map_or (λ (g : FnNote). sort_of_type g.result) (slice_get world.notes.function f) (sort_of_type ty.Any))
    (a.registers 7)

-- what the host sees at the gate: none unless no function frame is left in the top host frame
abbrev pub return_seen : World → Config → List Frame → Option View
return_seen world a (Host h ∷ fs) = option_map (return_view h.notified (is_empty (hosts fs)) h.func) (result_of world a h.func)
return_seen world a _ = None

-- what the host sees of a native call that is under way: none unless the cells that it was lent are there; and where no call is
-- under way, of a notification that is due
abbrev pub call_seen : World → Config → NativeCall Neutral → Option View
call_seen world a NoCall = due_view world a.script (length (hosts a.frames))
call_seen world a (Asked place target) = option_map (Calls place) (asking_at world a place target)
call_seen world a (Accepted entry callbacks slots) =
    if lent_there world a.frames entry slots then Some (GoesOn entry callbacks (length (hosts a.frames)) (writes_there world a entry))
    else None

-- what the host sees, where the next step is the host's
unfoldable pub host_view : World → Config → Spot → Option View
host_view world a spot.Gate = return_seen world a a.frames
host_view world a _ = call_seen world a (call_under_way a.frames)

-- ---- what its plans leave

-- the cell that a store goes to, where the argument slots of the call hold these values
abbrev pub local_of : Option Neutral → Option CellPlace
local_of (Some (At (LocalOf d f) n c)) = if nat_eq n 0 && nat_eq c 0 then Some (FieldOfLocals d f) else None
local_of _ = None

abbrev pub target_place : List Neutral → Target → Option CellPlace
target_place slots (InObject object instance field) = Some (FieldOf object instance field)
target_place slots (InArgument number) = local_of (slice_get slots number)

-- the cells after a store
abbrev pub after_store : Notes → List TypedObject → List Neutral → Cells → Store → Cells
after_store notes made slots cells v = option_map_or (λ p. with_cell cells p (value_as notes made (content_type v.cell) v.value))
    (target_place slots v.target) cells

-- the cells after stores, one after the other
unfoldable pub after_stores : Notes → List TypedObject → List Neutral → List Store → Cells → Cells
after_stores notes made slots [] cells = cells
after_stores notes made slots (v ∷ vs) cells = after_stores notes made slots vs (after_store notes made slots cells v)

-- the cells with those of the objects from number `first` on holding zero
unfoldable pub with_objects : Notes → (made : List TypedObject) → (first : ℕ) → Cells → Cells
with_objects notes made first cells (FieldOf k i f) =
    if nat_lt k first then cells (FieldOf k i f) else option_map (λ (x : Field). null) (field_at notes made k i f)
with_objects notes made first cells (FieldOfLocals d f) = cells (FieldOfLocals d f)

-- written values as the slots of parameters
unfoldable pub param_slots : Notes → List TypedObject → List Param → List Value → List StackItem
param_slots notes made (p ∷ ps) (v ∷ vs) = Pushed p.kind (value_as notes made p.ty v) ∷ param_slots notes made ps vs
param_slots notes made _ _ = []

-- the configuration inside a function that the host enters, as a notification or not
abbrev pub entered : (notified : Bool) → World → Config → ℕ → List StackItem → Config
entered notified world a f params =
    record a {
      c = false;
      spot = spot.Place (place_of world.notes f);
      frames = Function (record { func = f; ret = 0; saved = a.registers; items = [] })
          ∷ Host (record { func = f; notified = notified; saved = a.registers; c = a.c; spot = a.spot; params = params; call = NoCall })
          ∷ a.frames;
    }

-- the configuration once its top host frame is left: R1 to R6, C and the spot as they were
abbrev pub left : Config → List Frame → Config
left a (Host h ∷ fs) = record a { registers = with_value h.saved 7 (a.registers 7); c = h.c; spot = h.spot; frames = fs }
left a _ = a

-- the configuration once its top host frame is left, which is one of a notification: R1 to R7, C and the spot as they were
abbrev pub resumed : Config → List Frame → Config
resumed a (Host h ∷ fs) = record a { registers = h.saved; c = h.c; spot = h.spot; frames = fs }
resumed a _ = a

-- the slots that the call step copies
abbrev pub slots_asked : World → Config → NativeCall Neutral → List Neutral
slots_asked world a (Asked place target) = option_map_or (λ vs. vs) (option_and_then (slots_of world a) (site_of world.notes place)) []
slots_asked world a _ = []

-- the configuration after a plan of the host
unfoldable pub performed : World → Config → Plan → Config
performed world a (Finishes v) = record (left a a.frames) { ending = Finished v }
performed world a (Leaves e) = let b = left a a.frames in record b { trace = b.trace ++ e ∷ [] }
performed world a (Accepts e entry objects stores) =
    let made = objects_at world a ++ objects in
    record a {
      cells = after_stores world.notes made [] stores (with_objects world.notes made (length (objects_at world a)) a.cells);
      frames = with_call (Accepted entry 0 (slots_asked world a (call_under_way a.frames))) a.frames;
      script = one_entry a.script;
      trace = a.trace ++ e ∷ [];
    }
performed world a (Enters e entry f values) =
    entered false world
    (record a { frames = with_call (one_callback (call_under_way a.frames)) a.frames; trace = a.trace ++ e ∷ [] })
    f (param_slots world.notes (objects_at world a) (function_params world.notes f) values)
performed world a (Replies e stores kind v) =
    let made = objects_at world a in
    record a {
      registers = with_value a.registers 7 (result_value world.notes made kind v);
      cells = after_stores world.notes made (copied (call_under_way a.frames)) stores a.cells;
      frames = with_call NoCall a.frames;
      trace = a.trace ++ e ∷ [];
    }
performed world a (Resumes e) = let b = resumed a a.frames in record b { trace = b.trace ++ e ∷ [] }
performed world a (Notifies e f values) =
    entered true world
    (record a { script = one_notification a.script; trace = a.trace ++ e ∷ [] })
    f (param_slots world.notes (objects_at world a) (function_params world.notes f) values)
performed world a (Ends es ending) = record a { trace = a.trace ++ es; ending = ending }

-- ---- the host's step

-- the host's step; none where the neutral machine is stuck
unfoldable pub neutral_host_step : World → Config → Option Config
neutral_host_step world a = option_map (λ v. performed world a (host_plan world a.script v)) (host_view world a a.spot)

-- ---- thunks

-- the function that the thunk cell of that number names, where the firmware may enter it
abbrev pub thunk_function : Notes → ℕ → Option ℕ
thunk_function notes i =
    option_and_then (λ (t : Thunk). option_and_then (λ (g : FnNote). if g.enter then Some t.function else None)
    (slice_get notes.function t.function)) (slice_get notes.thunk i)

-- the thunk cell that R7 is the address of, where it is the next to be made
abbrev pub next_thunk : Config → Neutral → Option ℕ
next_thunk a (At (ThunkOf i) n c) = if nat_eq i a.made && (nat_eq n 0 && nat_eq c 0) then Some i else None
next_thunk a _ = None

-- the configuration after BREAK 5, which stands at the next instruction: one thunk more is made. None where R7 is not the next
-- cell's address.
unfoldable pub thunk_made : World → Config → Option Config
thunk_made world a =
    option_map (λ f. record a { made = a.made + 1; script = one_thunk a.script })
    (option_and_then (thunk_function world.notes) (next_thunk a (a.registers 7)))
