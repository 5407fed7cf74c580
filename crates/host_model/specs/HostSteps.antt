-- Meaning: what the modelled host sees of a run at a width of w bytes, and what its plans leave. docs/HOST.md, "Steps".
use Rattle.std.specs.Prelude.{ℕ, suc, ◌+◌, ◌-◌, ◌*◌, Bool, true, false, ◌&&◌, List, [], ◌∷◌, ◌++◌, map, length, Option, Some, None, nat_eq}
use Rattle.std.specs.Prelude.{if◌then◌else◌, slice_get, slice_index, slice_set}
use Rattle.std.specs.List.{list_all, position}
use Rattle.std.specs.Option.{option_map_or, option_and_then}
use Rattle.ebc_width.specs.Width.{cut_at, extended_at}
use Rattle.ebc_width.specs.Bytes.{little_endian}
use Rattle.note_types.specs.Cells.{cell_size}
use Rattle.note_types.specs.Concrete.{Concrete, stored, register, with_register}
use Rattle.ebc_width.specs.Ranges.{Range, covers, holds}
use Rattle.host_model.specs.HostPlans.{Asking, NoSite, Unmapped, Asks, View, Calls, GoesOn, Target, InObject, InArgument, Store}
use Rattle.host_model.specs.HostPlans.{return_view, due_view}
use Rattle.host_model.specs.HostPlans.{Plan, Finishes, Leaves, Accepts, Enters, Replies, Resumes, Notifies, Ends}
use Rattle.host_model.specs.HostPlans.{ThunkView, NotMapped, NamesNone, Names}
use Rattle.host_model.specs.HostPlans.{field_at, signature_params, signature_method, site_of, function_params, host_plan}
use Rattle.host_model.specs.World.{World}
use Rattle.host_model.specs.Objects.{TypedObject, made_objects}
use Rattle.host_model.specs.Placements.{Placement, slot_bytes, return_cell, params_bytes, image_range, method_at, thunk_at, handle_at}
use Rattle.host_model.specs.Placements.{instance_address, object_range, code_at}
use Rattle.host_model.specs.Progress.{one_entry, one_notification, one_thunk, NativeCall, NoCall, Asked, Accepted, copied, one_callback}
use Rattle.host_model.specs.Progress.{is_empty}
use Rattle.host_model.specs.RunState.{SavedFrame, RunState}
use Rattle.host_model.specs.Values.{word, minus, error_at}
use Rattle.host_model.specs.Readings.{sort_of_type, reading_of, arguments_read, slots_from}
use Rattle.note_types.specs.Shapes.{start_at}
use Rattle.note_types.specs.declared.ending.Ending.TheVariants.{Finished, Raised, Mismatch}
use Rattle.note_types.specs.declared.event.Event.{Event}
use Rattle.note_types.specs.declared.exception.Exception.TheVariants as raises
use Rattle.note_types.specs.declared.notes.FnNote.{FnNote}
use Rattle.note_types.specs.declared.notes.Notes.{Notes}
use Rattle.note_types.specs.declared.notes.Param.{Param}
use Rattle.note_types.specs.declared.reason.Reason.TheVariants as reason
use Rattle.note_types.specs.declared.script.ScriptCall.{ScriptCall}
use Rattle.note_types.specs.declared.script.WriteValue.{WriteValue}
use Rattle.note_types.specs.declared.shape.Field.{Field}
use Rattle.note_types.specs.declared.spot.Spot.{Spot}
use Rattle.note_types.specs.declared.spot.Spot.TheVariants as spot
use Rattle.note_types.specs.declared.types.Ty.TheVariants as ty
use Rattle.note_types.specs.declared.value.Value.{Value}
use Rattle.note_types.specs.declared.value.Value.TheVariants as value

-- ---- the state of a run

-- where a run stands: at the gate, at a place of the image, or elsewhere
unfoldable pub spot_of : World → Placement → Concrete → Spot
spot_of world P s =
    if nat_eq s.ip s.gate then spot.Gate
    else if covers s.ip 1 (image_range world P) then spot.Place (s.ip - P.image)
    else spot.Wild s.ip

-- the place of a call instruction at an address, and a place that has no site for one outside the image
abbrev pub call_place : World → Placement → ℕ → ℕ
call_place world P ip =
    if covers ip 1 (image_range world P) then ip - P.image else 0xffffffff

-- the native call that is under way in the top frame
abbrev pub call_under_way : List SavedFrame → NativeCall ℕ
call_under_way [] = NoCall
call_under_way (f ∷ fs) = f.call

-- the frames with another native call under way in the top one
abbrev pub with_call : NativeCall ℕ → List SavedFrame → List SavedFrame
with_call call [] = []
with_call call (f ∷ fs) = record f { call = call } ∷ fs

-- the state with these events more
abbrev pub with_events : RunState → List Event → RunState
with_events r es = record r { trace = r.trace ++ es }

-- the typed objects that are made
abbrev pub objects_at : World → RunState → List TypedObject
objects_at world r = made_objects world.notes world.script r.script.entries

-- ---- numbers of written values

-- the number of a written value at a width; 0 where it says nothing
unfoldable pub written_number : ℕ → Notes → Placement → List TypedObject → Value → ℕ
written_number w notes P made (value.Int n) = n
written_number w notes P made (value.Size n c) = word (n * w + c)
written_number w notes P made (value.Ptr o i) = word (instance_address w notes P made o i)
written_number w notes P made value.Null = 0
written_number w notes P made (value.StatusOk k) = k
written_number w notes P made (value.StatusError k) = error_at w k
written_number w notes P made (value.Handle k) = handle_at notes P k
written_number w notes P made (value.Entry f) = thunk_at notes P f
written_number w notes P made (value.Method m) = method_at P m
written_number w notes P made value.Any = 0
written_number w notes P made value.Out = 0
written_number w notes P made (value.Wild x) = x

-- ---- what the host sees

-- what a call asks for by the signature of its site, where its argument slots hold these numbers
abbrev pub asking_by : ℕ → World → Placement → RunState → ℕ → ℕ → Option (List ℕ) → Asking
asking_by w world P r target g None = Unmapped g
asking_by w world P r target g (Some slots) =
    Asks g (if nat_eq target (method_at P (signature_method world.notes g)) then None else Some target)
    (arguments_read w world.notes P (objects_at world r) r.machine.byte (signature_params world.notes g) slots)

-- the numbers in the argument slots of a call by a signature
abbrev pub slots_of : ℕ → World → RunState → ℕ → Option (List ℕ)
slots_of w world r g = slots_from w r.machine (register r.machine 0) (signature_params world.notes g)

-- what a call instruction at a place asks for
unfoldable pub asking_at : ℕ → World → Placement → RunState → (place target : ℕ) → Asking
asking_at w world P r place target =
    option_map_or (λ g. asking_by w world P r target g (slots_of w world r g)) (site_of world.notes place) NoSite

-- the address of a field of an instance of a typed object
abbrev pub cell_address : ℕ → Notes → Placement → List TypedObject → (object instance : ℕ) → Field → ℕ
cell_address w notes P made object instance x =
    instance_address w notes P made object instance + start_at w x

-- a cell of an object that is there is mapped
abbrev pub write_mapped : ℕ → World → Placement → RunState → WriteValue → Bool
write_mapped w world P r v =
    option_map_or (λ (x : Field). holds r.machine.objects (cell_address w world.notes P (objects_at world r) v.object v.instance x)
    (cell_size w x.cell))
    (field_at world.notes (objects_at world r) v.object v.instance v.field) false

-- all cells of objects that the reply of a script's call writes are mapped
unfoldable pub writes_mapped : ℕ → World → Placement → RunState → ℕ → Bool
writes_mapped w world P r entry =
    option_map_or (λ (c : ScriptCall). list_all (write_mapped w world P r) c.write) (slice_get world.script.call entry) false

-- the result of a function that R7 holds
unfoldable pub result_of : ℕ → World → Placement → RunState → ℕ → Value
result_of w world P r f =
    reading_of w world.notes P (objects_at world r)
    (option_map_or (λ (g : FnNote). sort_of_type g.result) (slice_get world.notes.function f) (sort_of_type ty.Any))
    (cut_at w (register r.machine 7))

-- what the host sees where the top frame is there and its function has returned
abbrev pub return_seen : ℕ → World → Placement → RunState → List SavedFrame → Option View
return_seen w world P r [] = None
return_seen w world P r (f ∷ fs) = Some (return_view f.notified (is_empty fs) f.func (result_of w world P r f.func))

-- what the host sees of a native call that is under way, and where none is, of a notification that is due
abbrev pub call_seen : ℕ → World → Placement → RunState → NativeCall ℕ → Option View
call_seen w world P r NoCall = due_view world r.script (length r.hosts)
call_seen w world P r (Asked place target) = Some (Calls place (asking_at w world P r place target))
call_seen w world P r (Accepted entry callbacks slots) = Some (GoesOn entry callbacks (length r.hosts) (writes_mapped w world P r entry))

-- what the host sees: nothing, where the next step is the machine's
unfoldable pub host_view : ℕ → World → Placement → RunState → Option View
host_view w world P r =
    if nat_eq r.machine.ip r.machine.gate then return_seen w world P r r.hosts
    else call_seen w world P r (call_under_way r.hosts)

-- ---- what its plans leave

-- where a store goes at a width, where the argument slots of the call hold these numbers
abbrev pub target_address : ℕ → Notes → Placement → List TypedObject → List ℕ → Target → ℕ
target_address w notes P made slots (InObject object instance field) =
    option_map_or (cell_address w notes P made object instance) (field_at notes made object instance field) 0
target_address w notes P made slots (InArgument number) = slice_index slots number

-- the machine after a store; nothing changes where the cell isn't mapped
abbrev pub after_store : ℕ → Notes → Placement → List TypedObject → List ℕ → Concrete → Store → Concrete
after_store w notes P made slots s v =
    option_map_or (λ t. t) (stored s (target_address w notes P made slots v.target) (cell_size w v.cell)
    (written_number w notes P made v.value)) s

-- the machine after stores, one after the other
unfoldable pub after_stores : ℕ → Notes → Placement → List TypedObject → List ℕ → List Store → Concrete → Concrete
after_stores w notes P made slots [] s = s
after_stores w notes P made slots (v ∷ vs) s = after_stores w notes P made slots vs (after_store w notes P made slots s v)

-- the machine with an object of zero bytes more
unfoldable pub with_object : Concrete → Range → Concrete
with_object s o = record s { objects = s.objects ++ o ∷ []; byte = λ x. if covers x 1 o then 0 else s.byte x }

-- the machine with these objects more, which are numbered from `first` on
unfoldable pub with_objects : ℕ → Notes → Placement → ℕ → List TypedObject → Concrete → Concrete
with_objects w notes P first [] s = s
with_objects w notes P first (o ∷ os) s =
    with_objects w notes P (suc first) os (with_object s (object_range w notes P first o))

-- numbers in the slots of parameters from an address on: none unless each slot is mapped
unfoldable pub with_slots : ℕ → ℕ → List Param → List ℕ → Concrete → Option Concrete
with_slots w a (p ∷ ps) (x ∷ xs) s = option_and_then (with_slots w (a + slot_bytes w p.kind) ps xs)
    (stored s (cut_at w a) (slot_bytes w p.kind) x)
with_slots w a _ _ s = Some s

-- the machine inside a function: the arguments and a return cell with the gate's address stand below R0, the flags are clear,
-- and control is at the function. None where the cells below R0 aren't mapped.
unfoldable pub inside : ℕ → Concrete → (target : ℕ) → List Param → List ℕ → Option Concrete
inside w s target params numbers =
    let top = minus (register s 0) (return_cell + params_bytes w params) in
    let called = record s { registers = slice_set s.registers 0 top; ip = target; flags = 0 } in
    option_and_then (λ low. option_and_then (λ high. with_slots w (top + return_cell) params numbers high)
    (stored low (cut_at w (top + 8)) 8 0))
    (stored called (cut_at w top) 8 s.gate)

-- the frame that keeps what the machine holds where a function is entered, as a notification or not
abbrev pub frame_for : (notified : Bool) → Concrete → ℕ → SavedFrame
frame_for notified s f = record { func = f; notified = notified; registers = s.registers; ip = s.ip; flags = s.flags; call = NoCall }

-- the run inside a function, or ended where the cells below R0 aren't mapped
abbrev pub entered : (notified : Bool) → ℕ → World → Placement → RunState → ℕ → List ℕ → RunState
entered notified w world P r f numbers =
    option_map_or (λ s. record r { machine = s; hosts = frame_for notified r.machine f ∷ r.hosts })
    (inside w r.machine (code_at world.notes P f) (function_params world.notes f) numbers)
    (record r { ending = Raised raises.StackFault })

-- the machine once a frame is left: R0 to R6, ip and the flags as they were
abbrev pub outside : Concrete → SavedFrame → Concrete
outside s f = record s { registers = slice_set f.registers 7 (register s 7); ip = f.ip; flags = f.flags }

-- the run once its top frame is left
abbrev pub left : RunState → List SavedFrame → RunState
left r [] = r
left r (f ∷ fs) = record r { machine = outside r.machine f; hosts = fs }

-- the machine once the frame of a notification is left: R0 to R7, ip and the flags as they were
abbrev pub as_before : Concrete → SavedFrame → Concrete
as_before s f = record s { registers = f.registers; ip = f.ip; flags = f.flags }

-- the run once its top frame is left, which is one of a notification
abbrev pub resumed : RunState → List SavedFrame → RunState
resumed r [] = r
resumed r (f ∷ fs) = record r { machine = as_before r.machine f; hosts = fs }

-- the slots that the call step copies
abbrev pub slots_asked : ℕ → World → RunState → NativeCall ℕ → List ℕ
slots_asked w world r (Asked place target) = option_map_or (λ xs. xs) (option_and_then (slots_of w world r) (site_of world.notes place)) []
slots_asked w world r _ = []

-- the run after a plan of the host
unfoldable pub performed : ℕ → World → Placement → RunState → Plan → RunState
performed w world P r (Finishes v) = record (left r r.hosts) { ending = Finished v }
performed w world P r (Leaves e) = with_events (left r r.hosts) (e ∷ [])
performed w world P r (Accepts e entry objects stores) =
    let first = length (objects_at world r) in
    let made = objects_at world r ++ objects in
    record r {
      machine = after_stores w world.notes P made [] stores (with_objects w world.notes P first objects r.machine);
      hosts = with_call (Accepted entry 0 (slots_asked w world r (call_under_way r.hosts))) r.hosts;
      script = one_entry r.script;
      trace = r.trace ++ e ∷ [];
    }
performed w world P r (Enters e entry f values) =
    entered false w world P
    (record r { hosts = with_call (one_callback (call_under_way r.hosts)) r.hosts; trace = r.trace ++ e ∷ [] })
    f (map (written_number w world.notes P (objects_at world r)) values)
performed w world P r (Replies e stores kind v) =
    let made = objects_at world r in
    let after = after_stores w world.notes P made (copied (call_under_way r.hosts)) stores r.machine in
    record r {
      machine = with_register after 7 (written_number w world.notes P made v);
      hosts = with_call NoCall r.hosts;
      trace = r.trace ++ e ∷ [];
    }
performed w world P r (Resumes e) = with_events (resumed r r.hosts) (e ∷ [])
performed w world P r (Notifies e f values) =
    entered true w world P
    (record r { script = one_notification r.script; trace = r.trace ++ e ∷ [] })
    f (map (written_number w world.notes P (objects_at world r)) values)
performed w world P r (Ends es ending) = record r { trace = r.trace ++ es; ending = ending }

-- ---- the host's step

-- the host's step; nothing changes where the next step is the machine's
unfoldable pub host_step : ℕ → World → Placement → RunState → RunState
host_step w world P r = option_map_or (λ v. performed w world P r (host_plan world r.script v)) (host_view w world P r) r

-- ---- thunks

-- the place that the offset of a thunk cell names: so far past the cell's place and the four bytes of the offset
abbrev pub thunk_place : Placement → (address offset : ℕ) → ℕ
thunk_place P address offset = minus (extended_at 4 offset + address + 4) P.image

-- the function that is marked as entered by the firmware and begins at a place
abbrev pub entered_at : Notes → ℕ → Option ℕ
entered_at notes place = position (λ (f : FnNote). nat_eq f.place place && f.enter) notes.function

-- what the host sees of the thunk cell at an address
unfoldable pub thunk_view : World → Placement → Concrete → ℕ → ThunkView
thunk_view world P s address =
    if holds s.objects address 8 then
    option_map_or Names (entered_at world.notes (thunk_place P address (little_endian s.byte address 4))) NamesNone
    else NotMapped

-- the run after BREAK 5, whose step went from machine state `r.machine` to s: the cell holds the thunk's address. An exception
-- leaves the machine as it was before the instruction.
unfoldable pub thunk_made : ℕ → World → Placement → RunState → Concrete → ℕ → ThunkView → RunState
thunk_made w world P r s address NotMapped = record r { ending = Raised raises.MemoryFault }
thunk_made w world P r s address NamesNone = record r { machine = s; ending = Mismatch (reason.Thunk address) }
thunk_made w world P r s address (Names f) =
    record r { machine = option_map_or (λ t. t) (stored s address w (thunk_at world.notes P f)) s; script = one_thunk r.script }
