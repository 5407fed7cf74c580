-- Laws of the host's steps in a run: which step is the host's, and what a runner is at after it.
use Rattle.twin_run.proofs.Common.{◌≡◌, ℕ, ◌<◌, Bool, true, false, List, [], ◌∷◌, ◌++◌, length, map, Option, Some, None, refl, sym, ap, ◌∙◌}
use Rattle.twin_run.proofs.Common.{subst, arith, nat_eq, drop, take, slice_get, slice_index, slice_set, if◌then◌else◌, option_map_or}
use Rattle.twin_run.proofs.Common.{length-map, within_some, Memory, Concrete, register, Ending, Finished, Event, Notes, Script, Seen, Value}
use Rattle.twin_run.proofs.Common.{KeepsObjects, concrete_of, Machine, Frame, call_of, saved_of, NO_ENTRY, Calls, GoesOn, IsDue, View}
use Rattle.twin_run.proofs.Common.{function_params, host_plan, is_due, return_view, call_seen, call_under_way, host_step, host_view}
use Rattle.twin_run.proofs.Common.{objects_at, performed, result_of, return_seen, made_objects, asking_at, outside, written_number}
use Rattle.twin_run.proofs.Common.{Placement, frame_limit, own_placement, NativeCall, NoCall, Asked, Accepted, is_empty, RunState}
use Rattle.twin_run.proofs.Common.{SavedFrame, World, IsHost, IsMemoryOf, IsServing, host_world, shown, placement_of, taken, under-way}
use Rattle.twin_run.proofs.Common.{Host, HostStep, IsAt, hosts_of, AskedCall, Runner}
use Rattle.entry_thunk.specs.Entering.{once_left}
use Rattle.entry_thunk.proofs.CellLaws.{keeps-none}
use Rattle.host_model.specs.HostSteps.{as_before, writes_mapped}
use Rattle.native_host.specs.{Hosts.CountsThunks, Hosts.IsCalled, Hosts.Tells, Steps.IsSettled, Steps.OnEnter, Steps.asked}
use Rattle.native_host.specs.Steps.{asked_plan, due_plan, settled}
use Rattle.native_host.specs.declared.places.Places.{Places}
use Rattle.twin_run.proofs.{TurnLaws.asked_under_way, RunnerLaws.is_placed, RunnerLaws.is_world, RunnerLaws.memory_kept}
use Rattle.twin_run.proofs.RunnerLaws.{replied_at, shown_at, shown_same}
use Rattle.note_types.specs.declared.event.Event.TheVariants as event
use Rattle.native_host.specs.declared.step.HostStep.TheVariants as step

-- ---- what the host does

-- where a function has returned
returns_step : (w : ℕ) (world : World) (P : Placement) (r : RunState) (f : SavedFrame) (fs : List SavedFrame)
    → nat_eq r.machine.ip r.machine.gate ≡ true → r.hosts ≡ f ∷ fs
    → host_step w world P r ≡ performed w world P r (host_plan world r.script (return_view f.notified (is_empty fs) f.func (result_of w
    world
    P r f.func)))
unfolding host_step host_view
returns_step w world P r f fs gate is =
    ap (λ (b : Bool). option_map_or (λ (v : View). performed w world P r (host_plan world r.script v)) (if b then return_seen w world P r
    r.hosts else call_seen w world P r (call_under_way r.hosts)) r) gate
    ∙ ap (λ (hs : List SavedFrame). option_map_or (λ (v : View). performed w world P r (host_plan world r.script v)) (return_seen w world P
    r
    hs) r) is

-- where it sees this
seen_step : (w : ℕ) (world : World) (P : Placement) (r : RunState) (v : View) → nat_eq r.machine.ip r.machine.gate ≡ false
    → call_seen w world P r (call_under_way r.hosts) ≡ Some v
    → host_step w world P r ≡ performed w world P r (host_plan world r.script v)
unfolding host_step host_view
seen_step w world P r v away is =
    ap (λ (b : Bool). option_map_or (λ (v : View). performed w world P r (host_plan world r.script v)) (if b then return_seen w world P r
    r.hosts else call_seen w world P r (call_under_way r.hosts)) r) away
    ∙ ap (λ (o : Option View). option_map_or (λ (v : View). performed w world P r (host_plan world r.script v)) o r) is

-- what whoever runs the machine has to do of it, in the words of the code
pub host_part : (w : ℕ) (world : World) (P : Placement) (r : RunState) (V : World) (Q : Placement) (s : RunState) (v : View)
    (notified : Bool) (t : RunState) (end : HostStep) → V ≡ world → Q ≡ P → s ≡ r → nat_eq r.machine.ip r.machine.gate ≡ false
    → call_seen w V Q s (call_under_way s.hosts) ≡ Some v
    → performed w V Q s (host_plan V s.script v) ≡ taken notified w V Q t end
    → taken notified w world P t end ≡ host_step w world P r
host_part w world P r V Q s v notified t end worlds placements states away sees does =
    let seen = sym (λ i. call_seen w (worlds i) (placements i) (states i) (call_under_way (states i).hosts)) ∙ sees in
    sym (λ i. taken notified w (worlds i) (placements i) t end)
    ∙ (sym does
    ∙ ((λ i. performed w (worlds i) (placements i) (states i) (host_plan (worlds i) (states i).script v))
    ∙ sym (seen_step w world P r v away seen)))

-- ---- functions that have returned

-- what is left of the frames, in the words of the code
front : {A : Type 0} (xs : List A) (x : A) → slice_get xs 0 ≡ Some x → xs ≡ x ∷ drop 1 xs
front [] x is = absurd cc
front (y ∷ ys) x is = let same : y ≡ x = cc in ap (λ z. z ∷ ys) same

-- the call that is under way above the top frame
abbrev pub call_above : Option AskedCall → Frame → NativeCall ℕ
call_above None f = (saved_of f).call
call_above (Some a) f = Asked a.place a.target

abbrev pub top_of : Option AskedCall → Frame → SavedFrame
top_of a f = record (saved_of f) { call = call_above a f }

hosts_top : (a : Option AskedCall) (f : Frame) (fs : List Frame) → hosts_of a (f ∷ fs) ≡ top_of a f ∷ map saved_of fs
hosts_top None f fs = refl
hosts_top (Some a) f fs = refl

-- A frame was left: it was this one, and the machine is as this says.
pub record IsLeft {w : ℕ} (x : Runner w) (f : Frame) (c : Machine w) (fs : List Frame) (func r7 : ℕ) (notified : Bool) : Type 0 where
  pub there : x.frames ≡ f ∷ fs
  pub machine : concrete_of c x.mem ≡ once_left (concrete_of x.machine x.mem) (saved_of f)
  pub func_is : func ≡ (saved_of f).func
  pub r7_is : r7 ≡ slice_index x.machine.regs 7
  pub notified_is : notified ≡ (saved_of f).notified

-- there is one, in the words of the code
pub is_left : {w : ℕ} (x : Runner w) (c : Machine w) (fs : List Frame) (func r7 : ℕ) (n : Bool) → 0 < length x.frames
    → fs ≡ drop 1 x.frames
    → ((f : Frame) (m : Memory) → slice_get x.frames 0 ≡ Some f → concrete_of c m ≡ once_left (concrete_of x.machine m) (saved_of f))
    → ((f : Frame) → slice_get x.frames 0 ≡ Some f → func ≡ (saved_of f).func) → r7 ≡ slice_index x.machine.regs 7
    → ((f : Frame) → slice_get x.frames 0 ≡ Some f → n ≡ (saved_of f).notified) → (f : Frame) × IsLeft x f c fs func r7 n
is_left x c fs func r7 n some rest machine func_is r7_is notified_is =
    let top = within_some x.frames 0 some in (
      top.0,
      record {
        there = front x.frames top.0 top.1 ∙ ap (λ gs. top.0 ∷ gs) (sym rest);
        machine = machine top.0 x.mem top.1;
        func_is = func_is top.0 top.1;
        r7_is = r7_is;
        notified_is = notified_is top.0 top.1;
      },
    )

-- the frames of the run
pub left_hosts : (w : ℕ) (world : World) (x : Runner w) (r : RunState) (f : Frame) (c : Machine w) (fs : List Frame) (func r7 : ℕ)
    (n : Bool) → IsAt w world x r → IsLeft x f c fs func r7 n → r.hosts ≡ top_of x.asked f ∷ map saved_of fs
left_hosts w world x r f c fs func r7 n at left =
    sym at.hosts ∙ (ap (hosts_of x.asked) left.there ∙ hosts_top x.asked f fs)

-- the runner is at what is left
pub left_at : (w : ℕ) (world : World) (x : Runner w) (r : RunState) (c : Machine w) (fs : List Frame) (h : Host w) (s : Concrete)
    (t : List Event) (e end : Ending) → IsAt w world x r → concrete_of c x.mem ≡ s → IsServing w world.notes world.script h
    → h ≡ record x.host { trace = h.trace } → h.trace.items ≡ t → e ≡ end
    → IsAt w world (record x { host = h; machine = c; frames = fs; asked = None; ending = e })
    (record r { machine = s; hosts = map saved_of fs; trace = t; ending = end })
left_at w world x r c fs h s t e end at machine serving same told ends = record {
  serving = serving;
  size = ap (λ (g : Host w). g.places.image_size) same ∙ at.size;
  image_size = at.image_size;
  memory = subst (λ n. IsMemoryOf w world (own_placement w world) n x.mem) (sym (ap (λ (g : Host w). g.entries) same)) at.memory;
  machine = machine;
  hosts = refl;
  tells = record {
    entries = at.tells.entries ∙ sym (ap (λ (g : Host w). g.entries) same);
    notifications = at.tells.notifications ∙ sym (ap (λ (g : Host w). g.notifications) same);
    thunks = ap (λ (g : Host w). g.thunks) same ∙ at.tells.thunks;
    trace = sym told;
  };
  done = at.done;
  ending = ends;
}

-- what the host reads of the result, in the words of the code
abbrev pub Reads : (w : ℕ) → World → Runner w → (func r7 : ℕ) → Value → Type 0
Reads w world x func r7 v =
    (r : RunState) → IsHost w world x.host → Tells x.host r → register r.machine 7 ≡ r7
    → v ≡ result_of w world (placement_of x.host.places) r func

pub result_there : (w : ℕ) (world : World) (x : Runner w) (r : RunState) (f : Frame) (c : Machine w) (fs : List Frame) (func r7 : ℕ)
    (n : Bool) (v : Value) → IsAt w world x r → IsLeft x f c fs func r7 n → Reads w world x func r7 v
    → result_of w world (own_placement w world) r (saved_of f).func ≡ v
result_there w world x r f c fs func r7 n v at left reads =
    let host = subst (λ (V : World). IsHost w V x.host) (is_world w world x.host at.size) at.serving.host in
    let r7_there = sym (ap (λ (s : Concrete). register s 7) at.machine) ∙ sym left.r7_is in
    sym (reads r host at.tells r7_there
    ∙ (λ i. result_of w world (is_placed w world x.host at.serving at.size i) r (left.func_is i)))

-- the host's step, by whether the frame is one of a notification and is the first one
returned_there : (w : ℕ) (world : World) (x : Runner w) (r : RunState) (f : Frame) (c : Machine w) (fs : List Frame) (func r7 : ℕ)
    (n first : Bool) (v : Value) → IsAt w world x r → IsLeft x f c fs func r7 n → Reads w world x func r7 v
    → nat_eq r.machine.ip r.machine.gate ≡ true → is_empty (map saved_of fs) ≡ first
    → host_step w world (own_placement w world) r
    ≡ performed w world (own_placement w world) (record r { hosts = top_of x.asked f ∷ map saved_of fs }) (host_plan world r.script
    (return_view n first func v))
returned_there w world x r f c fs func r7 n first v at left reads gate is =
    let hosts = left_hosts w world x r f c fs func r7 n at left in
    let result = result_there w world x r f c fs func r7 n v at left reads in
    returns_step w world (own_placement w world) r (top_of x.asked f) (map saved_of fs) gate hosts
    ∙ (λ i. performed w world (own_placement w world) (record r { hosts = hosts i }) (host_plan world r.script (return_view (sym
    left.notified_is i) (is i) (sym left.func_is i) (result i))))

-- a function of a notification
pub resumed_at : (w : ℕ) (world : World) (x : Runner w) (r : RunState) (f : Frame) (c : Machine w) (fs : List Frame) (func r7 : ℕ)
    (n : Bool) (v : Value) (h : Host w) → IsAt w world x r → IsLeft x f c fs func r7 n → Reads w world x func r7 v
    → nat_eq r.machine.ip r.machine.gate ≡ true → n ≡ true → IsServing w world.notes world.script h
    → h ≡ record x.host { trace = h.trace } → h.trace.items ≡ x.host.trace.items ++ event.Resumed func v ∷ []
    → IsAt w world (record x { host = h; machine = c; frames = fs; asked = None }) (host_step w world (own_placement w world) r)
unfolding performed host_plan
resumed_at w world x r f c fs func r7 n v h at left reads gate is serving same told =
    let marked : (saved_of f).notified ≡ true = sym left.notified_is ∙ is in
    let machine : concrete_of c x.mem ≡ as_before r.machine (top_of x.asked f) = left.machine
    ∙ (ap (λ (b : Bool). if b then as_before (concrete_of x.machine x.mem) (saved_of f) else outside (concrete_of x.machine x.mem) (saved_of
    f)) marked
    ∙ (λ i. as_before (at.machine i) (top_of x.asked f))) in
    subst (IsAt w world (record x { host = h; machine = c; frames = fs; asked = None }))
    (sym (returned_there w world x r f c fs func r7 n (is_empty (map saved_of fs)) v at left reads gate refl
    ∙ ap (λ b. performed w world (own_placement w world) (record r { hosts = top_of x.asked f ∷ map saved_of fs }) (host_plan world r.script
    (return_view b (is_empty (map saved_of fs)) func v))) is))
    (left_at w world x r c fs h (as_before r.machine (top_of x.asked f)) (r.trace ++ event.Resumed func v ∷ []) x.ending r.ending at machine
    serving same (told ∙ ap (λ t. t ++ event.Resumed func v ∷ []) (sym at.tells.trace)) at.ending)

-- the machine once a frame is left that isn't one of a notification
pub left_outside : (w : ℕ) (world : World) (x : Runner w) (r : RunState) (f : Frame) (c : Machine w) (fs : List Frame) (func r7 : ℕ)
    (n : Bool) → IsAt w world x r → IsLeft x f c fs func r7 n → n ≡ false → concrete_of c x.mem ≡ outside r.machine (top_of x.asked f)
left_outside w world x r f c fs func r7 n at left is =
    let marked : (saved_of f).notified ≡ false = sym left.notified_is ∙ is in
    left.machine
    ∙ (ap (λ (b : Bool). if b then as_before (concrete_of x.machine x.mem) (saved_of f) else outside (concrete_of x.machine x.mem) (saved_of
    f)) marked
    ∙ (λ i. outside (at.machine i) (top_of x.asked f)))

-- any other one but the first
pub returned_at : (w : ℕ) (world : World) (x : Runner w) (r : RunState) (f : Frame) (c : Machine w) (fs : List Frame) (func r7 : ℕ)
    (n : Bool) (v : Value) (h : Host w) → IsAt w world x r → IsLeft x f c fs func r7 n → Reads w world x func r7 v
    → nat_eq r.machine.ip r.machine.gate ≡ true → n ≡ false → is_empty (map saved_of fs) ≡ false
    → IsServing w world.notes world.script h → h ≡ record x.host { trace = h.trace }
    → h.trace.items ≡ x.host.trace.items ++ event.Returned func v ∷ []
    → IsAt w world (record x { host = h; machine = c; frames = fs; asked = None }) (host_step w world (own_placement w world) r)
unfolding performed host_plan
returned_at w world x r f c fs func r7 n v h at left reads gate is some serving same told =
    subst (IsAt w world (record x { host = h; machine = c; frames = fs; asked = None }))
    (sym (returned_there w world x r f c fs func r7 n false v at left reads gate some
    ∙ ap (λ b. performed w world (own_placement w world) (record r { hosts = top_of x.asked f ∷ map saved_of fs }) (host_plan world r.script
    (return_view b false func v))) is))
    (left_at w world x r c fs h (outside r.machine (top_of x.asked f)) (r.trace ++ event.Returned func v ∷ []) x.ending r.ending at
    (left_outside w world x r f c fs func r7 n at left is) serving same (told ∙ ap (λ t. t ++ event.Returned func v ∷ []) (sym
    at.tells.trace)) at.ending)

-- the first one
pub finished_at : (w : ℕ) (world : World) (x : Runner w) (r : RunState) (f : Frame) (c : Machine w) (fs : List Frame) (func r7 : ℕ)
    (n : Bool) (v : Value) → IsAt w world x r → IsLeft x f c fs func r7 n → Reads w world x func r7 v
    → nat_eq r.machine.ip r.machine.gate ≡ true → n ≡ false → is_empty (map saved_of fs) ≡ true
    → IsAt w world (record x { machine = c; frames = fs; asked = None; ending = Finished v }) (host_step w world (own_placement w world) r)
unfolding performed host_plan
finished_at w world x r f c fs func r7 n v at left reads gate is none =
    subst (IsAt w world (record x { machine = c; frames = fs; asked = None; ending = Finished v }))
    (sym (returned_there w world x r f c fs func r7 n true v at left reads gate none
    ∙ ap (λ b. performed w world (own_placement w world) (record r { hosts = top_of x.asked f ∷ map saved_of fs }) (host_plan world r.script
    (return_view b true func v))) is))
    (left_at w world x r c fs x.host (outside r.machine (top_of x.asked f)) r.trace (Finished v) (Finished v) at
    (left_outside w world x r f c fs func r7 n at left is) at.serving refl (sym at.tells.trace) refl)

-- ---- numbers of arguments

-- they are those of the run
pub numbers_there : (w : ℕ) (world : World) (x : Runner w) (r : RunState) (args : List Seen) (numbers : List ℕ) → IsAt w world x r
    → numbers ≡ map (λ (s : Seen). written_number w world.notes (placement_of x.host.places) x.host.made.items s.value) args
    → numbers ≡ map (λ (s : Seen). written_number w world.notes (own_placement w world) (objects_at world r) s.value) args
numbers_there w world x r args numbers at is =
    let made = at.serving.host.made ∙ ap (λ n. made_objects world.notes world.script n) (sym at.tells.entries) in
    is
    ∙ (λ i. map (λ (s : Seen). written_number w world.notes (is_placed w world x.host at.serving at.size i) (made i) s.value) args)

-- ---- whether a native call is under way

pub called_there : (fs : List Frame) (entry : ℕ) → 0 < length fs → ((f : Frame) → slice_get fs 0 ≡ Some f → entry ≡ f.entry)
    → nat_eq entry NO_ENTRY ≡ false → IsCalled fs
called_there fs entry some is under =
    let top = within_some fs 0 some in
    record { top = top.0; there = top.1; under = sym (ap (λ n. nat_eq n NO_ENTRY) (is top.0 top.1)) ∙ under }

pub none_there : (fs : List Frame) (entry : ℕ) → ((f : Frame) → slice_get fs 0 ≡ Some f → entry ≡ f.entry) → nat_eq entry NO_ENTRY ≡ true
    → call_under_way (map saved_of fs) ≡ NoCall
unfolding saved_of call_of
none_there [] entry is none = refl
none_there (f ∷ fs) entry is none =
    ap (λ b. if b then NoCall else Accepted f.entry f.callback (take f.count f.slots)) (sym (ap (λ n. nat_eq n NO_ENTRY) (is f refl))
    ∙ none)

-- ---- steps of the host, in the words of the code

-- what is kept of the runner's host, and of its memory
host_at : (w : ℕ) (world : World) (x : Runner w) (r : RunState) (h : Host w) (m : Memory) (fs : List Frame) → IsAt w world x r
    → x.asked ≡ None → IsServing w world.notes world.script h → h.places ≡ x.host.places → h.entries ≡ x.host.entries
    → h.thunks ≡ x.host.thunks → KeepsObjects x.mem m
    → IsAt w world (record x { host = h; mem = m; frames = fs }) (shown h m (map saved_of fs) r)
host_at w world x r h m fs at unasked serving places entries thunks keeps =
    let memory = subst (λ n. IsMemoryOf w world (own_placement w world) n m) (sym entries) (memory_kept w world (own_placement w world)
    x.host.entries x.mem m at.memory keeps) in
    let size = ap (λ (p : Places). p.image_size) places ∙ at.size in
    subst (λ (o : Option AskedCall). IsAt w world (record x { host = h; mem = m; frames = fs }) (shown h m (hosts_of o fs) r)) unasked
    (shown_at w world x r h m fs x.asked at serving size memory thunks)

-- the world, the placement and the state that the code speaks of are the run's
worlds_are : (w : ℕ) (world : World) (notes : Notes) (script : Script) (x : Runner w) → world.notes ≡ notes → world.script ≡ script
    → x.host.places.image_size ≡ world.image_size → host_world notes script x.host ≡ world
worlds_are w world notes script x notes_are script_is size =
    λ i. record { notes = sym notes_are i; script = sym script_is i; image_size = size i }

shown_there : (w : ℕ) (world : World) (x : Runner w) (r : RunState) → IsAt w world x r → x.asked ≡ None
    → shown x.host x.mem (map saved_of x.frames) r ≡ r
shown_there w world x r at unasked =
    sym (ap (λ o. shown x.host x.mem (hosts_of o x.frames) r) unasked) ∙ shown_same w world x r at

serving_there : (w : ℕ) (world : World) (notes : Notes) (script : Script) (h : Host w) → world.notes ≡ notes → world.script ≡ script
    → IsServing w notes script h → IsServing w world.notes world.script h
serving_there w world notes script h notes_are script_is serving =
    subst (λ (n : Notes). IsServing w n world.script h) (sym notes_are) (subst (λ (s : Script). IsServing w notes s h) (sym script_is)
    serving)

-- the runner is at the host's step where it is at what is left to do of it
pub taken_at : (w : ℕ) (world : World) (y : Runner w) (r t : RunState) (notified : Bool) (st : HostStep) → IsAt w world y (taken notified w
    world (own_placement w world) t st)
    → taken notified w world (own_placement w world) t st ≡ host_step w world (own_placement w world) r
    → IsAt w world y (host_step w world (own_placement w world) r)
taken_at w world y r t notified st at is = subst (IsAt w world y) is at

-- a call goes on
pub next_part : (w : ℕ) (world : World) (notes : Notes) (script : Script) (x : Runner w) (r : RunState) (h : Host w) (m : Memory) (fs :
    List Frame)
    (st : HostStep) → world.notes ≡ notes → world.script ≡ script → IsAt w world x r → x.asked ≡ None → IsCalled x.frames
    → nat_eq r.machine.ip r.machine.gate ≡ false
    → ((r : RunState) (v : View) → call_seen w (host_world notes script x.host) (placement_of x.host.places) (shown x.host x.mem (map
    saved_of x.frames) r) (call_under_way (map saved_of x.frames)) ≡ Some v → performed w (host_world notes script x.host) (placement_of
    x.host.places) (shown x.host x.mem (map saved_of x.frames) r) (host_plan (host_world notes script x.host) (shown x.host x.mem (map
    saved_of x.frames) r).script v) ≡ taken false w (host_world notes script x.host) (placement_of x.host.places) (shown h m (map saved_of
    fs) r) st)
    → taken false w world (own_placement w world) (shown h m (map saved_of fs) r) st ≡ host_step w world (own_placement w world) r
next_part w world notes script x r h m fs st notes_are script_is at unasked called away after =
    let V = host_world notes script x.host in
    let Q = placement_of x.host.places in
    let s = shown x.host x.mem (map saved_of x.frames) r in
    let v : View = GoesOn called.top.entry called.top.callback (length s.hosts) (writes_mapped w V Q s called.top.entry) in
    let sees : call_seen w V Q s (call_under_way (map saved_of x.frames)) ≡ Some v = ap (call_seen w V Q s) (under-way x.frames called) in
    host_part w world (own_placement w world) r V Q s v false (shown h m (map saved_of fs) r) st
    (worlds_are w world notes script x notes_are script_is at.size) (is_placed w world x.host at.serving at.size)
    (shown_there w world x r at unasked) away sees (after r v sees)

pub next_shown : (w : ℕ) (world : World) (notes : Notes) (script : Script) (x : Runner w) (r : RunState) (h : Host w) (m : Memory) (fs :
    List Frame)
    → world.notes ≡ notes → world.script ≡ script → IsAt w world x r → x.asked ≡ None → IsServing w notes script h
    → h ≡ record x.host { trace = h.trace } → KeepsObjects x.mem m
    → IsAt w world (record x { host = h; mem = m; frames = fs }) (shown h m (map saved_of fs) r)
next_shown w world notes script x r h m fs notes_are script_is at unasked serving same keeps =
    host_at w world x r h m fs at unasked (serving_there w world notes script h notes_are script_is serving)
    (ap (λ (g : Host w). g.places) same) (ap (λ (g : Host w). g.entries) same) (ap (λ (g : Host w). g.thunks) same) keeps

-- a notification is due
due_seen : (w : ℕ) (V : World) (Q : Placement) (s : RunState) (n : ℕ) → call_under_way s.hosts ≡ NoCall → is_due V.script s.script ≡ true
    → length s.hosts ≡ n → call_seen w V Q s (call_under_way s.hosts) ≡ Some (IsDue n)
due_seen w V Q s n none due count =
    ap (call_seen w V Q s) none
    ∙ (ap (λ b. if b then Some (IsDue (length s.hosts)) else None) due ∙ ap (λ k. Some (IsDue k)) count)

pub due_part : (w : ℕ) (world : World) (notes : Notes) (script : Script) (x : Runner w) (r : RunState) (h : Host w) (st : HostStep)
    → world.notes ≡ notes → world.script ≡ script → IsAt w world x r → x.asked ≡ None → call_under_way r.hosts ≡ NoCall
    → is_due world.script r.script ≡ true → nat_eq r.machine.ip r.machine.gate ≡ false
    → ((r : RunState) (m : Memory) (hosts : List SavedFrame) → CountsThunks x.host r → performed w (host_world notes script x.host)
    (placement_of x.host.places) (shown x.host m hosts r) (due_plan (host_world notes script x.host) (shown x.host m hosts r) (length
    x.frames)) ≡ taken true w (host_world notes script x.host) (placement_of x.host.places) (shown h m hosts r) st)
    → taken true w world (own_placement w world) (shown h x.mem (map saved_of x.frames) r) st ≡ host_step w world (own_placement w world) r
due_part w world notes script x r h st notes_are script_is at unasked none due away after =
    let V = host_world notes script x.host in
    let Q = placement_of x.host.places in
    let s = shown x.host x.mem (map saved_of x.frames) r in
    let same = shown_there w world x r at unasked in
    let free = ap (λ (q : RunState). call_under_way q.hosts) same ∙ none in
    let now = ap (λ (q : RunState). is_due script q.script) same ∙ (ap (λ t. is_due t r.script) (sym script_is) ∙ due) in
    let sees = due_seen w V Q s (length x.frames) free now (length-map saved_of x.frames) in
    host_part w world (own_placement w world) r V Q s (IsDue (length x.frames)) true (shown h x.mem (map saved_of x.frames) r) st
    (worlds_are w world notes script x notes_are script_is at.size) (is_placed w world x.host at.serving at.size) same away sees
    (after r x.mem (map saved_of x.frames) at.tells.thunks)

pub due_shown : (w : ℕ) (world : World) (notes : Notes) (script : Script) (x : Runner w) (r : RunState) (h : Host w)
    → world.notes ≡ notes → world.script ≡ script → IsAt w world x r → x.asked ≡ None → IsServing w notes script h
    → h ≡ record x.host { notifications = h.notifications; trace = h.trace }
    → IsAt w world (record x { host = h }) (shown h x.mem (map saved_of x.frames) r)
due_shown w world notes script x r h notes_are script_is at unasked serving same =
    host_at w world x r h x.mem x.frames at unasked (serving_there w world notes script h notes_are script_is serving)
    (ap (λ (g : Host w). g.places) same) (ap (λ (g : Host w). g.entries) same) (ap (λ (g : Host w). g.thunks) same) (keeps-none x.mem)

-- whether frames are left
pub empty_when : (fs : List Frame) (depth : ℕ) → depth ≡ length fs → depth ≡ 0 → is_empty (map saved_of fs) ≡ true
empty_when [] depth count none = refl
empty_when (f ∷ fs) depth count none = absurd (omega arith)

pub some_when : (fs : List Frame) (depth : ℕ) → depth ≡ length fs → (depth ≡ 0 → ⊥) → is_empty (map saved_of fs) ≡ false
some_when [] depth count some = absurd (some count)
some_when (f ∷ fs) depth count some = refl

pub serving_back : (w : ℕ) (world : World) (notes : Notes) (h : Host w) → world.notes ≡ notes → IsServing w notes world.script h
    → IsServing w world.notes world.script h
serving_back w world notes h notes_are serving = subst (λ (n : Notes). IsServing w n world.script h) (sym notes_are) serving

-- a call gets its reply
pub replied_taken : (w : ℕ) (world : World) (x : Runner w) (r : RunState) (notified : Bool) (st : HostStep) (n : ℕ) → st ≡ step.Reply n
    → IsAt w world x r
    → IsAt w world (record x { machine = record x.machine { regs = slice_set x.machine.regs 7 n } }) (taken notified w world (own_placement
    w
    world) r st)
replied_taken w world x r notified st n is at =
    subst (λ (s : HostStep). IsAt w world (record x { machine = record x.machine { regs = slice_set x.machine.regs 7 n } }) (taken notified
    w
    world (own_placement w world) r s)) (sym is) (replied_at w world x r n at)

-- ---- native calls that are asked for

-- the runner is at what the host shows, where a native call is still asked for or none is
pub called_host : (w : ℕ) (world : World) (notes : Notes) (script : Script) (x : Runner w) (r : RunState) (h : Host w) (m : Memory) (fs :
    List Frame)
    (o : Option AskedCall) → world.notes ≡ notes → world.script ≡ script → IsAt w world x r → IsServing w notes script h
    → IsMemoryOf w (host_world notes script h) (placement_of h.places) h.entries m
    → h ≡ record x.host { made = h.made; entries = h.entries; trace = h.trace }
    → IsAt w world (record x { host = h; mem = m; frames = fs; asked = o }) (shown h m (hosts_of o fs) r)
called_host w world notes script x r h m fs o notes_are script_is at serving memory same =
    let places = ap (λ (g : Host w). g.places) same in
    let size = ap (λ (p : Places). p.image_size) places ∙ at.size in
    let placements = ap placement_of places ∙ is_placed w world x.host at.serving at.size in
    let V : host_world notes script h ≡ world =
    λ i. record { notes = sym notes_are i; script = sym script_is i; image_size = size i } in
    shown_at w world x r h m fs o at (serving_there w world notes script h notes_are script_is serving) size
    (subst (λ (U : World). IsMemoryOf w U (own_placement w world) h.entries m) V
    (subst (λ (Q : Placement). IsMemoryOf w (host_world notes script h) Q h.entries m) placements memory))
    (ap (λ (g : Host w). g.thunks) same)

-- the step of the host
pub call_part : (w : ℕ) (world : World) (notes : Notes) (script : Script) (x : Runner w) (r : RunState) (a : AskedCall) (h : Host w) (m :
    Memory)
    (fs : List Frame) (slots : ℕ) (st : HostStep) → world.notes ≡ notes → world.script ≡ script → IsAt w world x r → x.asked ≡ Some a
    → 0 < length x.frames → nat_eq r.machine.ip r.machine.gate ≡ false → slots ≡ slice_index x.machine.regs 0
    → ((r : RunState) → register r.machine 0 ≡ slots → performed w (host_world notes script x.host) (placement_of x.host.places) (asked
    x.host x.mem x.frames a.place a.target r) (asked_plan w (host_world notes script x.host) (placement_of x.host.places) (asked x.host
    x.mem x.frames a.place a.target r) a.place a.target) ≡ taken false w (host_world notes script x.host) (placement_of x.host.places)
    (settled h m fs a.place a.target st r) st)
    → taken false w world (own_placement w world) (settled h m fs a.place a.target st r) st ≡ host_step w world (own_placement w world) r
call_part w world notes script x r a h m fs slots st notes_are script_is at is some away top after =
    let V = host_world notes script x.host in
    let Q = placement_of x.host.places in
    let s = asked x.host x.mem x.frames a.place a.target r in
    let v : View = Calls a.place (asking_at w V Q s a.place a.target) in
    let same = sym (ap (λ o. shown x.host x.mem (hosts_of o x.frames) r) is) ∙ shown_same w world x r at in
    let sees : call_seen w V Q s (call_under_way s.hosts) ≡ Some v = ap (call_seen w V Q s) (asked_under_way a x.frames some) in
    let here = ap (λ (t : Concrete). register t 0) (sym at.machine) ∙ sym top in
    host_part w world (own_placement w world) r V Q s v false (settled h m fs a.place a.target st r) st
    (worlds_are w world notes script x notes_are script_is at.size) (is_placed w world x.host at.serving at.size) same away sees
    (after r here)

settled_else : (w : ℕ) (h : Host w) (m : Memory) (fs : List Frame) (place target : ℕ) (r : RunState) (st : HostStep)
    → (st ≡ step.Accepted → ⊥) → asked h m fs place target r ≡ settled h m fs place target st r
settled_else w h m fs place target r step.Accepted other = absurd (other refl)
settled_else w h m fs place target r (step.Enter f args) other = refl
settled_else w h m fs place target r (step.Reply n) other = refl
settled_else w h m fs place target r (step.Mismatch why) other = refl
settled_else w h m fs place target r step.ScriptEnd other = refl
settled_else w h m fs place target r (step.Raised e) other = refl

-- the call is accepted
pub accepted_shown : (w : ℕ) (world : World) (x : Runner w) (r : RunState) (a : AskedCall) (h : Host w) (m : Memory) (fs : List Frame)
    → IsAt w world (record x { host = h; mem = m; frames = fs; asked = None }) (shown h m (hosts_of None fs) r)
    → taken false w world (own_placement w world) (settled h m fs a.place a.target step.Accepted r) step.Accepted
    ≡ host_step w world (own_placement w world) r
    → IsAt w world (record x { host = h; mem = m; frames = fs; asked = None }) (host_step w world (own_placement w world) r)
accepted_shown w world x r a h m fs at part =
    subst (IsAt w world (record x { host = h; mem = m; frames = fs; asked = None })) part at

-- it isn't
pub settled_shown : (w : ℕ) (world : World) (x : Runner w) (r : RunState) (a : AskedCall) (h : Host w) (m : Memory) (fs : List Frame)
    (st : HostStep) → x.asked ≡ Some a → (st ≡ step.Accepted → ⊥)
    → IsAt w world (record x { host = h; mem = m; frames = fs }) (shown h m (hosts_of x.asked fs) r)
    → IsAt w world (record x { host = h; mem = m; frames = fs }) (settled h m fs a.place a.target st r)
settled_shown w world x r a h m fs st is other at =
    subst (IsAt w world (record x { host = h; mem = m; frames = fs })) (ap (λ o. shown h m (hosts_of o fs) r) is ∙ settled_else w h m fs
    a.place a.target r st other) at

-- a call that is settled enters nothing
pub settled_enters : (st : HostStep) (A : ℕ → List Seen → Type 0) → IsSettled st → OnEnter st A
settled_enters step.Accepted A is = tt
settled_enters (step.Enter f args) A is = absurd is
settled_enters (step.Reply n) A is = absurd is
settled_enters (step.Mismatch why) A is = tt
settled_enters step.ScriptEnd A is = tt
settled_enters (step.Raised e) A is = tt

-- what is asked where a notification's function is to be entered
pub due_enters : (notes : Notes) (st : HostStep) (frames : ℕ) (D : Type 0)
    → OnEnter st (λ f args. (f < length notes.function) × (length args ≡ length (function_params notes f)))
    → OnEnter st (λ f args. frames < frame_limit) → D
    → OnEnter st (λ f args. (f < length notes.function) × (length args ≡ length (function_params notes f)) × (frames < frame_limit) × D)
due_enters notes step.Accepted frames D known low unasked = tt
due_enters notes (step.Enter f args) frames D known low unasked = (known.0, known.1, low, unasked)
due_enters notes (step.Reply n) frames D known low unasked = tt
due_enters notes (step.Mismatch why) frames D known low unasked = tt
due_enters notes step.ScriptEnd frames D known low unasked = tt
due_enters notes (step.Raised e) frames D known low unasked = tt
