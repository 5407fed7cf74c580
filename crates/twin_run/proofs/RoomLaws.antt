-- Laws of the events that may still come: no step of a run that goes on raises what its trace has and what may still come.
use Rattle.twin_run.proofs.Common.{◌≡◌, ℕ, zero, suc, ◌+◌, ◌-◌, ◌*◌, ◌<◌, ◌≤◌, Bool, true, false, not, ◌&&◌, List, [], ◌∷◌, ◌++◌, length}
use Rattle.twin_run.proofs.Common.{map, drop, Option, Some, None, refl, sym, ap, subst, arith, slice_get, nat_eq, nat_le, if◌then◌else◌}
use Rattle.twin_run.proofs.Common.{add-one, ⊤, sum_by, option_map_or, StepEnd, machine_step, Concrete, Ending, Running, Raised, Mismatch}
use Rattle.twin_run.proofs.Common.{ScriptEnd, Event, Notify, Script, ScriptCall, Seen, Value, View, IsDue, GoesOn, Ends, Enters, Replies}
use Rattle.twin_run.proofs.Common.{Notifies, ThunkView, NotMapped, NamesNone, Names, function_params, signature_result, host_plan}
use Rattle.twin_run.proofs.Common.{host_turn, is_due, return_view, call_seen, call_under_way, frame_for, host_step, host_view, performed}
use Rattle.twin_run.proofs.Common.{return_seen, thunk_made, thunk_view, with_call, inside, written_number, made_objects, TypedObject}
use Rattle.twin_run.proofs.Common.{Placement, code_at, frame_limit, NativeCall, NoCall, Asked, Accepted, ScriptPlace, is_empty}
use Rattle.twin_run.proofs.Common.{one_callback, one_notification, script_start, RunState, SavedFrame, after_instruction, instruction_step}
use Rattle.twin_run.proofs.Common.{running_step, World, AreInside, HasEvents, call_events, events_left}
use Rattle.std.proofs.{Common.length-append, lemmas.List.Sums.sum_by-cons, lemmas.Option.slice_get_within}
use Rattle.std.specs.Option.{option_or}
use Rattle.note_types.specs.declared.script.Callback.{Callback}
use Rattle.host_model.specs.HostPlans.{Asking, NoSite, Unmapped, Asks, reply_stores, signature_params, argument_refused, asking_refused}
use Rattle.host_model.specs.HostPlans.{call_event, call_plan, call_settled, callback_fits, enter_plan, entry_refused, next_plan}
use Rattle.host_model.specs.HostPlans.{notification_fits, notify_plan, reply_fits, reply_plan, asked_signature, asked_args}
use Rattle.host_model.specs.{Progress.one_entry, ScriptValues.given, ScriptValues.same_seen}
use Rattle.host_laws.proofs.Plans.{left_over, none_left}
use Rattle.native_host.specs.Starting.{rest_events}
use Rattle.twin_run.specs.Room.{callbacks_left, frame_events}
use Rattle.ebc_machine.specs.declared.StepEnd.TheVariants as ends
use Rattle.note_types.specs.declared.event.Event.TheVariants as event
use Rattle.note_types.specs.declared.exception.Exception.TheVariants as raises
use Rattle.note_types.specs.declared.reason.Reason.TheVariants as reason

-- ---- what the frames may still give

abbrev frames_events : Script → List SavedFrame → ℕ
frames_events script hs = sum_by (frame_events script) hs

-- what may still come beside the frames' events
abbrev rest_left : Script → ScriptPlace → ℕ
rest_left script at = rest_events (drop at.entries script.call) + 2 * (length script.notify - at.notifications)

-- with what the trace has
abbrev AreFew : Script → ℕ → List SavedFrame → ScriptPlace → List Event → Type 0
AreFew script most hs at t = length t + (frames_events script hs + rest_left script at) ≤ most

pub more : (script : Script) (f : SavedFrame) (fs : List SavedFrame)
    → frames_events script (f ∷ fs) ≡ 1 + call_events script f.call + frames_events script fs
more script f fs = sum_by-cons (frame_events script) f fs

-- a call that gives nothing
pub quiet : (script : Script) (c : NativeCall ℕ) (hs : List SavedFrame) → call_events script c ≡ 0
    → frames_events script (with_call c hs) ≤ frames_events script hs
quiet script c [] none = omega arith
quiet script c (f ∷ fs) none =
    let a = more script (record f { call = c }) fs in
    let b = more script f fs in
    omega (arith, a, b, none)

pub inside-call : (c : NativeCall ℕ) (hs : List SavedFrame) → AreInside hs → AreInside (with_call c hs)
inside-call c [] h = h
inside-call c (f ∷ []) h = h
inside-call c (f ∷ (g ∷ fs)) h = h

inside-more : (f : SavedFrame) (hs : List SavedFrame) → AreInside hs → AreInside (f ∷ hs)
inside-more f [] h = absurd h
inside-more f (g ∷ gs) h = h

-- ---- runs that go on, and runs that ended

abbrev running : Concrete → List SavedFrame → ScriptPlace → List Event → RunState
running m hs at t = record { machine = m; hosts = hs; script = at; trace = t; ending = Running }

goes : (script : Script) (most : ℕ) (m : Concrete) (hs : List SavedFrame) (at : ScriptPlace) (t : List Event) → AreInside hs
    → AreFew script most hs at t → HasEvents script most (running m hs at t)
unfolding events_left
goes script most m hs at t inside few = record { inside = λ _. inside; room = λ _. few }

ended : (script : Script) (most : ℕ) (r : RunState) → (r.ending ≡ Running → ⊥) → HasEvents script most r
ended script most r over = record { inside = λ h. absurd (over h); room = λ h. absurd (over h) }

one-more : (t : List Event) (e : Event) → length (t ++ e ∷ []) ≡ length t + 1
one-more t e = length-append t (e ∷ [])

-- ---- instructions

after-events : (w : ℕ) (world : World) (P : Placement) (most : ℕ) (m : Concrete) (hs : List SavedFrame) (at : ScriptPlace) (t : List Event)
    (e : StepEnd) (s : Concrete) → AreInside hs → AreFew world.script most hs at t
    → HasEvents world.script most (after_instruction w world P (running m hs at t) (e, s))
unfolding thunk_made after_instruction
after-events w world P most m hs at t ends.Next s i few = goes world.script most s hs at t i few
after-events w world P most m hs at t (ends.Native target) s i few =
    let c : NativeCall ℕ = Asked _ target in
    let less = quiet world.script c hs refl in
    goes world.script most s (with_call c hs) at t (inside-call c hs i) (omega (arith, less))
after-events w world P most m hs at t ends.Gate s i few = goes world.script most m hs at t i few
after-events w world P most m hs at t (ends.MakeThunk a) s i few = by (thunk_view world P s a) where
  by : (v : ThunkView) → HasEvents world.script most (thunk_made w world P (running m hs at t) s a v)
  by NotMapped = ended world.script most _ (λ h. cc)
  by NamesNone = ended world.script most _ (λ h. cc)
  by (Names f) = goes world.script most _ hs (record at { thunks = at.thunks + 1 }) t i few
after-events w world P most m hs at t (ends.Raised e) s i few = ended world.script most _ (λ h. cc)

pub instruction-events : (w : ℕ) (world : World) (P : Placement) (most : ℕ) (m : Concrete) (hs : List SavedFrame) (at : ScriptPlace)
    (t : List Event) → AreInside hs → AreFew world.script most hs at t
    → HasEvents world.script most (instruction_step w world P (running m hs at t))
unfolding instruction_step
instruction-events w world P most m hs at t i few = by (machine_step w m) where
  by : (x : StepEnd × Concrete)
      → HasEvents world.script most (after_instruction w world P (running m hs (record at { instructions = at.instructions + 1 }) t) x)
  by (e, s) = after-events w world P most m hs (record at { instructions = at.instructions + 1 }) t e s i few

-- ---- functions that have returned

returned-events : (w : ℕ) (world : World) (P : Placement) (most : ℕ) (m : Concrete) (f : SavedFrame) (fs : List SavedFrame)
    (at : ScriptPlace) (t : List Event) (v : Value) (n : Bool) → f.notified ≡ n → AreInside (f ∷ fs)
    → AreFew world.script most (f ∷ fs) at t
    → HasEvents world.script most (performed w world P (running m (f ∷ fs) at t) (host_plan world at (return_view n (is_empty fs) f.func
    v)))
unfolding host_plan performed
returned-events w world P most m f [] at t v true is i few = absurd (let same = i in cc)
returned-events w world P most m f [] at t v false is i few = ended world.script most _ (λ h. cc)
returned-events w world P most m f (g ∷ gs) at t v true is i few =
    let told = one-more t (event.Resumed f.func v) in
    let frames = more world.script f (g ∷ gs) in
    goes world.script most _ (g ∷ gs) at (t ++ event.Resumed f.func v ∷ []) i (omega (arith, told, frames))
returned-events w world P most m f (g ∷ gs) at t v false is i few =
    let told = one-more t (event.Returned f.func v) in
    let frames = more world.script f (g ∷ gs) in
    goes world.script most _ (g ∷ gs) at (t ++ event.Returned f.func v ∷ []) i (omega (arith, told, frames))

-- ---- native calls that are asked for

abbrev AreEnds : Option Ending → Type 0
AreEnds None = ⊤
AreEnds (Some e) = e ≡ Running → ⊥

arguments-end : (k : ℕ) (xs ys : List Seen) → AreEnds (argument_refused k xs ys)
unfolding argument_refused
arguments-end k [] ys = tt
arguments-end k (x ∷ xs) [] = tt
arguments-end k (x ∷ xs) (y ∷ ys) = by (same_seen x y) (arguments-end (suc k) xs ys) where
  by : (b : Bool) → AreEnds (argument_refused (suc k) xs ys)
      → AreEnds (if b then argument_refused (suc k) xs ys else Some (Mismatch (reason.Argument k x y)))
  by true rest = rest
  by false rest = λ h. cc

asking-ends : (place : ℕ) (asking : Asking) → AreEnds (asking_refused place asking)
asking-ends place NoSite = λ h. cc
asking-ends place (Unmapped g) = λ h. cc
asking-ends place (Asks g (Some a) args) = λ h. cc
asking-ends place (Asks g None args) = tt

entry-ends : (o : Option ScriptCall) (g : ℕ) (args : List Seen) → AreEnds (entry_refused o g args)
entry-ends None g args = λ h. cc
entry-ends (Some c) g args = by (nat_eq c.signature g) where
  by : (b : Bool)
      → AreEnds (if b then argument_refused 0 args c.args else Some (Mismatch (reason.Signature g c.signature)))
  by true = arguments-end 0 args c.args
  by false = λ h. cc

or-ends : (a b : Option Ending) → AreEnds a → AreEnds b → AreEnds (option_or a b)
or-ends None b x y = y
or-ends (Some e) b x y = x

rest-next : (cs : List ScriptCall) (k : ℕ) (c : ScriptCall) → slice_get cs k ≡ Some c
    → rest_events (drop k cs) ≡ 2 + 2 * length c.enter + rest_events (drop (suc k) cs)
unfolding rest_events
rest-next [] k c is = absurd (let within = slice_get_within [] k c is in omega arith)
rest-next (x ∷ xs) zero c is = ap (λ (o : Option ScriptCall). option_map_or (λ (d : ScriptCall). 2 + 2 * length d.enter + rest_events xs) o
    0) is
rest-next (x ∷ xs) (suc k) c is = rest-next xs k c is

left-of : (script : Script) (entry callbacks : ℕ) (c : ScriptCall) → slice_get script.call entry ≡ Some c
    → callbacks_left script entry callbacks ≡ length c.enter - callbacks
left-of script entry callbacks c is = ap (λ o. option_map_or (λ (c : ScriptCall). length c.enter - callbacks) o 0) is

accepted-events : (script : Script) (most : ℕ) (m : Concrete) (f : SavedFrame) (fs : List SavedFrame) (at : ScriptPlace) (t : List Event)
    (e : Event) (slots : List ℕ) (c : ScriptCall) → slice_get script.call at.entries ≡ Some c → AreInside (f ∷ fs)
    → AreFew script most (f ∷ fs) at t
    → HasEvents script most (running m (with_call (Accepted at.entries 0 slots) (f ∷ fs)) (one_entry at) (t ++ e ∷ []))
accepted-events script most m f fs at t e slots c is i few =
    let told = one-more t e in
    let before = more script f fs in
    let after = more script (record f { call = Accepted at.entries 0 slots }) fs in
    let callbacks = left-of script at.entries 0 c is in
    let next : rest_events (drop at.entries script.call) ≡ 2 + 2 * length c.enter + rest_events (drop (at.entries + 1) script.call)
    = rw add-one (rest-next script.call at.entries c is) in
    goes script most m (with_call (Accepted at.entries 0 slots) (f ∷ fs)) (one_entry at) (t ++ e ∷ [])
    (inside-call (Accepted at.entries 0 slots) (f ∷ fs) i) (omega (arith, told, before, after, callbacks, next))

called-events : (w : ℕ) (world : World) (P : Placement) (most : ℕ) (m : Concrete) (f : SavedFrame) (fs : List SavedFrame)
    (at : ScriptPlace) (t : List Event) (place : ℕ) (asking : Asking) → AreInside (f ∷ fs) → AreFew world.script most (f ∷ fs) at t
    → HasEvents world.script most (performed w world P (running m (f ∷ fs) at t) (call_plan world at.entries place asking))
unfolding call_plan performed
called-events w world P most m f fs at t place asking i few =
    by (option_or (asking_refused place asking) (entry_refused (slice_get world.script.call at.entries) (asked_signature asking)
    (asked_args asking)))
    (or-ends _ _ (asking-ends place asking) (entry-ends (slice_get world.script.call at.entries) (asked_signature asking) (asked_args
    asking)))
    (λ none. left_over (slice_get world.script.call at.entries) (asked_signature asking) (asked_args asking)
    (none_left (asking_refused place asking) _ none).1) where
      by : (o : Option Ending) → AreEnds o → (o ≡ None → (c : ScriptCall) × (slice_get world.script.call at.entries ≡ Some c))
          → HasEvents world.script most (performed w world P (running m (f ∷ fs) at t) (call_settled world at.entries (call_event place
          asking)
          o))
      by None ends there =
          accepted-events world.script most _ f fs at t (call_event place asking) _ (there refl).0 (there refl).1 i few
      by (Some x) ends there = ended world.script most _ ends

-- ---- native calls that go on

entered-events : (script : Script) (most : ℕ) (m : Concrete) (hs : List SavedFrame) (at : ScriptPlace) (t : List Event) (g : SavedFrame)
    (o : Option Concrete) → AreInside hs → AreFew script most (g ∷ hs) at t
    → HasEvents script most (option_map_or (λ (s : Concrete). running s (g ∷ hs) at t) o
    (record { machine = m; hosts = hs; script = at; trace = t; ending = Raised raises.StackFault }))
entered-events script most m hs at t g None i few = ended script most _ (λ h. cc)
entered-events script most m hs at t g (Some s) i few = goes script most s (g ∷ hs) at t (inside-more g hs i) few

callback-events : (w : ℕ) (world : World) (P : Placement) (most : ℕ) (m : Concrete) (f : SavedFrame) (fs : List SavedFrame)
    (at : ScriptPlace) (t : List Event) (made : List TypedObject) (entry callbacks frames : ℕ) (slots : List ℕ) (c : ScriptCall)
    (b : Callback) → f.call ≡ Accepted entry callbacks slots → slice_get world.script.call entry ≡ Some c
    → slice_get c.enter callbacks ≡ Some b → AreInside (f ∷ fs) → AreFew world.script most (f ∷ fs) at t
    → HasEvents world.script most (performed w world P (running m (f ∷ fs) at t) (enter_plan world.notes made entry callbacks frames b))
unfolding enter_plan performed
callback-events w world P most m f fs at t made entry callbacks frames slots c b under is there i few =
    by (callback_fits world.notes made b) (nat_le frame_limit frames) where
      by : (x y : Bool) → HasEvents world.script most (performed w world P (running m (f ∷ fs) at t)
          (if not x then Ends [] (Mismatch (reason.Enter entry callbacks)) else if y then Ends [] (Mismatch reason.Depth)
          else Enters (event.Entered b.function (map given b.values)) entry b.function b.values))
      by false y = ended world.script most _ (λ h. cc)
      by true true = ended world.script most _ (λ h. cc)
      by true false =
          let told = one-more t (event.Entered b.function (map given b.values)) in
          let g = frame_for false m b.function in
          let h : SavedFrame = record f { call = one_callback f.call } in
          let before = more world.script f fs in
          let after = more world.script h fs in
          let top = more world.script g (h ∷ fs) in
          let was : call_events world.script f.call ≡ 1 + 2 * callbacks_left world.script entry callbacks
          = ap (call_events world.script) under in
          let now : call_events world.script (one_callback f.call) ≡ 1 + 2 * callbacks_left world.script entry (suc callbacks)
          = ap (λ n. call_events world.script (one_callback n)) under in
          let left = left-of world.script entry callbacks c is in
          let fewer = left-of world.script entry (suc callbacks) c is in
          let within = slice_get_within c.enter callbacks b there in
          entered-events world.script most m (h ∷ fs) at (t ++ event.Entered b.function (map given b.values) ∷ []) g
          (inside w m (code_at world.notes P b.function) (function_params world.notes b.function) (map (written_number w world.notes P
          (made_objects world.notes world.script at.entries)) b.values))
          (inside-call (one_callback f.call) (f ∷ fs) i) (omega (arith, told, before, after, top, was, now, left, fewer, within))

reply-events : (w : ℕ) (world : World) (P : Placement) (most : ℕ) (m : Concrete) (f : SavedFrame) (fs : List SavedFrame)
    (at : ScriptPlace) (t : List Event) (made : List TypedObject) (entry callbacks : ℕ) (slots : List ℕ) (mapped : Bool) (c : ScriptCall)
    → f.call ≡ Accepted entry callbacks slots → AreInside (f ∷ fs) → AreFew world.script most (f ∷ fs) at t
    → HasEvents world.script most (performed w world P (running m (f ∷ fs) at t) (reply_plan world.notes made entry mapped c))
unfolding reply_plan performed
reply-events w world P most m f fs at t made entry callbacks slots mapped c under i few =
    by (reply_fits world.notes made c && mapped) where
      by : (x : Bool) → HasEvents world.script most (performed w world P (running m (f ∷ fs) at t)
          (if x then Replies (event.Replied entry c.result) (reply_stores world.notes made (signature_params world.notes c.signature) c)
          (signature_result world.notes c.signature) c.result else Ends [] (Mismatch (reason.Reply entry))))
      by false = ended world.script most _ (λ h. cc)
      by true =
          let told = one-more t (event.Replied entry c.result) in
          let before = more world.script f fs in
          let after = more world.script (record f { call = NoCall }) fs in
          let was : call_events world.script f.call ≡ 1 + 2 * callbacks_left world.script entry callbacks
          = ap (call_events world.script) under in
          goes world.script most _ (with_call NoCall (f ∷ fs)) at (t ++ event.Replied entry c.result ∷ []) (inside-call NoCall (f ∷ fs) i)
          (omega (arith, told, before, after, was))

next-events : (w : ℕ) (world : World) (P : Placement) (most : ℕ) (m : Concrete) (f : SavedFrame) (fs : List SavedFrame)
    (at : ScriptPlace) (t : List Event) (entry callbacks frames : ℕ) (slots : List ℕ) (mapped : Bool)
    → f.call ≡ Accepted entry callbacks slots → AreInside (f ∷ fs) → AreFew world.script most (f ∷ fs) at t
    → HasEvents world.script most (performed w world P (running m (f ∷ fs) at t) (host_plan world at (GoesOn entry callbacks frames
    mapped)))
unfolding host_plan performed
next-events w world P most m f fs at t entry callbacks frames slots mapped under i few =
    by (slice_get world.script.call entry) refl where
      at-callback : (c : ScriptCall) (o : Option Callback) → slice_get world.script.call entry ≡ Some c → slice_get c.enter callbacks ≡ o
          → HasEvents world.script most (performed w world P (running m (f ∷ fs) at t) (option_map_or (enter_plan world.notes (made_objects
          world.notes world.script at.entries) entry callbacks frames) o (reply_plan world.notes (made_objects world.notes world.script
          at.entries) entry mapped c)))
      at-callback c None is none =
          reply-events w world P most m f fs at t (made_objects world.notes world.script at.entries) entry callbacks slots mapped c under i
          few
      at-callback c (Some b) is there =
          callback-events w world P most m f fs at t (made_objects world.notes world.script at.entries) entry callbacks frames slots c b
          under is
          there i few

      by : (o : Option ScriptCall) → slice_get world.script.call entry ≡ o
          → HasEvents world.script most (performed w world P (running m (f ∷ fs) at t) (option_map_or (next_plan world.notes (made_objects
          world.notes world.script at.entries) entry callbacks frames mapped) o (Ends [] ScriptEnd)))
      by None none = ended world.script most _ (λ h. cc)
      by (Some c) is = at-callback c (slice_get c.enter callbacks) is refl

-- ---- notifications

notified-events : (w : ℕ) (world : World) (P : Placement) (most : ℕ) (m : Concrete) (hs : List SavedFrame) (at : ScriptPlace)
    (t : List Event) (made : List TypedObject) (frames : ℕ) (n : Notify) → slice_get world.script.notify at.notifications ≡ Some n
    → AreInside hs → AreFew world.script most hs at t
    → HasEvents world.script most (performed w world P (running m hs at t) (notify_plan world made at frames n))
unfolding notify_plan performed
notified-events w world P most m hs at t made frames n there i few =
    by (notification_fits world made at n) (nat_le frame_limit frames) where
      by : (x y : Bool) → HasEvents world.script most (performed w world P (running m hs at t)
          (if not x then Ends [] (Mismatch (reason.Notify at.notifications)) else if y then Ends [] (Mismatch reason.Depth)
          else Notifies (event.Notified n.function (map given n.args)) n.function n.args))
      by false y = ended world.script most _ (λ h. cc)
      by true true = ended world.script most _ (λ h. cc)
      by true false =
          let told = one-more t (event.Notified n.function (map given n.args)) in
          let g = frame_for true m n.function in
          let top = more world.script g hs in
          let within = slice_get_within world.script.notify at.notifications n there in
          entered-events world.script most m hs (one_notification at) (t ++ event.Notified n.function (map given n.args) ∷ []) g
          (inside w m (code_at world.notes P n.function) (function_params world.notes n.function) (map (written_number w world.notes P
          (made_objects world.notes world.script at.entries)) n.args)) i
          (omega (arith, told, top, within))

due-events : (w : ℕ) (world : World) (P : Placement) (most : ℕ) (m : Concrete) (hs : List SavedFrame) (at : ScriptPlace)
    (t : List Event) (frames : ℕ) → AreInside hs → AreFew world.script most hs at t
    → HasEvents world.script most (performed w world P (running m hs at t) (host_plan world at (IsDue frames)))
unfolding host_plan performed
due-events w world P most m hs at t frames i few = by (slice_get world.script.notify at.notifications) refl where
  by : (o : Option Notify) → slice_get world.script.notify at.notifications ≡ o
      → HasEvents world.script most (performed w world P (running m hs at t) (option_map_or (notify_plan world (made_objects world.notes
      world.script at.entries) at frames) o (Ends [] ScriptEnd)))
  by None none = ended world.script most _ (λ h. cc)
  by (Some n) is =
      notified-events w world P most m hs at t (made_objects world.notes world.script at.entries) frames n is i few

-- ---- a step

host-events : (w : ℕ) (world : World) (P : Placement) (most : ℕ) (m : Concrete) (hs : List SavedFrame) (at : ScriptPlace) (t : List Event)
    → AreInside hs → AreFew world.script most hs at t → HasEvents world.script most (host_step w world P (running m hs at t))
unfolding host_step host_view host_plan
host-events w world P most m [] at t i few = absurd i
host-events w world P most m (f ∷ fs) at t i few = by (nat_eq m.ip m.gate) where
  at-due : (b : Bool) → HasEvents world.script most (option_map_or (λ (v : View). performed w world P (running m (f ∷ fs) at t) (host_plan
      world at v)) (if b then Some (IsDue (length (f ∷ fs))) else None) (running m (f ∷ fs) at t))
  at-due true = due-events w world P most m (f ∷ fs) at t (length (f ∷ fs)) i few
  at-due false = goes world.script most m (f ∷ fs) at t i few

  at-call : (c : NativeCall ℕ) → f.call ≡ c → HasEvents world.script most (option_map_or (λ (v : View). performed w world P (running m (f ∷
      fs) at t) (host_plan world at v)) (call_seen w world P (running m (f ∷ fs) at t) c) (running m (f ∷ fs) at t))
  at-call NoCall is = at-due (is_due world.script at)
  at-call (Asked place target) is = called-events w world P most m f fs at t place _ i few
  at-call (Accepted entry callbacks slots) is = next-events w world P most m f fs at t entry callbacks _ slots _ is i few

  by : (b : Bool) → HasEvents world.script most (option_map_or (λ (v : View). performed w world P (running m (f ∷ fs) at t) (host_plan world
      at v)) (if b then return_seen w world P (running m (f ∷ fs) at t) (f ∷ fs) else call_seen w world P (running m (f ∷ fs) at t) f.call)
      (running m (f ∷ fs) at t))
  by true = returned-events w world P most m f fs at t _ f.notified refl i few
  by false = at-call f.call refl

-- a step of a run that goes on
pub step_events : (w : ℕ) (world : World) (P : Placement) (most : ℕ) (r : RunState) → r.ending ≡ Running
    → HasEvents world.script most r → HasEvents world.script most (running_step w world P r)
unfolding running_step events_left
step_events w world P most r on has =
    let same : running r.machine r.hosts r.script r.trace ≡ r = λ i. record r { ending = sym on i } in
    subst (λ s. HasEvents world.script most (running_step w world P s)) same
    (by (host_turn (nat_eq r.machine.ip r.machine.gate) (call_under_way r.hosts) (is_due world.script r.script))) where
      by : (b : Bool) → HasEvents world.script most (if b then host_step w world P (running r.machine r.hosts r.script r.trace)
          else instruction_step w world P (running r.machine r.hosts r.script r.trace))
      by true = host-events w world P most r.machine r.hosts r.script r.trace (has.inside on) (has.room on)
      by false = instruction-events w world P most r.machine r.hosts r.script r.trace (has.inside on) (has.room on)

-- ---- room

frames-some : (script : Script) (hs : List SavedFrame) → AreInside hs → 1 ≤ frames_events script hs
frames-some script [] i = absurd i
frames-some script (f ∷ fs) i = let frames = more script f fs in omega (arith, frames)

pub inside_some : (hs : List SavedFrame) → AreInside hs → 0 < length hs
inside_some [] i = absurd i
inside_some (f ∷ fs) i = omega arith

-- there is room for an event more
pub has_room : (script : Script) (most : ℕ) (r : RunState) → HasEvents script most r → r.ending ≡ Running → length r.trace + 1 ≤ most
unfolding events_left
has_room script most r has on =
    let room = has.room on in
    let some = frames-some script r.hosts (has.inside on) in
    omega (arith, room, some)

-- the first function is entered, or the run ended
pub first_events : (script : Script) (most : ℕ) (m : Concrete) (g : SavedFrame) (o : Option Concrete) → g.notified ≡ false
    → call_events script g.call ≡ 0 → 1 + (rest_events script.call + 2 * length script.notify) ≤ most
    → HasEvents script most (option_map_or (λ (s : Concrete). running s (g ∷ []) script_start []) o
    (record { machine = m; hosts = []; script = script_start; trace = []; ending = Raised raises.StackFault }))
first_events script most m g None first none few = ended script most _ (λ h. cc)
first_events script most m g (Some s) first none few =
    let frames = more script g [] in
    goes script most s (g ∷ []) script_start [] first (omega (arith, frames, none, few))
