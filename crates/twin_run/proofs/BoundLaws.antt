-- Laws of what a run is asked beside its steps where its image is one of two on one host.
use Rattle.twin_run.proofs.Common.{◌≡◌, ℕ, ◌+◌, ◌<◌, ◌≤◌, Bool, true, false, List, [], ◌∷◌, length, map, Option, Some, None, refl, sym, ap}
use Rattle.twin_run.proofs.Common.{◌∙◌, subst, arith, nat_eq, drop, take, if◌then◌else◌, IfNone, IfSome, Ok, Err, slice_index, slice_set}
use Rattle.twin_run.proofs.Common.{vec_capacity, option_map_or, length-map, Concrete, register, with_register, Ending, Running, Raised}
use Rattle.twin_run.proofs.Common.{Script, Ty, Value, Frame, Machine, call_of, saved_of, NO_ENTRY, Calls, is_due, return_view, IsDue}
use Rattle.twin_run.proofs.Common.{asking_at, call_seen, call_under_way, entered, frame_for, host_view, inside, left, outside, result_of}
use Rattle.twin_run.proofs.Common.{return_seen, with_call, function_params, made_objects, Placement, code_at, own_placement, NativeCall}
use Rattle.twin_run.proofs.Common.{NoCall, Asked, Accepted, ScriptPlace, is_empty, RunState, SavedFrame, World, placement_of, Host}
use Rattle.twin_run.proofs.Common.{AreInside, HasEvents, call_events, events_left, IsAt, IsQuiet, IsRunner, hosts_of, AskedCall, Runner}
use Rattle.object_memory.specs.Memory.{byte_at, ranges}
use Rattle.host_model.specs.HostPlans.{Returns, due_view}
use Rattle.pair_model.specs.PairRuns.{bound_number, bound_reply}
use Rattle.twin_run.specs.Bound.{IsNoFirstReturn, Rests, place_called}
use Rattle.twin_run.proofs.HostingLaws.{IsLeft, Reads, left_at, left_hosts, left_outside}
use Rattle.twin_run.proofs.{HostingLaws.result_there, HostingLaws.top_of, RoomLaws.inside-call, RoomLaws.inside_some, RoomLaws.more}
use Rattle.twin_run.proofs.{RoomLaws.quiet, RunnerLaws.away_there, RunnerLaws.gate_there, RunnerLaws.is_placed, RunnerLaws.replied_at}
use Rattle.twin_run.proofs.TurnLaws.{asked_call, asked_under_way, hosts_length, other_call, quiet_none}
use Rattle.note_types.specs.declared.exception.Exception.TheVariants as raises

-- ---- answers that may be none

pub if_some : {A : Type 0} (o : Option A) (P : A → Type 0) → ((a : A) → o ≡ Some a → P a) → IfSome o P
if_some None P h = tt
if_some (Some a) P h = h a refl

pub if_none : {A : Type 0} (o : Option A) (P : Type 0) → (o ≡ None → P) → IfNone o P
if_none None P h = h refl
if_none (Some a) P h = tt

-- ---- what the host sees

seen-at : (w : ℕ) (world : World) (P : Placement) (r : RunState) (b : Bool) (c : NativeCall ℕ) → nat_eq r.machine.ip r.machine.gate ≡ b
    → call_under_way r.hosts ≡ c
    → host_view w world P r ≡ (if b then return_seen w world P r r.hosts else call_seen w world P r c)
unfolding host_view
seen-at w world P r b c gate call = λ i. if gate i then return_seen w world P r r.hosts else call_seen w world P r (call i)

-- a run that goes on is inside a function
pub frames_some : (w : ℕ) (world : World) (x : Runner w) (r : RunState) → IsRunner w world x r → r.ending ≡ Running → 0 < length x.frames
frames_some w world x r is on =
    hosts_length x.asked x.frames (subst (λ (hs : List SavedFrame). 0 < length hs) (sym is.at.hosts) (inside_some r.hosts (is.events.inside
    on)))

-- a call that is asked for
pub asked_there : (w : ℕ) (world : World) (x : Runner w) (r : RunState) (a : AskedCall) → x.asked ≡ Some a
    → (x.machine.ip ≡ x.machine.gate → ⊥) → IsRunner w world x r → r.ending ≡ Running
    → host_view w world (own_placement w world) r
    ≡ Some (Calls a.place (asking_at w world (own_placement w world) r a.place a.target))
asked_there w world x r a is apart run on =
    seen-at w world (own_placement w world) r false (Asked a.place a.target) (away_there w world x r run.at apart)
    (asked_call w world x r a run.at is (frames_some w world x r run on))

-- none is, where a function has returned, and where no call is asked for
none_returned : (w : ℕ) (world : World) (P : Placement) (r : RunState) (hs : List SavedFrame)
    → place_called (return_seen w world P r hs) ≡ None
none_returned w world P r [] = refl
none_returned w world P r (f ∷ fs) = by f.notified where
  by : (n : Bool) → place_called (Some (return_view n (is_empty fs) f.func (result_of w world P r f.func))) ≡ None
  by true = refl
  by false = refl

none_due : (world : World) (at : ScriptPlace) (n : ℕ) → place_called (due_view world at n) ≡ None
none_due world at n = by (is_due world.script at) where
  by : (b : Bool) → place_called (if b then Some (IsDue n) else None) ≡ None
  by true = refl
  by false = refl

none_above : (w : ℕ) (world : World) (P : Placement) (r : RunState) (fs : List Frame)
    → place_called (call_seen w world P r (call_under_way (map saved_of fs))) ≡ None
unfolding saved_of call_of
none_above w world P r [] = none_due world r.script (length r.hosts)
none_above w world P r (f ∷ fs) = by (nat_eq f.entry NO_ENTRY) where
  by : (b : Bool)
      → place_called (call_seen w world P r (if b then NoCall else Accepted f.entry f.callback (take f.count f.slots))) ≡ None
  by true = none_due world r.script (length r.hosts)
  by false = refl

pub none_at_gate : (w : ℕ) (world : World) (x : Runner w) (r : RunState) → x.machine.ip ≡ x.machine.gate → IsAt w world x r
    → place_called (host_view w world (own_placement w world) r) ≡ None
none_at_gate w world x r is at =
    let P = own_placement w world in
    ap place_called (seen-at w world P r true (call_under_way r.hosts) (gate_there w world x r at is) refl)
    ∙ none_returned w world P r r.hosts

pub none_asked : (w : ℕ) (world : World) (x : Runner w) (r : RunState) → x.asked ≡ None → (x.machine.ip ≡ x.machine.gate → ⊥)
    → IsAt w world x r → place_called (host_view w world (own_placement w world) r) ≡ None
none_asked w world x r is apart at =
    let P = own_placement w world in
    let c = call_under_way (map saved_of x.frames) in
    ap place_called (seen-at w world P r false c (away_there w world x r at apart) (other_call w world x r c at is refl))
    ∙ none_above w world P r x.frames

-- ---- the first function

pub drop_one : {A : Type 0} (xs : List A) → length xs ≡ 1 → drop 1 xs ≡ []
drop_one [] is = refl
drop_one (x ∷ []) is = refl
drop_one (x ∷ (y ∷ ys)) is = absurd (omega (arith, is))

module _ (w : ℕ) (world : World) (x : Runner w) (r : RunState) (f : Frame) (c : Machine w) (fs : List Frame) (func r7 : ℕ) (n : Bool) where
  -- the only frame isn't one of a notification
  first_hosts : IsRunner w world x r → r.ending ≡ Running → IsLeft x f c fs func r7 n → fs ≡ []
      → (r.hosts ≡ top_of x.asked f ∷ map saved_of fs) × ((saved_of f).notified ≡ false)
  first_hosts run on left none =
      let hosts = left_hosts w world x r f c fs func r7 n run.at left in
      let only : r.hosts ≡ top_of x.asked f ∷ [] = hosts ∙ ap (λ gs. top_of x.asked f ∷ map saved_of gs) none in
      (hosts, subst AreInside only (run.events.inside on))

  pub first_view : (v : Value) → IsRunner w world x r → r.ending ≡ Running → IsLeft x f c fs func r7 n → fs ≡ []
      → x.machine.ip ≡ x.machine.gate → Reads w world x func r7 v
      → host_view w world (own_placement w world) r ≡ Some (Returns true func v)
  first_view v run on left none gate reads =
      let P = own_placement w world in
      let there = first_hosts run on left none in
      let result = result_there w world x r f c fs func r7 n v run.at left reads in
      seen-at w world P r true (call_under_way r.hosts) (gate_there w world x r run.at gate) refl
      ∙ (ap (return_seen w world P r) there.0
      ∙ (λ i. Some (return_view (there.1 i) (is_empty (map saved_of (none i))) (sym left.func_is i) (result i))))

  pub first_rests : IsRunner w world x r → r.ending ≡ Running → IsLeft x f c fs func r7 n → fs ≡ []
      → Rests w world (record x { machine = c; frames = fs; asked = None }) (left r r.hosts)
  unfolding events_left
  first_rests run on left_is none =
      let there = first_hosts run on left_is none in
      let plain : n ≡ false = left_is.notified_is ∙ there.1 in
      let machine = left_outside w world x r f c fs func r7 n run.at left_is plain in
      let top = top_of x.asked f in
      let room = subst (λ (hs : List SavedFrame). length r.trace + events_left world.script (record r { hosts = hs }) ≤ vec_capacity
      x.host.trace) there.0 (run.events.room on) in
      let frames = more world.script top (map saved_of fs) in
      subst (λ (hs : List SavedFrame). Rests w world (record x { machine = c; frames = fs; asked = None }) (left r hs)) (sym there.0)
      (record {
        at = left_at w world x r c fs x.host (outside r.machine top) r.trace x.ending r.ending run.at machine run.at.serving refl (sym
            run.at.tells.trace) run.at.ending;
        outside = none;
        settled = refl;
        room = omega (arith, room, frames);
      })

-- the first function hasn't returned where the machine isn't at the gate, and where there are other frames than one
no_return : (w : ℕ) (world : World) (P : Placement) (r : RunState) (c : NativeCall ℕ) → IsNoFirstReturn (call_seen w world P r c)
no_return w world P r NoCall = by (is_due world.script r.script) where
  by : (b : Bool) → IsNoFirstReturn (if b then Some (IsDue (length r.hosts)) else None)
  by true = tt
  by false = tt
no_return w world P r (Asked place target) = tt
no_return w world P r (Accepted entry callbacks slots) = tt

pub no_return_away : (w : ℕ) (world : World) (x : Runner w) (r : RunState) → (x.machine.ip ≡ x.machine.gate → ⊥) → IsAt w world x r
    → IsNoFirstReturn (host_view w world (own_placement w world) r)
no_return_away w world x r apart at =
    let P = own_placement w world in
    subst IsNoFirstReturn (sym (seen-at w world P r false (call_under_way r.hosts) (away_there w world x r at apart) refl))
    (no_return w world P r (call_under_way r.hosts))

no_first : (w : ℕ) (world : World) (P : Placement) (r : RunState) (hs : List SavedFrame) → (length hs ≡ 1 → ⊥)
    → IsNoFirstReturn (return_seen w world P r hs)
no_first w world P r [] other = tt
no_first w world P r (f ∷ []) other = absurd (other refl)
no_first w world P r (f ∷ (g ∷ gs)) other = by f.notified where
  by : (n : Bool) → IsNoFirstReturn (Some (return_view n false f.func (result_of w world P r f.func)))
  by true = tt
  by false = tt

pub hosts_count : (o : Option AskedCall) (fs : List Frame) → length (hosts_of o fs) ≡ length fs
hosts_count None fs = length-map saved_of fs
hosts_count (Some a) [] = refl
hosts_count (Some a) (f ∷ fs) = length-map saved_of (f ∷ fs)

pub no_return_deep : (w : ℕ) (world : World) (x : Runner w) (r : RunState) → x.machine.ip ≡ x.machine.gate → (length x.frames ≡ 1 → ⊥)
    → IsAt w world x r → IsNoFirstReturn (host_view w world (own_placement w world) r)
no_return_deep w world x r gate other at =
    let P = own_placement w world in
    let count : length r.hosts ≡ length x.frames = sym (ap (λ (hs : List SavedFrame). length hs) at.hosts) ∙ hosts_count x.asked x.frames in
    subst IsNoFirstReturn (sym (seen-at w world P r true (call_under_way r.hosts) (gate_there w world x r at gate) refl))
    (no_first w world P r r.hosts (λ e. other (sym count ∙ e)))

-- ---- entering the first function

entered-first : (script : Script) (most : ℕ) (r : RunState) (g : SavedFrame) (o : Option Concrete) → r.hosts ≡ [] → g.notified ≡ false
    → g.call ≡ NoCall → 1 + (length r.trace + events_left script r) ≤ most
    → HasEvents script most (option_map_or (λ (s : Concrete). record r { machine = s; hosts = g ∷ r.hosts }) o
    (record r { ending = Raised raises.StackFault }))
unfolding events_left
entered-first script most r g None none first call few =
    record { inside = λ h. absurd (cc); room = λ h. absurd (cc) }
entered-first script most r g (Some s) none first call few =
    let frames = more script g r.hosts in
    let quiet_call : call_events script g.call ≡ 0 = ap (call_events script) call in
    record {
      inside = λ h. subst (λ (hs : List SavedFrame). AreInside (g ∷ hs)) (sym none) first;
      room = λ h. omega (arith, few, frames, quiet_call);
    }

pub enters_first : (w : ℕ) (world : World) (x y : Runner w) (r : RunState) (f : ℕ) (numbers : List ℕ) → Rests w world x r
    → y.host ≡ x.host → y.quiet ≡ 0 → IsAt w world y (entered false w world (own_placement w world) r f numbers)
    → IsRunner w world y (entered false w world (own_placement w world) r f numbers)
enters_first w world x y r f numbers rests same loud at =
    let P = own_placement w world in
    let none : r.hosts ≡ [] = sym rests.at.hosts ∙ (λ i. hosts_of (rests.settled i) (rests.outside i)) in
    let capacity = ap (λ h. vec_capacity h.trace) same in
    record {
      at = at;
      quiet = quiet_none world.script y loud;
      events = subst (λ n. HasEvents world.script n (entered false w world P r f numbers)) (sym capacity)
          (entered-first world.script (vec_capacity x.host.trace) r (frame_for false r.machine f)
          (inside w r.machine (code_at world.notes P f) (function_params world.notes f) numbers) none refl refl rests.room);
    }

-- ---- frames of the host alone

pub framed_at : (w : ℕ) (world : World) (x : Runner w) (r : RunState) (o : Option AskedCall) (fs : List Frame) (hs : List SavedFrame)
    → IsAt w world x r → hosts_of o fs ≡ hs → IsAt w world (record x { frames = fs; asked = o }) (record r { hosts = hs })
framed_at w world x r o fs hs at hosts = record {
  serving = at.serving;
  size = at.size;
  image_size = at.image_size;
  memory = at.memory;
  machine = at.machine;
  hosts = hosts;
  tells = record { entries = at.tells.entries; notifications = at.tells.notifications; thunks = at.tells.thunks; trace = at.tells.trace };
  done = at.done;
  ending = at.ending;
}

-- the slots of the top frame change alone, while a call is asked for
pub slots_at : (w : ℕ) (world : World) (x : Runner w) (r : RunState) (a : AskedCall) (fs : List Frame) → x.asked ≡ Some a
    → ((call : NativeCall ℕ) → with_call call (map saved_of fs) ≡ with_call call (map saved_of x.frames)) → IsAt w world x r
    → IsAt w world (record x { frames = fs }) r
slots_at w world x r a fs is same at =
    framed_at w world x r x.asked fs r.hosts at
    (ap (λ o. hosts_of o fs) is ∙ (same (Asked a.place a.target) ∙ (sym (ap (λ o. hosts_of o x.frames) is) ∙ at.hosts)))

-- what is quiet stays so then
pub slots_quiet : (w : ℕ) (script : Script) (x : Runner w) (a : AskedCall) (fs : List Frame) → x.asked ≡ Some a → 0 < length x.frames
    → IsQuiet script x → IsQuiet script (record x { frames = fs })
slots_quiet w script x a fs is some quiet =
    let asked : call_under_way (hosts_of x.asked x.frames) ≡ Asked a.place a.target
    = ap (λ o. call_under_way (hosts_of o x.frames)) is ∙ asked_under_way a x.frames some in
    (λ more. absurd (asked_not_none a.place a.target (sym asked ∙ quiet.0 more)), quiet.1) where
      asked_not_none : (place target : ℕ) → Asked place target ≡ NoCall → ⊥
      asked_not_none place target same = cc

-- and where no function is entered any more
pub rests_quiet : (w : ℕ) (script : Script) (x z : Runner w) → z.frames ≡ [] → z.asked ≡ None → z.host ≡ x.host → z.quiet ≡ x.quiet
    → IsQuiet script x → IsQuiet script z
rests_quiet w script x z empty settled host same was = (
  λ more. (λ i. call_under_way (hosts_of (settled i) (empty i))),
  λ at told few.
      was.1 at (told ∙ ap (λ (h : Host w). h.notifications) host) (subst (λ (n : ℕ). at.instructions < n) same few),
)

-- ---- what the host reads

pub made_there : (w : ℕ) (world : World) (x : Runner w) (r : RunState) → IsAt w world x r
    → made_objects world.notes world.script r.script.entries ≡ x.host.made.items
made_there w world x r at =
    ap (made_objects world.notes world.script) at.tells.entries ∙ sym at.serving.host.made

pub slots_there : (w : ℕ) (world : World) (x : Runner w) (r : RunState) (n : ℕ) → IsAt w world x r → n ≡ slice_index x.machine.regs 0
    → register r.machine 0 ≡ n
slots_there w world x r n at is = ap (λ (s : Concrete). register s 0) (sym at.machine) ∙ sym is

pub ranges_there : (w : ℕ) (world : World) (x : Runner w) (r : RunState) → IsAt w world x r → r.machine.objects ≡ ranges x.mem
ranges_there w world x r at = ap (λ (s : Concrete). s.objects) (sym at.machine)

pub bytes_there : (w : ℕ) (world : World) (x : Runner w) (r : RunState) → IsAt w world x r → r.machine.byte ≡ byte_at x.mem
bytes_there w world x r at = ap (λ (s : Concrete). s.byte) (sym at.machine)

-- ---- the reply

pub answer_ok : (o : Option Ending) (m n : ℕ) → Ok n ≡ option_map_or Err o (Ok m) → (o ≡ None) × (n ≡ m)
answer_ok None m n is = (refl, cc)
answer_ok (Some e) m n is = absurd (cc)

over : (call : NativeCall ℕ) (hs : List SavedFrame) → with_call NoCall (with_call call hs) ≡ with_call NoCall hs
over call [] = refl
over call (f ∷ fs) = refl

settled_hosts : (o : Option AskedCall) (fs gs : List Frame)
    → ((call : NativeCall ℕ) → map saved_of gs ≡ with_call NoCall (with_call call (map saved_of fs)))
    → map saved_of gs ≡ with_call NoCall (hosts_of o fs)
settled_hosts None fs gs same = same NoCall ∙ over NoCall (map saved_of fs)
settled_hosts (Some a) fs gs same = same (Asked a.place a.target)

none_under_way : (hs : List SavedFrame) → call_under_way (with_call NoCall hs) ≡ NoCall
none_under_way [] = refl
none_under_way (f ∷ fs) = refl

replied-events : (script : Script) (most : ℕ) (r : RunState) (m : Concrete) → HasEvents script most r
    → HasEvents script most (record r { machine = m; hosts = with_call NoCall r.hosts })
unfolding events_left
replied-events script most r m has =
    let less = quiet script NoCall r.hosts refl in
    record {
      inside = λ h. inside-call NoCall r.hosts (has.inside h);
      room = λ h. let room = has.room h in omega (arith, room, less);
    }

pub answered_at : (w : ℕ) (world : World) (x : Runner w) (r : RunState) (fs : List Frame) (n : ℕ) (kind : Option Ty) (v : Value)
    → IsRunner w world x r → n ≡ bound_number w world (placement_of x.host.places) r kind v
    → ((call : NativeCall ℕ) → map saved_of fs ≡ with_call NoCall (with_call call (map saved_of x.frames)))
    → IsRunner w world (record x { frames = fs; machine = record x.machine { regs = slice_set x.machine.regs 7 n }; asked = None })
    (bound_reply w world (own_placement w world) r kind v)
unfolding bound_reply
answered_at w world x r fs n kind v run is same =
    let number : n ≡ bound_number w world (own_placement w world) r kind v = is
    ∙ ap (λ P. bound_number w world P r kind v) (is_placed w world x.host run.at.serving run.at.size) in
    let hosts = settled_hosts x.asked x.frames fs same ∙ ap (with_call NoCall) run.at.hosts in
    let y = record x { frames = fs; machine = record x.machine { regs = slice_set x.machine.regs 7 n }; asked = None } in
    let none : call_under_way (map saved_of fs) ≡ NoCall
    = ap call_under_way (settled_hosts x.asked x.frames fs same) ∙ none_under_way (hosts_of x.asked x.frames) in
    subst (λ m. IsRunner w world y (record r { machine = with_register r.machine 7 m; hosts = with_call NoCall r.hosts })) number
    (record {
      at = framed_at w world (record x { machine = record x.machine { regs = slice_set x.machine.regs 7 n } }) (record r {
        machine = with_register r.machine 7 n;
      }) None fs (with_call NoCall r.hosts) (replied_at w world x r n run.at) hosts;
      quiet = (λ some. none, run.quiet.1);
      events = replied-events world.script (vec_capacity x.host.trace) r (with_register r.machine 7 n) run.events;
    })

-- a runner's run ends so
pub ends_at : (w : ℕ) (world : World) (x : Runner w) (r : RunState) (e : Ending) → (e ≡ Running → ⊥) → IsQuiet world.script x
    → IsAt w world (record x { ending = e }) (record r { ending = e })
    → IsRunner w world (record x { ending = e }) (record r { ending = e })
ends_at w world x r e over quiet at = record {
  at = at;
  quiet = quiet;
  events = record { inside = λ h. absurd (over h); room = λ h. absurd (over h) };
}
