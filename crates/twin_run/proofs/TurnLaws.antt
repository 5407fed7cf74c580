-- Laws of a step of a run: whose it is, and what the runner needs for it and is at after it.
use Rattle.twin_run.proofs.Common.{◌≡◌, ℕ, ◌-◌, ◌^◌, ◌<◌, ◌≤◌, Bool, true, false, List, [], ◌∷◌, length, map, min, Option, Some, None, refl}
use Rattle.twin_run.proofs.Common.{sym, ap, ◌∙◌, subst, arith, nat_eq, nat_le, slice_get, if◌then◌else◌, vec_capacity, option_map_or}
use Rattle.twin_run.proofs.Common.{leb-true, Ending, Running, Finished, Raised, Mismatch, ScriptEnd, Notes, Notify, Script, Frame, saved_of}
use Rattle.twin_run.proofs.Common.{host_turn, is_due, call_under_way, host_step, Placement, own_placement, NativeCall, NoCall, Asked}
use Rattle.twin_run.proofs.Common.{ScriptPlace, RunState, SavedFrame, instruction_step, run_step, running_step, step_if, IsScript, World}
use Rattle.twin_run.proofs.Common.{IsMemoryOf, IsServing, host_world, placement_of, Host, HasEvents, IsAt, IsQuiet, IsRunner, Runs}
use Rattle.twin_run.proofs.Common.{hosts_of, AskedCall, Runner}
use Rattle.std.proofs.lemmas.Bool.Decides.{nat_tests}
use Rattle.twin_run.specs.Runner.{IsReady}
use Rattle.twin_run.proofs.{RoomLaws.has_room, RoomLaws.inside_some, RunnerLaws.is_placed, RunnerLaws.is_world}

-- ---- whose step it is

abbrev pub turned : ℕ → World → Placement → RunState → Bool → RunState
turned w world P r b = if b then host_step w world P r else instruction_step w world P r

-- a step of the host or of the machine is the run's
pub turn_is : (w : ℕ) (world : World) (P : Placement) (r : RunState) (b : Bool) (c : NativeCall ℕ) (d : Bool)
    → nat_eq r.machine.ip r.machine.gate ≡ b → call_under_way r.hosts ≡ c → is_due world.script r.script ≡ d
    → turned w world P r (host_turn b c d) ≡ running_step w world P r
unfolding running_step
turn_is w world P r b c d gate call due = sym (λ i. turned w world P r (host_turn (gate i) (call i) (due i)))

pub asked_under_way : (a : AskedCall) (fs : List Frame) → 0 < length fs → call_under_way (hosts_of (Some a) fs) ≡ Asked a.place a.target
asked_under_way a [] some = absurd (omega arith)
asked_under_way a (f ∷ fs) some = refl

-- a native call is asked for
pub asked_call : (w : ℕ) (world : World) (x : Runner w) (r : RunState) (a : AskedCall) → IsAt w world x r → x.asked ≡ Some a
    → 0 < length x.frames → call_under_way r.hosts ≡ Asked a.place a.target
asked_call w world x r a at is some =
    ap call_under_way (sym at.hosts ∙ ap (λ o. hosts_of o x.frames) is) ∙ asked_under_way a x.frames some

pub none_when : {A : Type 0} (o : Option A) → ((x : A) → o ≡ Some x → ⊥) → o ≡ None
none_when None over = refl
none_when (Some x) over = absurd (over x refl)

-- none is
pub other_call : (w : ℕ) (world : World) (x : Runner w) (r : RunState) (c : NativeCall ℕ) → IsAt w world x r → x.asked ≡ None
    → call_under_way (map saved_of x.frames) ≡ c → call_under_way r.hosts ≡ c
other_call w world x r c at is call = ap call_under_way (sym at.hosts ∙ ap (λ o. hosts_of o x.frames) is) ∙ call

-- ---- notifications that are due

within_min : (a i m : ℕ) → a ≤ m → nat_le a (min i m) ≡ nat_le a i
within_min a i m few = by (nat_le i m) refl where
  by : (b : Bool) → nat_le i m ≡ b → nat_le a (min i m) ≡ nat_le a i
  by true is = let less = leb-true i m is in let same : min i m ≡ i = omega (arith, less) in ap (nat_le a) same
  by false is = let more : m < i = grind (arith, nat_tests) in let same : min i m ≡ m = omega (arith, more) in
      let here : nat_le a m ≡ true = grind (arith, nat_tests) in
      let there : nat_le a i ≡ true = grind (arith, nat_tests) in
      ap (nat_le a) same ∙ (here ∙ sym there)

-- where none is due at a count of instructions none is before it
pub not_due_before : (script : Script) (k n : ℕ)
    → ((at : ScriptPlace) → at.notifications ≡ k → at.instructions ≡ n → false ≡ is_due script at)
    → (at : ScriptPlace) → at.notifications ≡ k → at.instructions < n → is_due script at ≡ false
unfolding is_due
not_due_before script k n none at same few =
    let later : ScriptPlace = record at { instructions = n } in
    by (slice_get script.notify at.notifications) (none later same refl) where
      by : (o : Option Notify) → false ≡ option_map_or (λ (m : Notify). nat_le m.at n) o false
          → option_map_or (λ (m : Notify). nat_le m.at at.instructions) o false ≡ false
      by None is = refl
      by (Some m) is = grind (arith, nat_tests)

-- an instruction count that stops at its most tells the same
pub due_same : (notes : Notes) (script : Script) (at to : ScriptPlace) → IsScript notes script → to.notifications ≡ at.notifications
    → to.instructions ≡ min at.instructions (2 ^ 64 - 1) → is_due script to ≡ is_due script at
unfolding is_due
due_same notes script at to is same count =
    (λ i. option_map_or (λ (n : Notify). nat_le n.at (count i)) (slice_get script.notify (same i)) false)
    ∙ by (slice_get script.notify at.notifications) refl where
      by : (o : Option Notify) → slice_get script.notify at.notifications ≡ o
          → option_map_or (λ (n : Notify). nat_le n.at (min at.instructions (2 ^ 64 - 1))) (slice_get script.notify at.notifications) false
          ≡ option_map_or (λ (n : Notify). nat_le n.at at.instructions) (slice_get script.notify at.notifications) false
      by None none = ap (λ o. option_map_or (λ (n : Notify). nat_le n.at (min at.instructions (2 ^ 64 - 1))) o false) none
          ∙ sym (ap (λ o. option_map_or (λ (n : Notify). nat_le n.at at.instructions) o false) none)
      by (Some n) there =
          let early = (is.notify.each at.notifications n there).at in
          let same : nat_le n.at (min at.instructions (2 ^ 64 - 1)) ≡ nat_le n.at at.instructions
          = within_min n.at at.instructions (2 ^ 64 - 1) (omega (arith, early)) in
          ap (λ o. option_map_or (λ (n : Notify). nat_le n.at (min at.instructions (2 ^ 64 - 1))) o false) there
          ∙ (same ∙ sym (ap (λ o. option_map_or (λ (n : Notify). nat_le n.at at.instructions) o false) there))

-- whether one is due, in the words of the code
pub due_there : (w : ℕ) (world : World) (x : Runner w) (r : RunState) (script : Script) (b : Bool) → IsAt w world x r
    → world.script ≡ script
    → ((at : ScriptPlace) → at.notifications ≡ x.host.notifications → at.instructions ≡ x.done → b ≡ is_due script at)
    → is_due world.script r.script ≡ b
due_there w world x r script b at same is =
    let to : ScriptPlace = record r.script { notifications = x.host.notifications; instructions = x.done } in
    sym (is to refl refl
    ∙ (ap (λ s. is_due s to) (sym same)
    ∙ due_same world.notes world.script r.script to at.serving.scripted (sym at.tells.notifications) at.done))

-- ---- what is quiet

-- where nothing is held as quiet
pub quiet_none : {w : ℕ} (script : Script) (x : Runner w) → x.quiet ≡ 0 → IsQuiet script x
quiet_none script x none = (λ some. absurd (omega (arith, none, some)), λ at same few. absurd (omega (arith, none, few)))

-- a host that has entered as many notifications leaves it so
pub quiet_host : (w : ℕ) (script : Script) (x : Runner w) (h : Host w) → h ≡ record x.host { thunks = h.thunks } → IsQuiet script x
    → IsQuiet script (record x { host = h })
quiet_host w script x h same quiet = (quiet.0, λ at n few. quiet.1 at (n ∙ ap (λ (g : Host w). g.notifications) same) few)

-- where no native call is asked for or under way it is so until the next notification
pub quiet_next : {w : ℕ} (script : Script) (x : Runner w) (n : ℕ) → x.asked ≡ None → call_under_way (map saved_of x.frames) ≡ NoCall
    → ((at : ScriptPlace) → at.notifications ≡ x.host.notifications → at.instructions < n → is_due script at ≡ false)
    → IsQuiet script (record x { quiet = n })
quiet_next script x n unasked none due = (λ some. ap (λ o. call_under_way (hosts_of o x.frames)) unasked ∙ none, due)

-- it is no part of the state
pub quiet_at : (w : ℕ) (world : World) (x : Runner w) (r : RunState) (n : ℕ) → IsAt w world x r → IsAt w world (record x { quiet = n }) r
quiet_at w world x r n at = record {
  serving = at.serving;
  size = at.size;
  image_size = at.image_size;
  memory = at.memory;
  machine = at.machine;
  hosts = at.hosts;
  tells = record { entries = at.tells.entries; notifications = at.tells.notifications; thunks = at.tells.thunks; trace = at.tells.trace };
  done = at.done;
  ending = at.ending;
}

-- ---- what a step needs

pub hosts_length : (o : Option AskedCall) (fs : List Frame) → 0 < length (hosts_of o fs) → 0 < length fs
hosts_length None [] some = some
hosts_length None (f ∷ fs) some = omega arith
hosts_length (Some a) [] some = some
hosts_length (Some a) (f ∷ fs) some = omega arith

pub is_ready : (w : ℕ) (notes : Notes) (script : Script) (x : Runner w) → Runs w notes script x → x.ending ≡ Running
    → IsReady w notes script x
is_ready w notes script x runs on =
    let world = runs.world in
    let r = runs.state in
    let at = runs.is.at in
    let go = sym at.ending ∙ on in
    let worlds : world ≡ host_world notes script x.host = sym (is_world w world x.host at.size)
    ∙ (λ i. record { notes = runs.its_notes i; script = runs.its_script i; image_size = x.host.places.image_size }) in
    let placed = sym (is_placed w world x.host at.serving at.size) in
    let told = has_room world.script (vec_capacity x.host.trace) r runs.is.events go in
    let trace = ap (λ t. length t) at.tells.trace in
    record {
      serving = subst (λ (V : World). IsServing w V.notes V.script x.host) worlds at.serving;
      memory = subst (λ (V : World). IsMemoryOf w V (placement_of x.host.places) x.host.entries x.mem) worlds
          (subst (λ (Q : Placement). IsMemoryOf w world Q x.host.entries x.mem) placed at.memory);
      room = omega (arith, told, trace);
      inside = hosts_length x.asked x.frames (subst (λ (hs : List SavedFrame). 0 < length hs) (sym at.hosts) (inside_some r.hosts
          (runs.is.events.inside go)));
    }

-- ---- what a step leaves

pub more_events : (script : Script) (most least : ℕ) (r : RunState) → HasEvents script least r → least ≤ most → HasEvents script most r
more_events script most least r has less = record {
  inside = has.inside;
  room = λ on. let room = has.room on in omega (arith, room, less);
}

stays_ended : (w : ℕ) (world : World) (P : Placement) (r : RunState) (e : Ending) → (e ≡ Running → ⊥) → r ≡ step_if w world P r e
stays_ended w world P r Running over = absurd (over refl)
stays_ended w world P r (Finished v) over = refl
stays_ended w world P r (Raised x) over = refl
stays_ended w world P r (Mismatch x) over = refl
stays_ended w world P r ScriptEnd over = refl

pub stayed : (w : ℕ) (world : World) (x : Runner w) (r : RunState) → IsRunner w world x r → (x.ending ≡ Running → ⊥)
    → IsRunner w world x (run_step w world (own_placement w world) r)
unfolding run_step
stayed w world x r is over =
    subst (IsRunner w world x) (stays_ended w world (own_placement w world) r r.ending (λ e. over (is.at.ending ∙ e))) is
