-- Runs so many steps on: what a runner is at after several instructions, and after several steps.
use Rattle.twin_run.proofs.Common.{◌≢◌, vec_capacity, ◌≡◌, ℕ, zero, suc, ◌+◌, ◌-◌, ◌^◌, ◌<◌, ◌≤◌, false, map, min, None, refl, sym, ap, ◌∙◌}
use Rattle.twin_run.proofs.Common.{subst, arith, add-one, inl, inr, cases_lt, Running, Script, Notes, saved_of, is_due, call_under_way}
use Rattle.twin_run.proofs.Common.{own_placement, NoCall, ScriptPlace, RunState, instruction_step, run_step, running_step, step_if, World}
use Rattle.twin_run.proofs.Common.{Bool, true, HasEvents, GoesOnFor, IsAt, IsFree, IsQuiet, IsRunner, Runs, hosts_of, steps_on, Runner}
use Rattle.twin_run.specs.Runner.{HasDone, IsMachines, TakesSteps}
use Rattle.twin_run.proofs.{RoomLaws.step_events, RunnerLaws.away_there, TurnLaws.due_there, TurnLaws.more_events, TurnLaws.not_due_before}
use Rattle.twin_run.proofs.TurnLaws.{quiet_at, turn_is}

-- ---- one step more

pub on_none : (w : ℕ) (world : World) (r : RunState) → steps_on w world 0 r ≡ r
unfolding steps_on
on_none w world r = refl

pub on_next : (w : ℕ) (world : World) (n : ℕ) (r : RunState)
    → steps_on w world (n + 1) r ≡ run_step w world (own_placement w world) (steps_on w world n r)
unfolding steps_on
on_next w world n r = ap (λ k. steps_on w world k r) (add-one n)

pub on_one : (w : ℕ) (world : World) (r : RunState) → steps_on w world 1 r ≡ run_step w world (own_placement w world) r
on_one w world r = on_next w world 0 r ∙ ap (run_step w world (own_placement w world)) (on_none w world r)

pub goes_next : (w : ℕ) (world : World) (n : ℕ) (r : RunState) → GoesOnFor w world n r → (steps_on w world n r).ending ≡ Running
    → GoesOnFor w world (n + 1) r
goes_next w world n r goes on j l = elim (cases_lt j n) as (λ _. (steps_on w world j r).ending ≡ Running) [
  | inl m ↦ goes j m
  | inr m ↦ let same : j ≡ n = omega (arith, l, m) in ap (λ k. (steps_on w world k r).ending) same ∙ on
]

pub goes_none : (w : ℕ) (world : World) (r : RunState) → GoesOnFor w world 0 r
goes_none w world r j l = absurd (omega (arith, l))

-- a run that goes on takes its step
pub runs_on : (w : ℕ) (world : World) (s : RunState) → s.ending ≡ Running
    → running_step w world (own_placement w world) s ≡ run_step w world (own_placement w world) s
unfolding run_step
runs_on w world s on = ap (step_if w world (own_placement w world) s) (sym on)

-- ---- several instructions

-- A runner is so many steps on of a run, all of them instructions that are still to be counted.
pub record IsOn (w : ℕ) (world : World) (old new : Runner w) (n : ℕ) (r : RunState) : Type 0 where
  pub at : IsAt w world (record new { done = min (old.done + n) (2 ^ 64 - 1) }) (steps_on w world n r)
  pub goes : GoesOnFor w world n r

capped : (w : ℕ) (world : World) (x : Runner w) (r : RunState) (d : ℕ) → IsAt w world x r → d ≡ min x.done (2 ^ 64 - 1)
    → IsAt w world (record x { done = d }) r
capped w world x r d at is = record {
  serving = at.serving;
  size = at.size;
  image_size = at.image_size;
  memory = at.memory;
  machine = at.machine;
  hosts = at.hosts;
  tells = record { entries = at.tells.entries; notifications = at.tells.notifications; thunks = at.tells.thunks; trace = at.tells.trace };
  done = let was = at.done in omega (arith, is, was);
  ending = at.ending;
}

-- A count of steps changes nothing of where a runner is.
pub recounted : (w : ℕ) (world : World) (x : Runner w) (r : RunState) (n : ℕ) → IsRunner w world x r
    → IsRunner w world (record x { taken = n }) r
recounted w world x r n is = record {
  at = record {
    serving = is.at.serving;
    size = is.at.size;
    image_size = is.at.image_size;
    memory = is.at.memory;
    machine = is.at.machine;
    hosts = is.at.hosts;
    tells = is.at.tells;
    done = is.at.done;
    ending = is.at.ending;
  };
  quiet = is.quiet;
  events = is.events;
}

pub is_on : (w : ℕ) (world : World) (x : Runner w) (r : RunState) → IsAt w world x r → IsOn w world x x 0 r
is_on w world x r at = record {
  at = subst (IsAt w world (record x { done = min (x.done + 0) (2 ^ 64 - 1) })) (sym (on_none w world r))
      (capped w world x r (min (x.done + 0) (2 ^ 64 - 1)) at (omega arith));
  goes = goes_none w world r;
}

-- an instruction more
pub is_on_next : (w : ℕ) (world : World) (x y z : Runner w) (n most : ℕ) (r : RunState) → IsOn w world x y n r → n < most
    → y ≡ record x { machine = y.machine; mem = y.mem } → y.machine.ip ≢ y.machine.gate → IsFree world.script x most
    → r.ending ≡ Running → IsAt w world x r
    → ((s : RunState) (d : ℕ) → IsAt w world (record y { done = d }) s
    → IsAt w world (record z { done = min (d + 1) (2 ^ 64 - 1) }) (instruction_step w world (own_placement w world) s))
    → IsOn w world x z (n + 1) r
is_on_next w world x y z n most r is less same away free on at step =
    let s = steps_on w world n r in
    let d = min (x.done + n) (2 ^ 64 - 1) in
    let v : Runner w = record y { done = d } in
    let running : s.ending ≡ Running = sym is.at.ending ∙ (ap (λ (u : Runner w). u.ending) same ∙ (at.ending ∙ on)) in
    let gone = away_there w world v s is.at away in
    let call : call_under_way s.hosts ≡ NoCall =
    sym (ap call_under_way is.at.hosts) ∙ (ap (λ (u : Runner w). call_under_way (hosts_of u.asked u.frames)) same ∙ free.0) in
    let entered = ap (λ (u : Runner w). u.host.notifications) same in
    let due : is_due world.script s.script ≡ false =
    due_there w world v s world.script false is.at refl (λ to m k. sym (free.1 to (m ∙ entered) (omega (arith, k, less)))) in
    let turn = turn_is w world (own_placement w world) s false NoCall false gone call due in
    let next = subst (IsAt w world (record z { done = min (d + 1) (2 ^ 64 - 1) })) (turn ∙ (runs_on w world s running ∙ sym (on_next w world
    n r)))
    (step s d is.at) in
    record {
      at = subst (λ k. IsAt w world (record z { done = k }) (steps_on w world (n + 1) r)) (again x.done n) next;
      goes = goes_next w world n r is.goes running;
    }
  where
    again : (a b : ℕ) → min (min (a + b) (2 ^ 64 - 1) + 1) (2 ^ 64 - 1) ≡ min (a + (b + 1)) (2 ^ 64 - 1)
    again a b = omega arith

-- What so many instructions of a runner leave, which are still to be counted. The last one may have asked for something.
pub record AreTaken (w : ℕ) (notes : Notes) (most : ℕ) (old new : Runner w) (n : ℕ) (next : Bool) : Type 0 where
  pub done : new.done ≡ old.done
  pub trace : new.host.trace ≡ old.host.trace
  pub quiet : (script : Script) → IsQuiet script old → IsQuiet script new
  pub same : next ≡ true → new ≡ record old { machine = new.machine; mem = new.mem }
  pub on : (world : World) (r : RunState) → world.notes ≡ notes → IsFree world.script old most → r.ending ≡ Running → IsAt w world old r
      → IsOn w world old new n r

pub none_taken : (w : ℕ) (notes : Notes) (most : ℕ) (x : Runner w) → AreTaken w notes most x x (most - most) true
none_taken w notes most x =
    let none : 0 ≡ most - most = omega arith in
    subst (λ n. AreTaken w notes most x x n true) none (record {
      done = λ i. x.done;
      trace = λ i. x.host.trace;
      quiet = λ script quiet. quiet;
      same = λ e i. x;
      on = λ world r its free on at. is_on w world x r at;
    })

pub one_taken : (w : ℕ) (notes : Notes) (most left : ℕ) (x y z : Runner w) (before after : Bool)
    → AreTaken w notes most x y (most - left) before → before ≡ true → left ≤ most → 0 < left → y.machine.ip ≢ y.machine.gate
    → ((world : World) (r : RunState) (d : ℕ) → world.notes ≡ notes → IsAt w world (record y { done = d }) r
    → IsAt w world (record z { done = min (d + 1) (2 ^ 64 - 1) }) (instruction_step w world (own_placement w world) r))
    → (after ≡ true → z ≡ record y { machine = z.machine; mem = z.mem }) → z.done ≡ y.done → z.host.trace ≡ y.host.trace
    → ((script : Script) → IsQuiet script y → IsQuiet script z) → AreTaken w notes most x z (most - (left - 1)) after
one_taken w notes most left x y z before after were goes_on few some away step same done trace quiet =
    let more : most - left + 1 ≡ most - (left - 1) = omega (arith, few, some) in
    subst (λ n. AreTaken w notes most x z n after) more (record {
      done = done ∙ were.done;
      trace = trace ∙ were.trace;
      quiet = λ script is. quiet script (were.quiet script is);
      same = λ e. subst (λ (u : Runner w). z ≡ record u { machine = z.machine; mem = z.mem }) (were.same goes_on) (same e);
      on = λ world r its free on at.
          is_on_next w world x y z (most - left) most r (were.on world r its free on at) (omega (arith, few, some)) (were.same goes_on)
          away free on at (λ s d there. step world s d its there);
    })

-- once they are counted
pub all_taken : (w : ℕ) (notes : Notes) (most n done : ℕ) (x y : Runner w) (next : Bool) → AreTaken w notes most x y n next
    → done ≡ min (y.done + n) (2 ^ 64 - 1) → HasDone w notes most x (record y { done = done }) n
all_taken w notes most n done x y next are counted =
    let count : min (x.done + n) (2 ^ 64 - 1) ≡ done = ap (λ k. min (k + n) (2 ^ 64 - 1)) (sym are.done) ∙ sym counted in
    record {
      at = λ world r its free on at.
          subst (λ k. IsAt w world (record y { done = k }) (steps_on w world n r)) count (are.on world r its free on at).at;
      goes_on = λ world r its free on at. (are.on world r its free on at).goes;
      trace = are.trace;
      quiet = are.quiet;
    }

-- ---- for how many steps it is the machine's turn

-- for one where nothing else is due
pub free_one : {w : ℕ} (script : Script) (x : Runner w) (n : ℕ) → x.asked ≡ None → call_under_way (map saved_of x.frames) ≡ NoCall
    → ((at : ScriptPlace) → at.notifications ≡ x.host.notifications → at.instructions ≡ x.done → false ≡ is_due script at)
    → IsFree script (record x { quiet = n }) 1
free_one script x n unasked none due = (
  ap (λ o. call_under_way (hosts_of o x.frames)) unasked ∙ none,
  λ at k few. elim (cases_lt at.instructions x.done) as (λ _. is_due script at ≡ false) [
    | inl m ↦ not_due_before script x.host.notifications x.done due at k m
    | inr m ↦ sym (due at k (omega (arith, few, m)))
  ],
)

-- for as many as it is quiet
pub free_quiet : {w : ℕ} (script : Script) (x : Runner w) → IsQuiet script x → x.done < x.quiet → IsFree script x (x.quiet - x.done)
free_quiet script x quiet few =
    (quiet.0 (omega (arith, few)), λ at k less. quiet.1 at k (omega (arith, few, less)))

-- for fewer
pub free_fewer : {w : ℕ} (script : Script) (x : Runner w) (n m : ℕ) → IsFree script x n → m ≤ n → IsFree script x m
free_fewer script x n m free fewer = (free.0, λ at k less. free.1 at k (omega (arith, less, fewer)))

-- it is the state of the run
pub machines_at : (w : ℕ) (world : World) (script : Script) (x y : Runner w) (n : ℕ) (r : RunState) → IsMachines w script x y n
    → IsAt w world x r → IsAt w world y r
machines_at w world script x y n r is at = subst (λ (u : Runner w). IsAt w world u r) (sym is.same) (quiet_at w world x r y.quiet at)

-- ---- several steps

events_on : (w : ℕ) (world : World) (most n : ℕ) (r : RunState) → GoesOnFor w world n r → HasEvents world.script most r
    → HasEvents world.script most (steps_on w world n r)
unfolding steps_on
events_on w world most zero r goes has = has
events_on w world most (suc n) r goes has =
    let on = goes n (omega arith) in
    subst (HasEvents world.script most) (runs_on w world (steps_on w world n r) on)
    (step_events w world (own_placement w world) most (steps_on w world n r) on
    (events_on w world most n r (λ j l. goes j (omega (arith, l))) has))

pub went_on_for : (w : ℕ) (world : World) (x y : Runner w) (n : ℕ) (r : RunState) → IsRunner w world x r
    → IsAt w world y (steps_on w world n r) → GoesOnFor w world n r → IsQuiet world.script y
    → vec_capacity x.host.trace ≤ vec_capacity y.host.trace → IsRunner w world y (steps_on w world n r)
went_on_for w world x y n r is at goes quiet capacity = record {
  at = at;
  quiet = quiet;
  events = more_events world.script (vec_capacity y.host.trace) (vec_capacity x.host.trace) (steps_on w world n r)
      (events_on w world (vec_capacity x.host.trace) n r goes is.events) capacity;
}

-- instructions where so many are free are steps
pub free_steps : (w : ℕ) (notes : Notes) (script : Script) (most n taken : ℕ) (x y : Runner w) → HasDone w notes most x y n
    → x.ending ≡ Running → (IsQuiet script x → IsFree script x most) → taken ≡ min (x.taken + n) (2 ^ 64 - 1)
    → TakesSteps w notes script x (record y { taken = taken }) n
free_steps w notes script most n taken x y done on free counted = record {
  steps = λ world r its same is.
      recounted w world y (steps_on w world n r) taken (went_on_for w world x y n r is
      (done.at world r its (here world same is.quiet) (sym is.at.ending ∙ on) is.at)
      (done.goes_on world r its (here world same is.quiet) (sym is.at.ending ∙ on) is.at) (done.quiet world.script is.quiet)
      (omega (arith, ap (λ t. vec_capacity t) done.trace)));
  goes_on = λ world r its same is. done.goes_on world r its (here world same is.quiet) (sym is.at.ending ∙ on) is.at;
  counted = counted;
} where
  here : (world : World) → world.script ≡ script → IsQuiet world.script x → IsFree world.script x most
  here world same quiet =
      subst (λ (s : Script). IsFree s x most) (sym same) (free (subst (λ (s : Script). IsQuiet s x) same quiet))

-- a step of the host
pub one_on : (w : ℕ) (world : World) (y : Runner w) (r : RunState) → r.ending ≡ Running
    → IsAt w world y (running_step w world (own_placement w world) r) → IsAt w world y (steps_on w world 1 r)
one_on w world y r on at = subst (IsAt w world y) (runs_on w world r on ∙ sym (on_one w world r)) at

pub goes_one : (w : ℕ) (world : World) (r : RunState) → r.ending ≡ Running → GoesOnFor w world 1 r
goes_one w world r on j l =
    let none : j ≡ 0 = omega (arith, l) in ap (λ k. (steps_on w world k r).ending) none ∙ (ap (λ (s : RunState). s.ending) (on_none w world
    r) ∙ on)

-- a step is one
pub one_step : (w : ℕ) (notes : Notes) (script : Script) (x y : Runner w) → x.ending ≡ Running
    → ((world : World) (r : RunState) → world.notes ≡ notes → world.script ≡ script → IsRunner w world x r
    → IsRunner w world y (run_step w world (own_placement w world) r))
    → (x.ending ≡ Running → y.taken ≡ min (x.taken + 1) (2 ^ 64 - 1)) → TakesSteps w notes script x y 1
one_step w notes script x y on step counted = record {
  steps = λ world r its same is. subst (IsRunner w world y) (sym (on_one w world r)) (step world r its same is);
  goes_on = λ world r its same is. goes_one w world r (sym is.at.ending ∙ on);
  counted = counted on;
}

-- a runner of some run is still one
pub runs_still : (w : ℕ) (notes : Notes) (script : Script) (x y : Runner w) (n : ℕ) → Runs w notes script x
    → ((world : World) (r : RunState) → world.notes ≡ notes → world.script ≡ script → IsRunner w world x r
    → IsRunner w world y (steps_on w world n r)) → Runs w notes script y
runs_still w notes script x y n runs steps = record {
  world = runs.world;
  its_notes = runs.its_notes;
  its_script = runs.its_script;
  state = steps_on w runs.world n runs.state;
  is = steps runs.world runs.state runs.its_notes runs.its_script runs.is;
}
