-- Laws of a side of a pair: what its runner is at after a step, and which events the step adds; its end, where the first function returned.
use Rattle.pair_host.proofs.Common.{◌≡◌, ℕ, ◌≤◌, Bool, true, false, if◌then◌else◌, nat_eq, List, [], ◌∷◌, ◌++◌, length, map, drop, Option}
use Rattle.pair_host.proofs.Common.{Some, None, refl, sym, ap, ◌∙◌, subst, arith, slice_get, option_map_or, drop-append_seam, machine_step}
use Rattle.pair_host.proofs.Common.{StepEnd, Concrete, Event, Value, Plan, View, Returns, host_plan, host_turn, is_due, function_params}
use Rattle.pair_host.proofs.Common.{IsDue, Finishes, Leaves, Accepts, Enters, Replies, Resumes, Notifies, Ends, ThunkView, Names, NamesNone}
use Rattle.pair_host.proofs.Common.{NotMapped, call_seen, call_under_way, entered, frame_for, host_step, host_view, inside, left}
use Rattle.pair_host.proofs.Common.{objects_at, performed, return_seen, thunk_made, thunk_view, with_call, written_number}
use Rattle.pair_host.proofs.Common.{Placement, code_at, NativeCall, NoCall, Asked, Accepted, one_callback, one_instruction}
use Rattle.pair_host.proofs.Common.{one_notification, RunState, after_instruction, instruction_step, run_step, running_step}
use Rattle.pair_host.proofs.Common.{step_if, World, IsNoFirstReturn, IsRunner, Runner, listed, own, told}
use Rattle.host_laws.proofs.Leaving.{ending_left, ending_resumed}
use Rattle.pair_laws.proofs.Finishing.{Goes, Unfinished, plan_goes}
use Rattle.pair_host.proofs.{Brief.run_step-brief, Past.run_step-alike}
use Rattle.ebc_machine.specs.declared.StepEnd.TheVariants as ends
use Rattle.note_types.specs.declared.ending.Ending.TheVariants as ending
use Rattle.note_types.specs.declared.exception.Exception.TheVariants as raises

-- ---- events

listed_last : {A : Type 0} (t s : List A) → length s ≤ 1 → listed (slice_get (t ++ s) (length t)) ≡ s
listed_last [] [] few = refl
listed_last [] (x ∷ []) few = refl
listed_last [] (x ∷ (y ∷ ys)) few = absurd (omega (arith, few))
listed_last (x ∷ t) s few = listed_last t s few

-- the events that a step adds to a run whose own are these
abbrev pub step_events : ℕ → World → Placement → RunState → List Event
step_events w world P r = (run_step w world P (told [] r)).trace

-- A side's runner is at the run after a step, and the run and the runner have the same events more.
pub record IsStepped (w : ℕ) (world : World) (P : Placement) (x y : Runner w) (r : RunState) : Type 0 where
  pub is : IsRunner w world y (own y (run_step w world P r))
  pub run : drop (length r.trace) (run_step w world P r).trace ≡ step_events w world P r
  pub runner : listed (slice_get y.host.trace.items (length x.host.trace.items)) ≡ step_events w world P r

pub is_stepped : (w : ℕ) (world : World) (P : Placement) (x y : Runner w) (r : RunState)
    → IsRunner w world y (run_step w world P (own x r)) → IsStepped w world P x y r
is_stepped w world P x y r there =
    let t = x.host.trace.items in
    let s = run_step w world P (told [] r) in
    let whole : run_step w world P r ≡ told (r.trace ++ s.trace) s = run_step-alike w world P r r.trace in
    let mine : IsRunner w world y (told (t ++ s.trace) s) = subst (IsRunner w world y) (run_step-alike w world P r t) there in
    let trace : t ++ s.trace ≡ y.host.trace.items = mine.at.tells.trace in
    record {
      is = subst (λ (q : RunState). IsRunner w world y (told y.host.trace.items q)) (sym whole)
          (subst (λ u. IsRunner w world y (told u s)) trace mine);
      run = ap (λ (q : RunState). drop (length r.trace) q.trace) whole ∙ drop-append_seam r.trace s.trace;
      runner = ap (λ u. listed (slice_get u (length t))) (sym trace) ∙ listed_last t s.trace (run_step-brief w world P r);
    }

-- ---- the first function

module _ (w : ℕ) (world : World) (P : Placement) where
  -- a native call that is under way is no return
  seen_no_return : (r : RunState) (c : NativeCall ℕ) (f : ℕ) (v : Value) → call_seen w world P r c ≡ Some (Returns true f v) → ⊥
  seen_no_return r NoCall f v is = by (is_due world.script r.script) is where
    by : (b : Bool) → (if b then Some (IsDue (length r.hosts)) else None) ≡ Some (Returns true f v) → ⊥
    by true e = cc
    by false e = cc
  seen_no_return r (Asked place target) f v is = cc
  seen_no_return r (Accepted entry callbacks slots) f v is = cc

  -- where the first function returned the run finishes with its result
  pub first_step : (r : RunState) (f : ℕ) (v : Value) → host_view w world P r ≡ Some (Returns true f v) → r.ending ≡ ending.Running
      → run_step w world P r ≡ record (left r r.hosts) { ending = ending.Finished v }
  unfolding run_step running_step host_view host_step performed host_plan
  first_step r f v is on = ap (step_if w world P r) on ∙ by (nat_eq r.machine.ip r.machine.gate) refl where
    after : Option View → RunState
    after o = option_map_or (λ u. performed w world P r (host_plan world r.script u)) o r

    by : (b : Bool) → nat_eq r.machine.ip r.machine.gate ≡ b
        → running_step w world P r ≡ record (left r r.hosts) { ending = ending.Finished v }
    by true gate =
        ap (λ b. if host_turn b (call_under_way r.hosts) (is_due world.script r.script) then host_step w world P r
        else instruction_step w world P r) gate
        ∙ ap after is
    by false away = absurd (seen_no_return r (call_under_way r.hosts) f v
        (sym (ap (λ b. if b then return_seen w world P r r.hosts else call_seen w world P r (call_under_way r.hosts)) away) ∙ is))

  -- ---- and else it doesn't finish

  entered_goes : (notified : Bool) (r : RunState) (f : ℕ) (numbers : List ℕ) → r.ending ≡ ending.Running
      → Unfinished (entered notified w world P r f numbers).ending
  entered_goes notified r f numbers on = go (inside w r.machine (code_at world.notes P f) (function_params world.notes f) numbers)
    where
      go : (o : Option Concrete) → Unfinished (option_map_or (λ s. record r {
        machine = s;
        hosts = frame_for notified r.machine f ∷ r.hosts;
      }) o (record r { ending = ending.Raised raises.StackFault })).ending
      go None = tt
      go (Some s) = subst Unfinished (sym on) tt

  performed_goes : (r : RunState) (p : Plan) → r.ending ≡ ending.Running → Goes p → Unfinished (performed w world P r p).ending
  unfolding performed
  performed_goes r (Finishes v) on g = absurd g
  performed_goes r (Leaves e) on g = subst Unfinished (sym (ending_left r r.hosts ∙ on)) tt
  performed_goes r (Accepts e n os ss) on g = subst Unfinished (sym on) tt
  performed_goes r (Enters e n f vs) on g =
      entered_goes false (record r { hosts = with_call (one_callback (call_under_way r.hosts)) r.hosts; trace = r.trace ++ e ∷ [] }) f
      (map (written_number w world.notes P (objects_at world r)) vs) on
  performed_goes r (Replies e ss k v) on g = subst Unfinished (sym on) tt
  performed_goes r (Resumes e) on g = subst Unfinished (sym (ending_resumed r r.hosts ∙ on)) tt
  performed_goes r (Notifies e f vs) on g =
      entered_goes true (record r { script = one_notification r.script; trace = r.trace ++ e ∷ [] }) f
      (map (written_number w world.notes P (objects_at world r)) vs) on
  performed_goes r (Ends es e) on g = g

  other_view : (v : View) → IsNoFirstReturn (Some v) → (f : ℕ) (u : Value) → v ≡ Returns true f u → ⊥
  other_view v other f u is = subst (λ z. IsNoFirstReturn (Some z)) is other

  host_goes : (r : RunState) → IsNoFirstReturn (host_view w world P r) → r.ending ≡ ending.Running
      → Unfinished (host_step w world P r).ending
  unfolding host_step
  host_goes r other on = go (host_view w world P r) other
    where
      go : (o : Option View) → IsNoFirstReturn o
          → Unfinished (option_map_or (λ v. performed w world P r (host_plan world r.script v)) o r).ending
      go None other = subst Unfinished (sym on) tt
      go (Some v) other = performed_goes r (host_plan world r.script v) on (plan_goes world r.script v (other_view v other))

  thunk_goes : (r : RunState) (s : Concrete) (address : ℕ) (v : ThunkView) → r.ending ≡ ending.Running
      → Unfinished (thunk_made w world P r s address v).ending
  unfolding thunk_made
  thunk_goes r s address NotMapped on = tt
  thunk_goes r s address NamesNone on = tt
  thunk_goes r s address (Names f) on = subst Unfinished (sym on) tt

  instruction_goes : (r : RunState) (e : StepEnd) (s : Concrete) → r.ending ≡ ending.Running
      → Unfinished (after_instruction w world P r (e, s)).ending
  unfolding after_instruction
  instruction_goes r ends.Next s on = subst Unfinished (sym on) tt
  instruction_goes r (ends.Native target) s on = subst Unfinished (sym on) tt
  instruction_goes r ends.Gate s on = subst Unfinished (sym on) tt
  instruction_goes r (ends.MakeThunk address) s on = thunk_goes r s address (thunk_view world P s address) on
  instruction_goes r (ends.Raised e) s on = tt

  pub step_goes : (r : RunState) → IsNoFirstReturn (host_view w world P r) → r.ending ≡ ending.Running
      → Unfinished (run_step w world P r).ending
  unfolding run_step running_step instruction_step
  step_goes r other on = subst (λ e. Unfinished (step_if w world P r e).ending) (sym on)
      (go (host_turn (nat_eq r.machine.ip r.machine.gate) (call_under_way r.hosts) (is_due world.script r.script)))
    where
      go : (b : Bool) → Unfinished (if b then host_step w world P r else instruction_step w world P r).ending
      go true = host_goes r other on
      go false =
          let m : StepEnd × Concrete = machine_step w r.machine in
          instruction_goes (record r { script = one_instruction r.script }) m.0 m.1 on
