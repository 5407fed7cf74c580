-- Runs step by step: one that ended stays as it is, and the events of one that goes on are added to.
use Rattle.twin_run.proofs.Common.{◌≢◌, ◌≡◌, ℕ, zero, suc, ◌+◌, Bool, true, false, if◌then◌else◌, nat_eq, List, [], ◌∷◌, ◌++◌, map, Option}
use Rattle.twin_run.proofs.Common.{Some, None, refl, sym, ap, ◌∙◌, add-zero, option_map_or, machine_step, StepEnd, Concrete, Ending, Event}
use Rattle.twin_run.proofs.Common.{View, host_plan, host_turn, is_due, Enters, Replies, Notifies, Ends, ThunkView, Names, NamesNone}
use Rattle.twin_run.proofs.Common.{NotMapped, function_params, call_under_way, entered, frame_for, host_step, host_view, inside, left}
use Rattle.twin_run.proofs.Common.{performed, objects_at, thunk_made, thunk_view, with_call, written_number, Placement, code_at}
use Rattle.twin_run.proofs.Common.{one_callback, one_instruction, one_notification, RunState, SavedFrame, after_instruction}
use Rattle.twin_run.proofs.Common.{instruction_step, run_after, run_step, running_step, step_if, World}
use Rattle.std.proofs.Common.{append-nil, add-suc}
use Rattle.host_model.specs.{HostPlans.Plan, HostPlans.Finishes, HostPlans.Leaves, HostPlans.Accepts, HostPlans.Resumes, HostSteps.resumed}
use Rattle.ebc_machine.specs.declared.StepEnd.TheVariants as ends
use Rattle.note_types.specs.declared.ending.Ending.TheVariants as ending
use Rattle.note_types.specs.declared.exception.Exception.TheVariants as raises

-- ---- the end

module _ (w : ℕ) (world : World) (P : Placement) where
  pub ended-stays : (r : RunState) → r.ending ≢ ending.Running → run_step w world P r ≡ r
  unfolding run_step
  ended-stays r over = go r.ending refl
    where
      go : (e : Ending) → r.ending ≡ e → step_if w world P r r.ending ≡ r
      go ending.Running is = absurd (over is)
      go (ending.Finished x) is = ap (step_if w world P r) is
      go (ending.Raised x) is = ap (step_if w world P r) is
      go (ending.Mismatch x) is = ap (step_if w world P r) is
      go ending.ScriptEnd is = ap (step_if w world P r) is

  -- so it does however many steps follow
  pub ended-is-last : (bytes : ℕ → ℕ) (k n : ℕ) → (run_after w world P bytes k).ending ≢ ending.Running
      → run_after w world P bytes (k + n) ≡ run_after w world P bytes k
  unfolding run_after
  ended-is-last bytes k zero over = ap (run_after w world P bytes) (add-zero k)
  ended-is-last bytes k (suc n) over =
      let so = ended-is-last bytes k n over in
      ap (run_after w world P bytes) (add-suc k n)
      ∙ (ap (run_step w world P) so ∙ ended-stays (run_after w world P bytes k) over)

-- ---- events

-- some events more
abbrev pub TellsMore : List Event → List Event → Type 0
TellsMore old new = (es : List Event) × (new ≡ old ++ es)

pub none-more : (old : List Event) → TellsMore old old
none-more old = ([], sym (append-nil old))

-- none more where a state tells the same
same-more : (old new : List Event) → new ≡ old → TellsMore old new
same-more old new e = ([], e ∙ sym (append-nil old))

module _ (w : ℕ) (world : World) (P : Placement) where
  -- neither leaving a frame nor resuming what it interrupted tells anything
  frame-tells : (r : RunState) (hosts : List SavedFrame) → ((left r hosts).trace ≡ r.trace) × ((resumed r hosts).trace ≡ r.trace)
  frame-tells r [] = (refl, refl)
  frame-tells r (f ∷ fs) = (refl, refl)

  entered-tells : (notified : Bool) (r : RunState) (f : ℕ) (numbers : List ℕ) → (entered notified w world P r f numbers).trace ≡ r.trace
  entered-tells notified r f numbers = go (inside w r.machine (code_at world.notes P f) (function_params world.notes f) numbers)
    where
      go : (o : Option Concrete)
          → (option_map_or (λ s. record r { machine = s; hosts = frame_for notified r.machine f ∷ r.hosts }) o
          (record r { ending = ending.Raised raises.StackFault })).trace ≡ r.trace
      go None = refl
      go (Some s) = refl

  performed-tells : (r : RunState) (p : Plan) → TellsMore r.trace (performed w world P r p).trace
  unfolding performed
  performed-tells r (Finishes v) = same-more _ _ (frame-tells r r.hosts).0
  performed-tells r (Leaves e) = (e ∷ [], ap (λ t. t ++ e ∷ []) (frame-tells r r.hosts).0)
  performed-tells r (Accepts e entry objects stores) = (e ∷ [], refl)
  performed-tells r (Enters e entry f values) = (
    e ∷ [],
    entered-tells false
        (record r { hosts = with_call (one_callback (call_under_way r.hosts)) r.hosts; trace = r.trace ++ e ∷ [] })
        f (map (written_number w world.notes P (objects_at world r)) values),
  )
  performed-tells r (Replies e stores kind v) = (e ∷ [], refl)
  performed-tells r (Resumes e) = (e ∷ [], ap (λ t. t ++ e ∷ []) (frame-tells r r.hosts).1)
  performed-tells r (Notifies e f values) = (
    e ∷ [],
    entered-tells true
        (record r { script = one_notification r.script; trace = r.trace ++ e ∷ [] })
        f (map (written_number w world.notes P (objects_at world r)) values),
  )
  performed-tells r (Ends es over) = (es, refl)

  host_step-tells : (r : RunState) → TellsMore r.trace (host_step w world P r).trace
  unfolding host_step
  host_step-tells r = go (host_view w world P r)
    where
      go : (o : Option View) → TellsMore r.trace (option_map_or (λ v. performed w world P r (host_plan world r.script v)) o r).trace
      go None = none-more r.trace
      go (Some v) = performed-tells r (host_plan world r.script v)

  thunk_made-tells : (r : RunState) (s : Concrete) (address : ℕ) (v : ThunkView) → (thunk_made w world P r s address v).trace ≡ r.trace
  unfolding thunk_made
  thunk_made-tells r s address NotMapped = refl
  thunk_made-tells r s address NamesNone = refl
  thunk_made-tells r s address (Names f) = refl

  after_instruction-tells : (r : RunState) (e : StepEnd) (s : Concrete) → (after_instruction w world P r (e, s)).trace ≡ r.trace
  unfolding after_instruction
  after_instruction-tells r ends.Next s = refl
  after_instruction-tells r (ends.Native target) s = refl
  after_instruction-tells r ends.Gate s = refl
  after_instruction-tells r (ends.MakeThunk address) s = thunk_made-tells r s address (thunk_view world P s address)
  after_instruction-tells r (ends.Raised e) s = refl

  instruction_step-tells : (r : RunState) → (instruction_step w world P r).trace ≡ r.trace
  unfolding instruction_step
  instruction_step-tells r =
      let m : StepEnd × Concrete = machine_step w r.machine in
      after_instruction-tells (record r { script = one_instruction r.script }) m.0 m.1

  running_step-tells : (r : RunState) → TellsMore r.trace (running_step w world P r).trace
  unfolding running_step
  running_step-tells r = go (host_turn (nat_eq r.machine.ip r.machine.gate) (call_under_way r.hosts) (is_due world.script r.script))
    where
      go : (b : Bool) → TellsMore r.trace (if b then host_step w world P r else instruction_step w world P r).trace
      go true = host_step-tells r
      go false = same-more _ _ (instruction_step-tells r)

  -- a step adds events after those that there are
  pub step-tells : (r : RunState) → TellsMore r.trace (run_step w world P r).trace
  unfolding run_step
  step-tells r = go r.ending
    where
      go : (e : Ending) → TellsMore r.trace (step_if w world P r e).trace
      go ending.Running = running_step-tells r
      go (ending.Finished x) = none-more r.trace
      go (ending.Raised x) = none-more r.trace
      go (ending.Mismatch x) = none-more r.trace
      go ending.ScriptEnd = none-more r.trace
