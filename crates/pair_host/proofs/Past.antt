-- Laws of the events before a step: whatever these are, a step adds the same events and leaves the same otherwise.
use Rattle.pair_host.proofs.Common.{◌≡◌, ℕ, Bool, true, false, if◌then◌else◌, nat_eq, List, [], ◌∷◌, ◌++◌, append-nil, map, Option, Some}
use Rattle.pair_host.proofs.Common.{None, refl, sym, ap, ◌∙◌, option_map_or, machine_step, StepEnd, Concrete, Ending, Event, Plan, View}
use Rattle.pair_host.proofs.Common.{host_plan, host_turn, is_due, function_params, site_of, Finishes, Leaves, Accepts, Enters, Replies}
use Rattle.pair_host.proofs.Common.{Resumes, Notifies, Ends, ThunkView, Names, NamesNone, NotMapped, Calls, NoSite, asking_at, asking_by}
use Rattle.pair_host.proofs.Common.{call_seen, call_under_way, entered, frame_for, host_step, host_view, inside, left, objects_at}
use Rattle.pair_host.proofs.Common.{performed, resumed, return_seen, slots_of, thunk_made, thunk_view, with_call, written_number, Placement}
use Rattle.pair_host.proofs.Common.{code_at, NativeCall, NoCall, Asked, Accepted, one_callback, one_instruction, one_notification, RunState}
use Rattle.pair_host.proofs.Common.{SavedFrame, after_instruction, instruction_step, run_step, running_step, step_if, World, told}
use Rattle.host_model.specs.HostSteps.{result_of, slots_asked, writes_mapped}
use Rattle.ebc_machine.specs.declared.StepEnd.TheVariants as ends
use Rattle.note_types.specs.declared.ending.Ending.TheVariants as ending
use Rattle.note_types.specs.declared.exception.Exception.TheVariants as raises

-- what a step makes of a run whose events are these: the events that it makes of none come after them
abbrev pub AddsAlike : (RunState → RunState) → RunState → List Event → Type 0
AddsAlike step r t = step (told t r) ≡ told (t ++ (step (told [] r)).trace) (step (told [] r))

-- the same list of events, with none after them
none-after : (r : RunState) (t : List Event) → told t r ≡ told (t ++ []) r
none-after r t = ap (λ u. told u r) (sym (append-nil t))

module _ (w : ℕ) (world : World) (P : Placement) where
  -- ---- plans

  entered-alike : (notified : Bool) (r : RunState) (f : ℕ) (numbers : List ℕ) (t : List Event) (e : Event)
      → entered notified w world P (told (t ++ e ∷ []) r) f numbers
      ≡ told (t ++ (entered notified w world P (told (e ∷ []) r) f numbers).trace) (entered notified w world P (told (e ∷ []) r) f numbers)
  entered-alike notified r f numbers t e = go (inside w r.machine (code_at world.notes P f) (function_params world.notes f) numbers)
    where
      by : RunState → Option Concrete → RunState
      by q o = option_map_or (λ s. record q { machine = s; hosts = frame_for notified q.machine f ∷ q.hosts }) o
          (record q { ending = ending.Raised raises.StackFault })

      go : (o : Option Concrete) → by (told (t ++ e ∷ []) r) o ≡ told (t ++ (by (told (e ∷ []) r) o).trace) (by (told (e ∷ []) r) o)
      go None = refl
      go (Some s) = refl

  slots-alike : (r : RunState) (t : List Event) (c : NativeCall ℕ) → slots_asked w world (told t r) c ≡ slots_asked w world r c
  slots-alike r t NoCall = refl
  slots-alike r t (Asked place target) = refl
  slots-alike r t (Accepted entry callbacks slots) = refl

  pub performed-alike : (r : RunState) (p : Plan) (t : List Event) → AddsAlike (λ q. performed w world P q p) r t
  unfolding performed
  performed-alike r (Finishes v) t = go r.hosts
    where
      go : (hs : List SavedFrame) → record (left (told t r) hs) { ending = ending.Finished v }
          ≡ told (t ++ (left (told [] r) hs).trace) (record (left (told [] r) hs) { ending = ending.Finished v })
      go [] = none-after (record r { ending = ending.Finished v }) t
      go (f ∷ fs) = none-after (record (left r (f ∷ fs)) { ending = ending.Finished v }) t
  performed-alike r (Leaves e) t = go r.hosts
    where
      go : (hs : List SavedFrame) → record (left (told t r) hs) { trace = (left (told t r) hs).trace ++ e ∷ [] }
          ≡ told (t ++ ((left (told [] r) hs).trace ++ e ∷ [])) (left (told [] r) hs)
      go [] = refl
      go (f ∷ fs) = refl
  performed-alike r (Accepts e entry objects stores) t =
      ap (λ xs. record (performed w world P (told t r) (Accepts e entry objects stores)) {
        hosts = with_call (Accepted entry 0 xs) r.hosts;
      }) (slots-alike r t (call_under_way r.hosts) ∙ sym (slots-alike r [] (call_under_way r.hosts)))
  performed-alike r (Enters e entry f values) t =
      entered-alike false (record r { hosts = with_call (one_callback (call_under_way r.hosts)) r.hosts }) f
      (map (written_number w world.notes P (objects_at world r)) values) t e
  performed-alike r (Replies e stores kind v) t = refl
  performed-alike r (Resumes e) t = go r.hosts
    where
      go : (hs : List SavedFrame) → record (resumed (told t r) hs) { trace = (resumed (told t r) hs).trace ++ e ∷ [] }
          ≡ told (t ++ ((resumed (told [] r) hs).trace ++ e ∷ [])) (resumed (told [] r) hs)
      go [] = refl
      go (f ∷ fs) = refl
  performed-alike r (Notifies e f values) t =
      entered-alike true (record r { script = one_notification r.script }) f
      (map (written_number w world.notes P (objects_at world r)) values) t e
  performed-alike r (Ends es over) t = refl

  -- ---- what the host sees

  pub asking-alike : (r : RunState) (t : List Event) (place target : ℕ)
      → asking_at w world P (told t r) place target ≡ asking_at w world P r place target
  unfolding asking_at
  asking-alike r t place target =
      λ i. option_map_or (λ g. by g (slots_of w world r g) i) (site_of world.notes place) NoSite
    where
      by : (g : ℕ) (o : Option (List ℕ)) → asking_by w world P (told t r) target g o ≡ asking_by w world P r target g o
      by g None = refl
      by g (Some xs) = refl

  pub view-alike : (r : RunState) (t : List Event) → host_view w world P (told t r) ≡ host_view w world P r
  unfolding host_view result_of writes_mapped
  view-alike r t = λ i. if nat_eq r.machine.ip r.machine.gate then returned r.hosts i else called (call_under_way r.hosts) i
    where
      returned : (hs : List SavedFrame) → return_seen w world P (told t r) hs ≡ return_seen w world P r hs
      returned [] = refl
      returned (f ∷ fs) = refl

      called : (c : NativeCall ℕ) → call_seen w world P (told t r) c ≡ call_seen w world P r c
      called NoCall = refl
      called (Asked place target) = ap (λ a. Some (Calls place a)) (asking-alike r t place target)
      called (Accepted entry callbacks slots) = refl

  -- ---- steps

  host_step-alike : (r : RunState) (t : List Event) → AddsAlike (host_step w world P) r t
  unfolding host_step
  host_step-alike r t =
      ap (after t) (view-alike r t)
      ∙ (go (host_view w world P r) ∙ sym (ap (λ o. told (t ++ (after [] o).trace) (after [] o)) (view-alike r [])))
    where
      after : List Event → Option View → RunState
      after u o = option_map_or (λ v. performed w world P (told u r) (host_plan world r.script v)) o (told u r)

      go : (o : Option View) → after t o ≡ told (t ++ (after [] o).trace) (after [] o)
      go None = none-after r t
      go (Some v) = performed-alike r (host_plan world r.script v) t

  thunk-alike : (r : RunState) (s : Concrete) (address : ℕ) (v : ThunkView) (t : List Event)
      → AddsAlike (λ q. thunk_made w world P q s address v) r t
  unfolding thunk_made
  thunk-alike r s address NotMapped t = none-after (thunk_made w world P (told [] r) s address NotMapped) t
  thunk-alike r s address NamesNone t = none-after (thunk_made w world P (told [] r) s address NamesNone) t
  thunk-alike r s address (Names f) t = none-after (thunk_made w world P (told [] r) s address (Names f)) t

  after_instruction-alike : (r : RunState) (e : StepEnd) (s : Concrete) (t : List Event)
      → AddsAlike (λ q. after_instruction w world P q (e, s)) r t
  unfolding after_instruction
  after_instruction-alike r ends.Next s t = none-after (after_instruction w world P (told [] r) (ends.Next, s)) t
  after_instruction-alike r (ends.Native target) s t = none-after (after_instruction w world P (told [] r) (ends.Native target, s)) t
  after_instruction-alike r ends.Gate s t = none-after (after_instruction w world P (told [] r) (ends.Gate, s)) t
  after_instruction-alike r (ends.MakeThunk address) s t = thunk-alike r s address (thunk_view world P s address) t
  after_instruction-alike r (ends.Raised e) s t = none-after (after_instruction w world P (told [] r) (ends.Raised e, s)) t

  instruction_step-alike : (r : RunState) (t : List Event) → AddsAlike (instruction_step w world P) r t
  unfolding instruction_step
  instruction_step-alike r t =
      let m : StepEnd × Concrete = machine_step w r.machine in
      after_instruction-alike (record r { script = one_instruction r.script }) m.0 m.1 t

  running_step-alike : (r : RunState) (t : List Event) → AddsAlike (running_step w world P) r t
  unfolding running_step
  running_step-alike r t =
      go (host_turn (nat_eq r.machine.ip r.machine.gate) (call_under_way r.hosts) (is_due world.script r.script))
    where
      by : Bool → RunState → RunState
      by b q = if b then host_step w world P q else instruction_step w world P q

      go : (b : Bool) → by b (told t r) ≡ told (t ++ (by b (told [] r)).trace) (by b (told [] r))
      go true = host_step-alike r t
      go false = instruction_step-alike r t

  pub run_step-alike : (r : RunState) (t : List Event) → AddsAlike (run_step w world P) r t
  unfolding run_step
  run_step-alike r t = go r.ending
    where
      go : (e : Ending)
          → step_if w world P (told t r) e ≡ told (t ++ (step_if w world P (told [] r) e).trace) (step_if w world P (told [] r) e)
      go ending.Running = running_step-alike r t
      go (ending.Finished v) = none-after r t
      go (ending.Raised x) = none-after r t
      go (ending.Mismatch x) = none-after r t
      go ending.ScriptEnd = none-after r t
