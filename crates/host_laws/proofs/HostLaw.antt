-- The law of the host's steps at a width, whole: where the neutral machine's host step isn't stuck, a run that stands for the
-- configuration stands for what the step leaves. Typing enters by one fact alone: the stack has room before and after the step.
use Rattle.host_laws.proofs.Common.{◌≡◌, ℕ, ◌≤◌, Bool, true, false, List, [], ◌∷◌, length, Some, None, refl, sym, ap, ◌∙◌, subst, AllZip}
use Rattle.host_laws.proofs.Common.{option_map, same_Some, none-some, IsWidth, View, Calls, GoesOn, IsDue, Asks, return_view, host_plan}
use Rattle.host_laws.proofs.Common.{host_step, Placement, stack_bytes, IsPlacement, NativeCall, NoCall, Asked, Accepted, copied, is_empty}
use Rattle.host_laws.proofs.Common.{RunState, Seen, Spot, Frame, Function, Host, Config, hosts, call_under_way, lent_there, writes_there}
use Rattle.host_laws.proofs.Common.{slots_asked, neutral_host_step, addresses, total, Value, ScriptGiven, CallShows, Stands, Neutral, Shows}
use Rattle.host_laws.proofs.Common.{World, WorldFits, if_some, PlanFits, some_of_map}
use Rattle.host_model.specs.HostSteps.{slots_asked as numbers_asked, call_under_way as marks_under_way}
use Rattle.host_model.specs.HostPlans.{is_due}
use Rattle.neutral_machine.specs.NeutralHost.{host_view, return_seen, call_seen, asking_at, result_of, performed}
use Rattle.host_laws.proofs.{Plans.call_fits, Plans.due_fits, Plans.next_fits, Plans.slots_shown, Replies.marks_show}
use Rattle.host_laws.proofs.Steps.{host_step_stands}
use Rattle.note_types.specs.declared.spot.Spot.TheVariants as spot

module _ (w : ℕ) (world : World) (P : Placement) (mapped : ℕ → ℕ) (h : IsWidth w) (ok : WorldFits world) (pl : IsPlacement w world P) where
  returns_fit : (a : Config) (r : RunState) (fs : List Frame) (v : View) → a.frames ≡ fs → return_seen world a fs ≡ Some v
      → PlanFits w world P a r (host_plan world a.script v)
  unfolding host_plan
  returns_fit a r [] v at e = absurd (none-some v e)
  returns_fit a r (Function f ∷ fs) v at e = absurd (none-some v e)
  returns_fit a r (Host k ∷ fs) v at e =
      let q = some_of_map (return_view k.notified (is_empty (hosts fs)) k.func) (result_of world a k.func) v e in
      subst (λ (u : View). PlanFits w world P a r (host_plan world a.script u)) q.2 (by k.notified (is_empty (hosts fs)) q.0)
    where
      by : (n b : Bool) (t : Value) → PlanFits w world P a r (host_plan world a.script (return_view n b k.func t))
      by true b t = record { frame = k; rest = fs; is = at }
      by false true t = record { frame = k; rest = fs; is = at }
      by false false t = record { frame = k; rest = fs; is = at }

  calls_fit : (a : Config) (r : RunState) → total w a.frames ≤ stack_bytes w world.notes → Stands w world P mapped a r
      → ScriptGiven world.notes world.script → (c : NativeCall Neutral) → call_under_way a.frames ≡ c
      → (v : View) → call_seen world a c ≡ Some v → total w (performed world a
      (host_plan world a.script v)).frames ≤ stack_bytes w world.notes → PlanFits w world P a r (host_plan world a.script v)
  unfolding host_plan
  calls_fit a r room st given NoCall at v e after =
      subst (λ (u : View). total w (performed world a (host_plan world a.script u)).frames ≤ stack_bytes w world.notes
      → PlanFits w world P a r (host_plan world a.script u))
      (if_some (is_due world.script a.script) (IsDue (length (hosts a.frames))) v e).1
      (due_fits w world P mapped h ok pl a r given) after
  calls_fit a r room st given (Accepted entry callbacks slots) at v e after =
      let q = if_some (lent_there world a.frames entry slots) (GoesOn entry callbacks (length (hosts a.frames))
      (writes_there world a entry)) v e in
      subst (λ (u : View). total w (performed world a (host_plan world a.script u)).frames ≤ stack_bytes w world.notes
      → PlanFits w world P a r (host_plan world a.script u)) q.1
      (next_fits w world P mapped h ok pl a r entry callbacks (writes_there world a entry) given
      (ap (λ (c : NativeCall Neutral). lent_there world a.frames entry (copied c)) at ∙ q.0)) after
  calls_fit a r room st given (Asked place t) at v e after =
      let q = some_of_map (Calls place) (asking_at world a place t) v e in
      subst (λ (u : View). PlanFits w world P a r (host_plan world a.script u)) q.2
      (call_fits w world P mapped h ok pl a r place q.0 given (λ g args is. shown (marks_under_way r.hosts) refl g args (q.1 ∙ ap Some is)))
    where
      shown : (d : NativeCall ℕ) → marks_under_way r.hosts ≡ d → (g : ℕ) (args : List Seen)
          → asking_at world a place t ≡ Some (Asks g None args)
          → AllZip (Shows w (addresses w world.notes P a.frames)) (slots_asked world a (call_under_way a.frames))
          (numbers_asked w world r (marks_under_way r.hosts))
      shown d eq g args asked =
          subst (λ (c : NativeCall Neutral). AllZip (Shows w (addresses w world.notes P a.frames)) (slots_asked world a c)
          (numbers_asked w world r (marks_under_way r.hosts))) (sym at)
          (subst (λ (y : NativeCall ℕ). AllZip (Shows w (addresses w world.notes P a.frames)) (slots_asked world a (Asked place t))
          (numbers_asked w world r y)) (sym eq)
          (by d (subst (λ (y : NativeCall ℕ). CallShows w (addresses w world.notes P a.frames) (Asked place t) y) eq
          (subst (λ (c : NativeCall Neutral). CallShows w (addresses w world.notes P a.frames) c (marks_under_way r.hosts)) at
          (marks_show w world P mapped h ok pl (addresses w world.notes P a.frames) a.frames r.hosts st.hosts)))))
        where
          by : (d : NativeCall ℕ) → CallShows w (addresses w world.notes P a.frames) (Asked place t) d
              → AllZip (Shows w (addresses w world.notes P a.frames)) (slots_asked world a (Asked place t)) (numbers_asked w world r d)
          by NoCall s = absurd s
          by (Accepted f m xs) s = absurd s
          by (Asked place' x) s = slots_shown w world P mapped h ok pl a r room st place place' x t g args s.0 asked

  -- what the host plans can be carried out alike
  plans_fit : (a : Config) (r : RunState) → total w a.frames ≤ stack_bytes w world.notes → Stands w world P mapped a r
      → ScriptGiven world.notes world.script
      → (s : Spot) (v : View) → host_view world a s ≡ Some v → total w
      (performed world a (host_plan world a.script v)).frames ≤ stack_bytes w world.notes
      → PlanFits w world P a r (host_plan world a.script v)
  unfolding host_view
  plans_fit a r room st given spot.Gate v e after = returns_fit a r a.frames v refl e
  plans_fit a r room st given (spot.Place p) v e after = calls_fit a r room st given (call_under_way a.frames) refl v e after
  plans_fit a r room st given (spot.Wild x) v e after = calls_fit a r room st given (call_under_way a.frames) refl v e after

  -- what the step leaves is what the plan leaves
  leaves : (a b : Config) (v : View) → host_view world a a.spot ≡ Some v → neutral_host_step world a ≡ Some b
      → performed world a (host_plan world a.script v) ≡ b
  unfolding neutral_host_step
  leaves a b v seen e =
      same_Some (performed world a (host_plan world a.script v)) b
      (ap (option_map (λ (u : View). performed world a (host_plan world a.script u))) (sym seen) ∙ e)

  -- The law of the host's steps.
  pub host_law : (a b : Config) (r : RunState) → total w a.frames ≤ stack_bytes w world.notes → total w b.frames ≤ stack_bytes w world.notes
      → ScriptGiven world.notes world.script
      → Stands w world P mapped a r → neutral_host_step world a ≡ Some b → Stands w world P mapped b (host_step w world P r)
  host_law a b r room after given st e =
      host_step_stands w world P mapped h ok pl a b r room st
      (λ v seen. plans_fit a r room st given a.spot v seen (subst (λ (c : Config). total w c.frames ≤ stack_bytes w world.notes)
      (sym (leaves a b v seen e)) after))
      e
