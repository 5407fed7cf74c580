-- The induction: at either width the run of a typed program meets the invariant after every number of steps. It cites the laws of the
-- steps and no row of the rules. So all runs show one behaviour, and the runs at both widths are the same.
use Rattle.twin_run.proofs.Common.{IfOk, Result, Ok, Err, ◌≡◌, ◌↔◌, ℕ, zero, suc, Option, Some, None, refl, sym, ap, ◌∙◌, subst, inl, inr}
use Rattle.twin_run.proofs.Common.{same_Some, IsWidth, IsNotes, Ending, Notes, IsImage, AreBytes, mapped, Image, Config, spot_of}
use Rattle.twin_run.proofs.Common.{neutral_start, Placement, IsPlacement, own_placement, RunState, World, static_cells, config_after}
use Rattle.twin_run.proofs.Common.{run_after, run_of, world_of, Typed, DifferAt, nowhere, first, states_of, IsTypedWorld, Script, IsScript}
use Rattle.twin_run.proofs.Common.{Accepted, List, [], ◌∷◌, Spot, ◌≢◌}
use Rattle.std.proofs.Common.{option_and_then}
use Rattle.host_laws.proofs.SeenStands.{spot_is}
use Rattle.instruction_laws.proofs.Worlds.{world_meets}
use Rattle.neutral_machine.specs.{NeutralRuns.neutral_run, NeutralRuns.neutral_step, NeutralRun.neutral_instruction}
use Rattle.step_sound.specs.StepKinds.{NextStep, plain, native_call, thunk, call, enter, reply, notify, leaving, resuming, last}
use Rattle.step_sound.specs.{Invariant.Invariant, Invariant.RunHolds, StepLaws.StepKeeps}
use Rattle.step_sound.proofs.Keeping.{plain_keeps, native_call_keeps, thunk_keeps, call_keeps, enter_keeps, reply_keeps, notify_keeps}
use Rattle.step_sound.proofs.Keeping.{leaving_keeps, resuming_keeps, last_keeps, ended_keeps, next_step}
use Rattle.step_sound.proofs.{Keeping.start_meets, Read.read_is_run}
use Rattle.host_model.specs.Values.{Neutral as NeutralValue}
use Rattle.neutral_machine.specs.Config.{Frame, Function, Host, call_under_way, depth}
use Rattle.neutral_machine.specs.Memory.{memory_of}
use Rattle.invariant_laws.specs.{Endings.RaisesOnlyDivideError, Holds.GateHolds, Holds.TopHolds}
use Rattle.invariant_laws.proofs.{Calling.arguments_raw, Same.cells_of_live}
use Rattle.typing_laws.proofs.Rooms.{sound_room}
use Rattle.plain_check.specs.declared.verdict.Verdict.{Verdict, TheVariants.Neutral}
use Rattle.twin_run.specs.{Headline.SameAtBothWidths, TypedRuns.MachinesFollow, TypedRuns.TypedRunsAreSame, TypedRuns.OwnTypedRunsAreSame}
use Rattle.twin_run.specs.{TypedRuns.TypedNeverDiffer, TypedRuns.TypedRunsAsOne, Behaviour.Behaviour, Behaviour.IsShown}
use Rattle.twin_run.specs.Headline.{AreSameAfter, RunsAsOne}
use Rattle.twin_run.proofs.{Places.typed_states, Read.read_is_placed, Read.typed_is_read}
use Rattle.twin_run.proofs.CellsSeen.{WasGiven, cell_shown, lents_shown, neutral_cell, neutral_lent}
use Rattle.note_types.specs.declared.ending.Ending.TheVariants as ending
use Rattle.note_types.specs.declared.spot.Spot.TheVariants as spot

-- what a configuration shows
abbrev behaviour_of : World → Config → Behaviour
behaviour_of world a = record {
  spot = a.spot;
  events = a.trace;
  ending = a.ending;
  cells = neutral_cell world a;
  lent = neutral_lent world a (call_under_way a.frames);
}

-- ---- one width

module _ (w : ℕ) (image : Image) (world : World) (P : Placement) (h : IsWidth w) (t : IsTypedWorld image world)
    (p : IsPlacement w world P) where
  run : RunHolds w image world P (states_of image world.notes)
  run = record { width = h; read = typed_is_read image world t; placement = p; rules = typed_states image world t.notes t.typed }

  step_keeps : (a : Config) (r : RunState) → Invariant w image world P (states_of image world.notes) a r → a.ending ≡ ending.Running
      → NextStep image world a → StepKeeps w image world P (states_of image world.notes) a r
  step_keeps a r v on (plain k) = plain_keeps w image world P (states_of image world.notes) run a r v on k
  step_keeps a r v on (native_call k) = native_call_keeps w image world P (states_of image world.notes) run a r v on k
  step_keeps a r v on (thunk k) = thunk_keeps w image world P (states_of image world.notes) run a r v on k
  step_keeps a r v on (call k) = call_keeps w image world P (states_of image world.notes) run a r v on k
  step_keeps a r v on (enter k) = enter_keeps w image world P (states_of image world.notes) run a r v on k
  step_keeps a r v on (reply k) = reply_keeps w image world P (states_of image world.notes) run a r v on k
  step_keeps a r v on (notify k) = notify_keeps w image world P (states_of image world.notes) run a r v on k
  step_keeps a r v on (leaving k) = leaving_keeps w image world P (states_of image world.notes) run a r v on k
  step_keeps a r v on (resuming k) = resuming_keeps w image world P (states_of image world.notes) run a r v on k
  step_keeps a r v on (last k) = last_keeps w image world P (states_of image world.notes) run a r v on k

  -- whether it goes on or has ended
  any_step : (a : Config) (r : RunState) → Invariant w image world P (states_of image world.notes) a r
      → StepKeeps w image world P (states_of image world.notes) a r
  any_step a r v = go a.ending refl
    where
      ended : (e : Ending) → a.ending ≡ e → (e ≡ ending.Running → ⊥) → StepKeeps w image world P (states_of image world.notes) a r
      ended e is n = ended_keeps w image world P (states_of image world.notes) run a r v (λ on. n (sym is ∙ on))

      go : (e : Ending) → a.ending ≡ e → StepKeeps w image world P (states_of image world.notes) a r
      go ending.Running is = step_keeps a r v is (next_step w image world P (states_of image world.notes) run a r v is)
      go (ending.Finished x) is = ended (ending.Finished x) is (λ e. absurd (cc))
      go (ending.Raised x) is = ended (ending.Raised x) is (λ e. absurd (cc))
      go (ending.Mismatch x) is = ended (ending.Mismatch x) is (λ e. absurd (cc))
      go ending.ScriptEnd is = ended ending.ScriptEnd is (λ e. absurd (cc))

  -- after each number of steps
  pub follows : (k : ℕ) → (a : Config) × (config_after world image k ≡ Some a)
      × Invariant w image world P (states_of image world.notes) a (run_of w world P image k)
  unfolding neutral_run run_after
  follows zero = (neutral_start world (static_cells world image), refl, start_meets w image world P (states_of image world.notes) run)
  follows (suc k) =
      let x = follows k in
      let s = any_step x.0 (run_of w world P image k) x.2 in
      (s.after, ap (option_and_then (neutral_step world (neutral_instruction world image))) x.1 ∙ s.step, s.invariant)

  -- where the run stands is where the neutral machine does
  pub spot_shown : (a : Config) (r : RunState) → Invariant w image world P (states_of image world.notes) a r
      → spot_of world P r.machine ≡ a.spot
  spot_shown a r v = spot_is w world P (mapped image P.image) h
      (world_meets image world (read_is_run image world (typed_is_read image world t))) p a r v.standing.stands

  -- ---- what it shows

  -- what a native call was given that is under way while the run goes on
  was_given : (a : Config) (r : RunState) → Invariant w image world P (states_of image world.notes) a r → a.ending ≡ ending.Running
      → (entry callbacks : ℕ) (values : List NeutralValue) → call_under_way a.frames ≡ Accepted entry callbacks values
      → WasGiven world (memory_of world a) entry values
  was_given a r v on entry callbacks values under = by_spot a.spot refl
    where
      top : (p : ℕ) (fs : List Frame) → TopHolds world (states_of image world.notes) a (Accepted entry callbacks values) p fs
          → WasGiven world (memory_of world a) entry values
      top p [] x = absurd x
      top p (Host k ∷ fs) x = absurd x
      top p (Function f ∷ fs) x = record {
        depth = depth fs;
        call = x.call;
        entry_is = x.entry_is;
        signature = x.signature;
        there = x.there;
        fit = arguments_raw world.notes (memory_of world a) (depth fs) x.signature.params values x.args_fit;
      }

      away : a.spot ≢ spot.Gate → WasGiven world (memory_of world a) entry values
      away n =
          let x = v.at_place on n in
          top x.place a.frames (subst (λ c. TopHolds world (states_of image world.notes) a c x.place a.frames) under x.top)

      gate : (fs : List Frame) → GateHolds world a fs → call_under_way fs ≡ Accepted entry callbacks values
          → WasGiven world (memory_of world a) entry values
      gate [] x e = absurd x
      gate (Function f ∷ fs) x e = absurd x
      gate (Host k ∷ fs) x e = let none = sym x.0 ∙ e in absurd (cc)

      by_spot : (s : Spot) → a.spot ≡ s → WasGiven world (memory_of world a) entry values
      by_spot spot.Gate e = gate a.frames (v.at_gate on e) under
      by_spot (spot.Place p) e = away (λ g. let other = sym e ∙ g in absurd (cc))
      by_spot (spot.Wild x) e = away (λ g. let other = sym e ∙ g in absurd (cc))

  -- the run shows what the configuration beside it does
  pub shows : (a : Config) (r : RunState) → Invariant w image world P (states_of image world.notes) a r
      → IsShown w world P r (behaviour_of world a)
  shows a r v =
      let st = v.standing.stands in
      let read = typed_is_read image world t in
      let fits = cells_of_live world.notes (memory_of world a) v.sound.sound.cells in
      let room = sound_room w world a h v.sound.sound in
      record {
        spot = spot_shown a r v;
        events = st.trace;
        ending = st.ending;
        cells = cell_shown w image world P h read p a r st fits room;
        lent = λ on. lents_shown w image world P h read p a r st fits room (was_given a r v (sym st.ending ∙ on));
      }

pub machines_follow : MachinesFollow
machines_follow w image world P k h t p = follows w image world P h t p k

-- ---- one behaviour

pub typed_runs_as_one : TypedRunsAsOne
typed_runs_as_one image world t = (
  λ k. behaviour_of world (beside k).0,
  record { shown = shown; raised = λ k. (beside k).2.sound.raised },
)
  where
    placed : IsPlacement 4 world (own_placement 4 world)
    placed = read_is_placed 4 image world (inl refl) (typed_is_read image world t)

    -- the configuration, beside the run at 4 bytes an address
    beside : (k : ℕ) → (a : Config) × (config_after world image k ≡ Some a)
        × Invariant 4 image world (own_placement 4 world) (states_of image world.notes) a (run_of 4 world (own_placement 4 world) image k)
    beside k = follows 4 image world (own_placement 4 world) (inl refl) t placed k

    shown : (w : ℕ) (P : Placement) (k : ℕ) → IsWidth w → IsPlacement w world P
        → IsShown w world P (run_of w world P image k) (behaviour_of world (beside k).0)
    shown w P k h p =
        let x = follows w image world P h t p k in
        let one : x.0 ≡ (beside k).0 = same_Some x.0 (beside k).0 (sym x.1 ∙ (beside k).1) in
        subst (λ a. IsShown w world P (run_of w world P image k) (behaviour_of world a)) one
        (shows w image world P h t p x.0 (run_of w world P image k) x.2)

-- ---- both widths

-- runs that show one behaviour are the same
same_as_one : (image : Image) (world : World) (P Q : Placement) (k : ℕ) (b : Behaviour) → IsShown 4 world P (run_of 4 world P image k) b
    → IsShown 8 world Q (run_of 8 world Q image k) b → RaisesOnlyDivideError b.ending → AreSameAfter world image P Q k
same_as_one image world P Q k b x y raised = record {
  same = record { spot = x.spot ∙ sym y.spot; trace = x.events ∙ sym y.events; ending = x.ending ∙ sym y.ending };
  cells = λ o i f. x.cells o i f ∙ sym (y.cells o i f);
  lent = λ on j. x.lent on j ∙ sym (y.lent (y.ending ∙ sym x.ending ∙ on) j);
  raised = subst RaisesOnlyDivideError (sym x.ending) raised;
}

pub typed_runs_are_same : TypedRunsAreSame
typed_runs_are_same image world P Q k t p q =
    let u = typed_runs_as_one image world t in
    same_as_one image world P Q k (u.0 k) (u.1.shown 4 P k (inl refl) p) (u.1.shown 8 Q k (inr refl) q) (u.1.raised k)

pub own_typed_runs_are_same : OwnTypedRunsAreSame
own_typed_runs_are_same image world k t =
    let r = typed_is_read image world t in
    typed_runs_are_same image world (own_placement 4 world) (own_placement 8 world) k t (read_is_placed 4 image world (inl refl) r)
    (read_is_placed 8 image world (inr refl) r)

pub typed_never_differ : TypedNeverDiffer
typed_never_differ image world limit differ t = (
  only differ,
  λ e. subst (DifferAt image world limit) (sym e)
      (nowhere (λ k l. (own_typed_runs_are_same image world k t).same)),
)
  where
    only : (d : Option ℕ) → DifferAt image world limit d → d ≡ None
    only _ (nowhere all) = refl
    only _ (first k l n before) = absurd (n (own_typed_runs_are_same image world k t).same)

-- ---- what `check` calls neutral

-- the world of a run of it with a script
typed_world : (image : Image) (notes : Notes) → IsImage image → AreBytes image → IsNotes notes → Typed image notes → (script : Script)
    → IsScript notes script → IsTypedWorld image (world_of image notes script)
typed_world image notes i b n typed script s = record {
  well_formed = i;
  bytes = b;
  size = refl;
  notes = n;
  script = s;
  typed = typed;
}

pub neutral_as_one : (image : Image) (notes : Notes) → IsImage image → AreBytes image → IsNotes notes → Typed image notes
    → RunsAsOne image notes
neutral_as_one image notes i b n typed script s =
    typed_runs_as_one image (world_of image notes script) (typed_world image notes i b n typed script s)

pub neutral_is_same : (image : Image) (notes : Notes) → IsImage image → AreBytes image → IsNotes notes → Typed image notes
    → SameAtBothWidths image notes
neutral_is_same image notes i b n typed script P Q k s p q =
    typed_runs_are_same image (world_of image notes script) P Q k (typed_world image notes i b n typed script s) p q

-- so where a verdict is neutral exactly where the image is typed
pub verdict_is_same : {E : Type 0} (image : Image) (notes : Notes) → IsImage image → AreBytes image → IsNotes notes → (r : Result Verdict E)
    → IfOk r (λ v. v ≡ Neutral ↔ Typed image notes) → IfOk r (λ v. v ≡ Neutral → SameAtBothWidths image notes)
verdict_is_same image notes i b n (Ok v) exact = λ e. neutral_is_same image notes i b n (exact.0 e)
verdict_is_same image notes i b n (Err x) exact = tt

pub verdict_as_one : {E : Type 0} (image : Image) (notes : Notes) → IsImage image → AreBytes image → IsNotes notes → (r : Result Verdict E)
    → IfOk r (λ v. v ≡ Neutral ↔ Typed image notes) → IfOk r (λ v. v ≡ Neutral → RunsAsOne image notes)
verdict_as_one image notes i b n (Ok v) exact = λ e. neutral_as_one image notes i b n (exact.0 e)
verdict_as_one image notes i b n (Err x) exact = tt
