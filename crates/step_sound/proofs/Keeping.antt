-- Each kind of step keeps the invariant.
use Rattle.step_sound.proofs.Common.{◌≡◌, ℕ, Bool, true, false, List, [], ◌∷◌, Option, Some, None, refl, sym, ap, ap₂, ◌∙◌, subst}
use Rattle.step_sound.proofs.Common.{slice_get, Insn, world_meets, Stands, Ending, Spot, mapped, Image, FunctionFrame, HostFrame, Frame}
use Rattle.step_sound.proofs.Common.{Function, Host, Config, call_under_way, host_turn, is_due, is_gate, Placement, NativeCall, NoCall}
use Rattle.step_sound.proofs.Common.{Asked, RunState, Neutral, World, RunsAt, TopHolds, GateHolds, SpotHolds, Holds, States, static_cells}
use Rattle.std.proofs.Common.{◌≢◌}
use Rattle.host_laws.proofs.Starting.{run_starts}
use Rattle.invariant_laws.specs.Laws.{states_by}
use Rattle.invariant_laws.proofs.Starting.{start_holds}
use Rattle.note_types.specs.declared.script.Callback.{Callback}
use Rattle.neutral_machine.specs.{NeutralRuns.neutral_start, NeutralRuns.neutral_step, NeutralRuns.step_if, NeutralRun.neutral_instruction}
use Rattle.host_model.specs.{Progress.Accepted, Runs.run_after, Runs.run_of, Runs.run_step}
use Rattle.step_sound.specs.StepKinds.{AtInstruction, IsPlain, IsNativeCall, IsThunk, IsCall, IsEnter, IsReply, IsNotify, IsLeaving}
use Rattle.step_sound.specs.StepKinds.{IsResuming, IsLast, NextStep, plain, native_call, thunk, call, enter, reply, notify, leaving}
use Rattle.step_sound.specs.StepLaws.{StepKeeps, PlainStepsKeep, NativeCallsKeep, ThunksKeep, CallsKeep, EntersKeep, RepliesKeep}
use Rattle.step_sound.specs.{Invariant.Invariant, Invariant.RunHolds, Invariant.RunsAtPlace, StepKinds.resuming, StepKinds.last}
use Rattle.step_sound.specs.{StepKinds.calls_native, StepKinds.makes_thunk, StepLaws.NotifiesKeep, StepLaws.LeavingKeeps}
use Rattle.step_sound.specs.StepLaws.{ResumingKeeps, LastKeeps, StartMeets, NextStepIsThere}
use Rattle.step_sound.proofs.{Read.read_is_run, Read.read_is_run_at, Read.read_starts, Relocated.bytes_loaded}
use Rattle.step_sound.proofs.{RunSteps.run_step_keeps_standing, StaticFits.statics_fit, Statics.statics_show, Steps.StepHolds}
use Rattle.step_sound.proofs.{Steps.host_keeps, Steps.code_keeps, Steps.code_there, Steps.state_below, Worlds.run_world}
use Rattle.note_types.specs.declared.ending.Ending.TheVariants as ending
use Rattle.note_types.specs.declared.spot.Spot.TheVariants as spot

module _ (w : ℕ) (image : Image) (world : World) (P : Placement) (states : States) (run : RunHolds w image world P states) where
  -- ---- the five parts

  pub holds_of : (a : Config) (r : RunState) → Invariant w image world P states a r → Holds world states a
  holds_of a r v = record {
    served = v.standing.served;
    thunks = v.standing.thunks;
    sound = v.sound.sound;
    well = λ on. record { top = top on a.spot refl; waiting = v.waiting on };
    raised = v.sound.raised;
  }
    where
      placed : RunsAtPlace world states a → SpotHolds world states a a.spot
      placed p = subst (SpotHolds world states a) (sym p.spot) p.top

      top : a.ending ≡ ending.Running → (s : Spot) → a.spot ≡ s → SpotHolds world states a a.spot
      top on spot.Gate e = subst (SpotHolds world states a) (sym e) (v.at_gate on e)
      top on (spot.Place p) e = placed (v.at_place on (λ g. absurd (place_gate (sym e ∙ g))))
        where
          place_gate : spot.Place p ≢ spot.Gate
          place_gate h = absurd (cc)
      top on (spot.Wild x) e = placed (v.at_place on (λ g. absurd (wild_gate (sym e ∙ g))))
        where
          wild_gate : spot.Wild x ≢ spot.Gate
          wild_gate h = absurd (cc)

  pub invariant_of : (a : Config) (r : RunState) → Stands w world P (mapped image P.image) a r → Holds world states a
      → Invariant w image world P states a r
  invariant_of a r s h = record {
    standing = record { stands = s; served = h.served; thunks = h.thunks };
    at_place = λ on n. placed a.spot refl n (h.well on).top;
    at_gate = λ on e. subst (SpotHolds world states a) e (h.well on).top;
    waiting = λ on. (h.well on).waiting;
    sound = record { sound = h.sound; raised = h.raised };
  }
    where
      placed : (s : Spot) → a.spot ≡ s → a.spot ≢ spot.Gate → SpotHolds world states a s → RunsAtPlace world states a
      placed (spot.Place p) e n t = record { place = p; spot = e; top = t }
      placed spot.Gate e n t = absurd (n e)
      placed (spot.Wild x) e n t = absurd t

  -- ---- a step

  keeps : (a : Config) (r : RunState) → Invariant w image world P states a r → a.ending ≡ ending.Running
      → StepHolds image world states run.read run.rules a → StepKeeps w image world P states a r
  unfolding neutral_step
  keeps a r v on s =
      let step = ap (step_if world (neutral_instruction world image) a) on ∙ s.is in
      record {
        after = s.after;
        step = step;
        invariant = invariant_of s.after (run_step w world P r)
            (run_step_keeps_standing w image world P a s.after r (read_is_run_at w image world P run.width run.read run.placement)
            (λ on. s.well w run.width) v.standing.stands step)
            s.holds;
      }

  -- a run that ended stays as it is
  pub ended_keeps : (a : Config) (r : RunState) → Invariant w image world P states a r → (a.ending ≡ ending.Running → ⊥)
      → StepKeeps w image world P states a r
  unfolding neutral_step
  ended_keeps a r v n =
      let step = stays a.ending refl in
      record {
        after = a;
        step = step;
        invariant = invariant_of a (run_step w world P r)
            (run_step_keeps_standing w image world P a a r (read_is_run_at w image world P run.width run.read run.placement)
            (λ on. absurd (n on)) v.standing.stands step)
            (holds_of a r v);
      }
    where
      stays : (e : Ending) → a.ending ≡ e → step_if world (neutral_instruction world image) a e ≡ Some a
      stays ending.Running is = absurd (n is)
      stays (ending.Finished x) is = refl
      stays (ending.Raised x) is = refl
      stays (ending.Mismatch x) is = refl
      stays ending.ScriptEnd is = refl

  -- a step of the host
  host : (a : Config) (r : RunState) → Invariant w image world P states a r → a.ending ≡ ending.Running
      → host_turn (is_gate a.spot) (call_under_way a.frames) (is_due world.script a.script) ≡ true → StepKeeps w image world P states a r
  host a r v on t = keeps a r v on (host_keeps image world states run.read run.rules a (holds_of a r v) on t)

  -- an instruction
  code : (a : Config) (r : RunState) (i : Insn) → Invariant w image world P states a r → a.ending ≡ ending.Running
      → AtInstruction image world a i → StepKeeps w image world P states a r
  code a r i v on at =
      keeps a r v on (code_keeps image world states run.read run.rules a (holds_of a r v) on
      (ap₂ (λ s (n : NativeCall Neutral). host_turn (is_gate s) n (is_due world.script a.script)) at.spot at.under ∙ at.not_due))

  within : (a : Config) (r : RunState) → Invariant w image world P states a r → a.ending ≡ ending.Running
      → (p : ℕ) (n k : ℕ) (vs : List Neutral) → a.spot ≡ spot.Place p → call_under_way a.frames ≡ Accepted n k vs
      → StepKeeps w image world P states a r
  within a r v on p n k vs es en =
      host a r v on (ap₂ (λ s (c : NativeCall Neutral). host_turn (is_gate s) c (is_due world.script a.script)) es en)

  gate : (a : Config) (r : RunState) → Invariant w image world P states a r → a.ending ≡ ending.Running → a.spot ≡ spot.Gate
      → StepKeeps w image world P states a r
  gate a r v on es = host a r v on (ap (λ s. host_turn (is_gate s) (call_under_way a.frames) (is_due world.script a.script)) es)

  -- ---- each kind

  pub plain_keeps : (a : Config) (r : RunState) → Invariant w image world P states a r → a.ending ≡ ending.Running → IsPlain image world a
      → StepKeeps w image world P states a r
  plain_keeps a r v on k = code a r k.insn v on k.at

  pub native_call_keeps : (a : Config) (r : RunState) → Invariant w image world P states a r → a.ending ≡ ending.Running
      → IsNativeCall image world a → StepKeeps w image world P states a r
  native_call_keeps a r v on k = code a r k.insn v on k.at

  pub thunk_keeps : (a : Config) (r : RunState) → Invariant w image world P states a r → a.ending ≡ ending.Running → IsThunk image world a
      → StepKeeps w image world P states a r
  thunk_keeps a r v on k = code a r k.insn v on k.at

  pub call_keeps : (a : Config) (r : RunState) → Invariant w image world P states a r → a.ending ≡ ending.Running → IsCall image world a
      → StepKeeps w image world P states a r
  call_keeps a r v on k =
      host a r v on (ap₂ (λ s (c : NativeCall Neutral). host_turn (is_gate s) c (is_due world.script a.script)) k.spot k.under)

  pub enter_keeps : (a : Config) (r : RunState) → Invariant w image world P states a r → a.ending ≡ ending.Running → IsEnter image world a
      → StepKeeps w image world P states a r
  enter_keeps a r v on k = within a r v on k.within.next k.within.entry k.callbacks k.within.args k.within.spot k.within.under

  pub reply_keeps : (a : Config) (r : RunState) → Invariant w image world P states a r → a.ending ≡ ending.Running → IsReply image world a
      → StepKeeps w image world P states a r
  reply_keeps a r v on k = within a r v on k.within.next k.within.entry k.callbacks k.within.args k.within.spot k.within.under

  pub notify_keeps : (a : Config) (r : RunState) → Invariant w image world P states a r → a.ending ≡ ending.Running → IsNotify image world a
      → StepKeeps w image world P states a r
  notify_keeps a r v on k =
      host a r v on (ap₂ (λ s (c : NativeCall Neutral). host_turn (is_gate s) c (is_due world.script a.script)) k.spot k.under ∙ k.due)

  pub leaving_keeps : (a : Config) (r : RunState) → Invariant w image world P states a r → a.ending ≡ ending.Running
      → IsLeaving image world a → StepKeeps w image world P states a r
  leaving_keeps a r v on k = gate a r v on k.spot

  pub resuming_keeps : (a : Config) (r : RunState) → Invariant w image world P states a r → a.ending ≡ ending.Running
      → IsResuming image world a → StepKeeps w image world P states a r
  resuming_keeps a r v on k = gate a r v on k.spot

  pub last_keeps : (a : Config) (r : RunState) → Invariant w image world P states a r → a.ending ≡ ending.Running → IsLast image world a
      → StepKeeps w image world P states a r
  last_keeps a r v on k = gate a r v on k.spot

  -- ---- the kind of the next step

  pub next_step : (a : Config) (r : RunState) → Invariant w image world P states a r → a.ending ≡ ending.Running → NextStep image world a
  next_step a r v on = by_spot a.spot refl ((holds_of a r v).well on).top
    where
      by_insn : (i : Insn) → AtInstruction image world a i → (b c : Bool) → calls_native i ≡ b → makes_thunk i ≡ c → NextStep image world a
      by_insn i at true c eb ec = native_call (record { insn = i; at = at; call = eb })
      by_insn i at false true eb ec = thunk (record { insn = i; at = at; thunk = ec })
      by_insn i at false false eb ec = plain (record { insn = i; at = at; no_call = eb; no_thunk = ec })

      by_mark : (h : HostFrame) (f : Frame) (gs : List Frame) → a.spot ≡ spot.Gate → a.frames ≡ Host h ∷ f ∷ gs → (n : Bool)
          → h.notified ≡ n → NextStep image world a
      by_mark h f gs es ef true en = resuming (record { host = h; below = f; rest = gs; spot = es; frames = ef; notified = en })
      by_mark h f gs es ef false en = leaving (record { host = h; below = f; rest = gs; spot = es; frames = ef; notified = en })

      at_gate : (gs : List Frame) → a.spot ≡ spot.Gate → a.frames ≡ gs → GateHolds world a gs → NextStep image world a
      at_gate [] es ef g = absurd g
      at_gate (Function f ∷ gs) es ef g = absurd g
      at_gate (Host h ∷ []) es ef g = last (record { host = h; spot = es; frames = ef })
      at_gate (Host h ∷ f ∷ gs) es ef g = by_mark h f gs es ef h.notified refl

      callback : (p n k : ℕ) (vs : List Neutral) (c : _) → a.spot ≡ spot.Place p → call_under_way a.frames ≡ Accepted n k vs
          → slice_get world.script.call n ≡ Some c → (o : Option Callback) → slice_get c.enter k ≡ o → NextStep image world a
      callback p n k vs c es en ec (Some b) eo = enter (record {
        call = c;
        callbacks = k;
        within = record { next = p; entry = n; args = vs; spot = es; under = en; entry_is = ec };
        callback = b;
        left = eo;
      })
      callback p n k vs c es en ec None eo = reply (record {
        call = c;
        callbacks = k;
        within = record { next = p; entry = n; args = vs; spot = es; under = en; entry_is = ec };
        none_left = eo;
      })

      by_due : (p : ℕ) (f : FunctionFrame) (fs : List Frame) → a.spot ≡ spot.Place p → call_under_way a.frames ≡ NoCall
          → RunsAt world states a p f fs → (t : Bool) → is_due world.script a.script ≡ t → NextStep image world a
      by_due p f fs es en x true et = notify (record { place = p; spot = es; under = en; due = et })
      by_due p f fs es en x false et =
          let i = code_there image world states run.read run.rules a p f fs x in
          by_insn i.0 (record { place = p; size = i.1; spot = es; under = en; not_due = et; insn = i.2 })
          (calls_native i.0) (makes_thunk i.0) refl refl

      at_place : (p : ℕ) (gs : List Frame) (n : NativeCall Neutral) → a.spot ≡ spot.Place p → a.frames ≡ gs → call_under_way a.frames ≡ n
          → TopHolds world states a n p gs → NextStep image world a
      at_place p (Function f ∷ fs) NoCall es ef en x =
          by_due p f fs es en x (is_due world.script a.script) refl
      at_place p (Function f ∷ fs) (Asked q u) es ef en x = call (record { next = p; place = q; target = u; spot = es; under = en })
      at_place p (Function f ∷ fs) (Accepted n k vs) es ef en x = callback p n k vs x.call es en x.entry_is (slice_get x.call.enter k) refl
      at_place p [] NoCall es ef en x = absurd x
      at_place p [] (Asked q u) es ef en x = absurd x
      at_place p [] (Accepted n k vs) es ef en x = absurd x
      at_place p (Host h ∷ fs) NoCall es ef en x = absurd x
      at_place p (Host h ∷ fs) (Asked q u) es ef en x = absurd x
      at_place p (Host h ∷ fs) (Accepted n k vs) es ef en x = absurd x

      by_spot : (s : Spot) → a.spot ≡ s → SpotHolds world states a s → NextStep image world a
      by_spot spot.Gate e x = at_gate a.frames e refl x
      by_spot (spot.Place p) e x = at_place p a.frames (call_under_way a.frames) e refl refl x
      by_spot (spot.Wild y) e x = absurd x

  -- ---- the start

  pub start_meets : Invariant w image world P states (neutral_start world (static_cells world image)) (run_of w world P image 0)
  unfolding run_after
  start_meets = let q = read_is_run image world run.read in
      invariant_of (neutral_start world (static_cells world image)) (run_of w world P image 0)
      (run_starts w world P (mapped image P.image) (static_cells world image) run.width (world_meets image world q) run.placement
      (statics_show w image world P run.width q run.read.bytes run.placement) (bytes_loaded image P.image run.read.bytes)
      (read_starts w image world run.read))
      (start_holds world states (run_world image world run.read states run.rules) state_below (static_cells world image)
      (statics_fit image world q run.read.bytes))

-- ---- the laws

pub plain_steps_keep : PlainStepsKeep
plain_steps_keep w image world P map a r h v on k = plain_keeps w image world P (states_by map) h a r v on k

pub native_calls_keep : NativeCallsKeep
native_calls_keep w image world P map a r h v on k = native_call_keeps w image world P (states_by map) h a r v on k

pub thunks_keep : ThunksKeep
thunks_keep w image world P map a r h v on k = thunk_keeps w image world P (states_by map) h a r v on k

pub calls_keep : CallsKeep
calls_keep w image world P map a r h v on k = call_keeps w image world P (states_by map) h a r v on k

pub enters_keep : EntersKeep
enters_keep w image world P map a r h v on k = enter_keeps w image world P (states_by map) h a r v on k

pub replies_keep : RepliesKeep
replies_keep w image world P map a r h v on k = reply_keeps w image world P (states_by map) h a r v on k

pub notifies_keep : NotifiesKeep
notifies_keep w image world P map a r h v on k = notify_keeps w image world P (states_by map) h a r v on k

pub leaving_keeps_all : LeavingKeeps
leaving_keeps_all w image world P map a r h v on k = leaving_keeps w image world P (states_by map) h a r v on k

pub resuming_keeps_all : ResumingKeeps
resuming_keeps_all w image world P map a r h v on k = resuming_keeps w image world P (states_by map) h a r v on k

pub last_keeps_all : LastKeeps
last_keeps_all w image world P map a r h v on k = last_keeps w image world P (states_by map) h a r v on k

pub start_is_met : StartMeets
start_is_met w image world P map h = start_meets w image world P (states_by map) h

pub next_step_is_there : NextStepIsThere
next_step_is_there w image world P map a r h v on = next_step w image world P (states_by map) h a r v on
