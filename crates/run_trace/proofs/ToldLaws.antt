-- A run that is followed, step by step: where it is, the CALLs that are open, and the lines that are told.
use Rattle.std.specs.Prelude.{◌≢◌}
use Rattle.std.proofs.Common.{◌≡◌, ◌⊎◌, ℕ, ◌+◌, ◌-◌, ◌^◌, ◌<◌, ◌≤◌, min, List, [], ◌++◌, inl, inr}
use Rattle.std.proofs.Common.{ap, append_assoc, arith, refl, subst, sym, ◌∙◌}
use Rattle.std.proofs.lemmas.Bool.{cases_lt}
use Rattle.std.proofs.lemmas.List.{append-nil}
use Rattle.host_model.specs.HostSteps.{spot_of}
use Rattle.host_model.specs.Placements.{own_placement}
use Rattle.host_model.specs.RunState.{RunState}
use Rattle.host_model.specs.Runs.{run_step, world_of}
use Rattle.host_model.specs.World.{World}
use Rattle.note_types.specs.declared.ending.Ending.TheVariants.{Running}
use Rattle.note_types.specs.declared.notes.Notes.{Notes}
use Rattle.note_types.specs.declared.script.Script.{Script}
use Rattle.pe_image.specs.Mapped.{mapped}
use Rattle.pe_image.specs.declared.image.Image.{Image}
use Rattle.step_texts.specs.StateTexts.{holdings_text}
use Rattle.step_texts.specs.declared.state.Holdings.{Holdings}
use Rattle.twin_run.specs.Reported.{IsReport, own_run}
use Rattle.twin_run.specs.Runner.{GoesOnFor, IsRunner, steps_on}
use Rattle.twin_run.specs.declared.reports.RunReport.{RunReport}
use Rattle.twin_run.specs.declared.runner.Runner.{Runner}
use Rattle.twin_run.proofs.OnItsWay.{goes-on_for, reports, run-next, starts}
use Rattle.twin_run.proofs.Stepping.{ended-is-last}
use Rattle.run_trace.specs.Calls.{open_calls}
use Rattle.run_trace.specs.Changes.{changed_lines}
use Rattle.run_trace.specs.Following.{HasEnded, IsAfter, world_under}
use Rattle.run_trace.specs.States.{holdings_of, opened_lines}
use Rattle.run_trace.specs.Traces.{IsTold, lines_of, state_after, state_lines, told_lines, trace_lines}
use Rattle.run_trace.specs.declared.calls.InnerCall.{InnerCall}
use Rattle.run_trace.specs.declared.telling.Program.{Program}
use Rattle.run_trace.specs.declared.traced.TracedRun.{TracedRun}
use Rattle.run_trace.proofs.CallLaws.{followed, open-ended, open-next}
use Rattle.run_trace.proofs.TraceLaws.{ended-lines, trace-done, trace-next, trace-none, trace-skips}

-- ---- where it is

-- the CALLs that are open after a step are those that follow from the ones before it
abbrev pub FollowsIn : (w : ℕ) (world : World) (x y : TracedRun w) → Type 0
FollowsIn w world x y = (r : RunState) → IsRunner w world x.runner r
    → y.calls.items ≡ followed world r (run_step w world (own_placement w world) r) x.calls.items

module _ (w : ℕ) (p : Program) where
  -- a step more
  pub after-next : (k : ℕ) (x y : TracedRun w) → IsAfter w p k x
      → ((r : RunState) → IsRunner w (world_under p) x.runner r
      → IsRunner w (world_under p) y.runner (run_step w (world_under p) (own_placement w (world_under p)) r))
      → FollowsIn w (world_under p) x y → IsAfter w p (k + 1) y
  after-next k x y at step follows = record {
    there = subst (IsRunner w (world_under p) y.runner) (sym (run-next w p.image.now (world_under p) k))
        (step (own_run w p.image.now (world_under p) k) at.there);
    calls = follows (own_run w p.image.now (world_under p) k) at.there
        ∙ ap (followed (world_under p) _ _) at.calls ∙ sym (open-next w p.image.now (world_under p) k);
  }

  -- none more, once the run has ended
  pub after-end : (k m : ℕ) (x : TracedRun w) → HasEnded w p k → k ≤ m → IsAfter w p k x → IsAfter w p m x
  after-end k m x over least at =
      let all : m ≡ k + (m - k) = omega (arith, least) in
      record {
        there = subst (IsRunner w (world_under p) x.runner) (sym (ap (own_run w p.image.now (world_under p)) all
            ∙ ended-is-last w (world_under p) (own_placement w (world_under p))
            (mapped p.image.now (own_placement w (world_under p)).image) k (m - k) over)) at.there;
        calls = at.calls
            ∙ sym (ap (open_calls w p.image.now (world_under p)) all ∙ open-ended w p.image.now (world_under p) k (m - k) over);
      }

  -- and then a step has no lines
  pub over-lines : (k : ℕ) → HasEnded w p k → lines_of w p.image.now (world_under p) (k + 1) ≡ []
  over-lines k over =
      let next : k + 1 ≡ k + 0 + 1 = omega arith in
      ap (lines_of w p.image.now (world_under p)) next ∙ ended-lines w p.image.now (world_under p) k 0 over

-- ---- its lines

module _ (w : ℕ) (image : Image) (world : World) where
  -- at the start
  pub told-none : (first limit : ℕ) (x : TracedRun w) (text : List ℕ) → 1 ≤ first → IsRunner w world x.runner (own_run w image world 0)
      → x.calls.items ≡ open_calls w image world 0 → x.runner.taken ≡ 0 → IsTold w image world first limit 0 x text text
  told-none first limit x text some is none_open none = record {
    way = starts w image world limit x.runner is none;
    calls = none_open;
    text = sym (ap (λ t. text ++ t) (trace-none w image world first 0 (omega (arith, some))) ∙ append-nil text);
  }

  -- after a step more
  pub told-next : (first limit taken : ℕ) (x y : TracedRun w) (old before after : List ℕ)
      → IsTold w image world first limit taken x old before
      → taken < limit → limit < 2 ^ 64 → x.runner.ending ≡ Running
      → IsRunner w world y.runner (own_run w image world (taken + 1)) → y.calls.items ≡ open_calls w image world (taken + 1)
      → y.runner.taken ≡ min (x.runner.taken + 1) (2 ^ 64 - 1)
      → (taken + 1 < first → after ≡ before)
      → (first ≤ taken + 1 → after ≡ before ++ lines_of w image world (taken + 1))
      → IsTold w image world first limit (taken + 1) y old after
  unfolding steps_on
  told-next first limit taken x y old before after told less small running there calls counted skipped lines =
      let on : (own_run w image world taken).ending ≡ Running = sym told.way.there.at.ending ∙ running in
      let goes : GoesOnFor w world 1 (own_run w image world taken) =
      λ j l. (let none : j ≡ 0 = omega (arith, l) in ap (λ i. (steps_on w world i (own_run w image world taken)).ending) none ∙ on) in
      record {
        way = goes-on_for w image world limit taken 1 x.runner y.runner told.way (omega (arith, less)) small counted goes
            (subst (IsRunner w world y.runner) (run-next w image world taken) there);
        calls = calls;
        text = elim (cases_lt (taken + 1) first) as (λ _. after ≡ old ++ told_lines w image world first (taken + 1)) [
          | inl early ↦ trace-skips w image world first taken old before after early told.text (skipped early)
          | inr late ↦ trace-next w image world first taken old before after late told.text (lines late)
        ];
      }

  -- at the end, which is the run's or the last step that is asked for
  abbrev pub Stops : (last taken : ℕ) (x : TracedRun w) → Type 0
  Stops last taken x = ((x.runner.ending ≡ Running) → ⊥) ⊎ (taken ≡ last)

  ends : (first last taken : ℕ) (x : TracedRun w) (old text : List ℕ) → IsTold w image world first last taken x old text
      → Stops last taken x → ((own_run w image world taken).ending ≢ Running) ⊎ (taken ≡ last)
  ends first last taken x old text told (inl past) = inl (λ on. past (told.way.there.at.ending ∙ on))
  ends first last taken x old text told (inr same) = inr same

  pub told-report : (first last taken : ℕ) (x : TracedRun w) (report : RunReport) (old text : List ℕ)
      → IsTold w image world first last taken x old text → Stops last taken x → report.steps ≡ x.runner.taken
      → ((r : RunState) → IsRunner w world x.runner r → report.spot ≡ spot_of world (own_placement w world) r.machine)
      → ((r : RunState) → IsRunner w world x.runner r → report.ending ≡ r.ending)
      → ((r : RunState) → IsRunner w world x.runner r → report.events.items ≡ r.trace) → IsReport w image world last report
  told-report first last taken x report old text told over steps spot ending events =
      reports w image world last taken x.runner report told.way (ends first last taken x old text told over) (steps ∙ told.way.taken) spot
      ending events

  -- ---- and the state after them

  last-after : (taken last : ℕ) → taken ≤ last → ((own_run w image world taken).ending ≢ Running) ⊎ (taken ≡ last)
      → state_after w image world taken ≡ state_after w image world last
  last-after taken last most (inl over) =
      let all : taken + (last - taken) ≡ last = omega (arith, most) in
      let run = sym (ended-is-last w world (own_placement w world) (mapped image (own_placement w world).image) taken (last - taken) over)
      ∙ ap (own_run w image world) all in
      let calls = sym (open-ended w image world taken (last - taken) over) ∙ ap (open_calls w image world) all in
      λ i. state_lines world (calls i) (own_run w image world 0) (run i)
  last-after taken last most (inr same) = ap (state_after w image world) same

  pub trace-all : (first last taken : ℕ) (x : TracedRun w) (old text all : List ℕ) → 1 ≤ first
      → IsTold w image world first last taken x old text → Stops last taken x → all ≡ text ++ state_after w image world taken
      → all ≡ old ++ trace_lines w image world first last
  trace-all first last taken x old text all some told over state =
      let stops = ends first last taken x old text told over in
      state ∙ ap (λ t. text ++ t) (last-after taken last told.way.most stops)
      ∙ ap (λ t. t ++ state_after w image world last)
      (trace-done w image world first taken last old text some told.way.most stops told.text)
      ∙ append_assoc old (told_lines w image world first last) (state_after w image world last)

-- what is appended of a state one after the other are its lines
pub state-is : (w : ℕ) (image : Image) (notes : Notes) (script : Script) (x start : Runner w) (calls : List InnerCall) (h : Holdings)
    (old held opened all : List ℕ)
    → held ≡ old ++ holdings_text notes h
    → ((v : World) (t : RunState) → IsRunner w v x t → h ≡ holdings_of notes t)
    → ((v : World) (t : RunState) → IsRunner w v x t → opened ≡ held ++ opened_lines notes script calls t)
    → ((v : World) (r t : RunState) → v.image_size ≡ image.size → IsRunner w v start r → IsRunner w v x t
    → all ≡ opened ++ changed_lines notes r t)
    → IsRunner w (world_of image notes script) start (own_run w image (world_of image notes script) 0)
    → (world : World) (s : RunState) → world ≡ world_of image notes script → IsRunner w world x s
    → all ≡ old ++ state_lines world calls (own_run w image world 0) s
unfolding state_lines
state-is w image notes script x start calls h old held opened all holds holding opens changes began world s same is =
    let v : World = world_of image notes script in
    let r : RunState = own_run w image v 0 in
    let there : IsRunner w v x s = subst (λ u. IsRunner w u x s) same is in
    let head : List ℕ = holdings_text notes (holdings_of notes s) in
    let middle : List ℕ = opened_lines notes script calls s in
    let rows : List ℕ = changed_lines notes r s in
    let held-is : held ≡ old ++ head = holds ∙ ap (λ k. old ++ holdings_text notes k) (holding v s there) in
    let opened-is : opened ≡ old ++ (head ++ middle) =
    opens v s there ∙ ap (λ t. t ++ middle) held-is ∙ append_assoc old head middle in
    let whole : all ≡ old ++ (head ++ (middle ++ rows)) =
    changes v r s refl began there ∙ ap (λ t. t ++ rows) opened-is ∙ append_assoc old (head ++ middle) rows
    ∙ ap (λ t. old ++ t) (append_assoc head middle rows) in
    subst (λ u. all ≡ old ++ state_lines u calls (own_run w image u 0) s) (sym same) whole
