-- The lines of the steps of a run, step by step: none before the first, one step more, and none once the run has ended.
use Rattle.std.specs.Prelude.{◌≢◌}
use Rattle.std.proofs.Common.{◌≡◌, ◌⊎◌, ℕ, zero, suc, ◌+◌, ◌-◌, ◌<◌, ◌≤◌, List, [], ◌++◌}
use Rattle.std.proofs.Common.{refl, sym, ap, ◌∙◌, inl, inr, arith, add-zero, append_assoc}
use Rattle.std.proofs.lemmas.Bool.{cases_lt}
use Rattle.std.proofs.lemmas.List.{append-nil}
use Rattle.std.specs.List.{flat_map, range_with_len}
use Rattle.host_model.specs.Placements.{own_placement}
use Rattle.host_model.specs.RunState.{RunState}
use Rattle.host_model.specs.Runs.{run_step, world_of}
use Rattle.host_model.specs.World.{World}
use Rattle.note_types.specs.declared.ending.Ending.{Ending}
use Rattle.note_types.specs.declared.ending.Ending.TheVariants.{Running, Finished, Raised, Mismatch, ScriptEnd}
use Rattle.note_types.specs.declared.notes.Notes.{Notes}
use Rattle.note_types.specs.declared.script.Script.{Script}
use Rattle.pe_image.specs.Mapped.{mapped}
use Rattle.pe_image.specs.declared.image.Image.{Image}
use Rattle.twin_run.specs.Reported.{own_run}
use Rattle.twin_run.specs.Runner.{IsRunner, Runs}
use Rattle.twin_run.specs.declared.runner.Runner.{Runner}
use Rattle.twin_run.proofs.OnItsWay.{run-next}
use Rattle.twin_run.proofs.Stepping.{ended-is-last}
use Rattle.printed_texts.proofs.RangeLaws.{flat_more}
use Rattle.run_trace.specs.Calls.{while_running}
use Rattle.run_trace.specs.Traces.{lines_of, step_lines, told_lines}

-- nothing is left of what there is while a run goes on
pub none-over : {A : Type 0} (e : Ending) (xs : List A) → e ≢ Running → while_running e xs ≡ []
none-over Running xs over = absurd (over refl)
none-over (Finished v) xs over = refl
none-over (Raised x) xs over = refl
none-over (Mismatch x) xs over = refl
none-over ScriptEnd xs over = refl

-- The runner of a run is one of some run.
pub runs-of : (w : ℕ) (image : Image) (notes : Notes) (script : Script) (x : Runner w) (r : RunState)
    → IsRunner w (world_of image notes script) x r → Runs w notes script x
runs-of w image notes script x r is =
    record { world = world_of image notes script; its_notes = refl; its_script = refl; state = r; is = is }

module _ (w : ℕ) (image : Image) (world : World) where
  -- before the first step that is told there are no lines
  pub trace-none : (first taken : ℕ) → taken < first → told_lines w image world first taken ≡ []
  trace-none first taken less =
      let none : taken + 1 - first ≡ 0 = omega (arith, less) in
      ap (λ n. flat_map (lines_of w image world) (range_with_len first n)) none

  more : (first taken : ℕ) → first ≤ taken + 1
      → told_lines w image world first (taken + 1) ≡ told_lines w image world first taken ++ lines_of w image world (taken + 1)
  more first taken least =
      let count : taken + 1 + 1 - first ≡ suc (taken + 1 - first) = omega (arith, least) in
      let last : first + (taken + 1 - first) ≡ taken + 1 = omega (arith, least) in
      ap (λ n. flat_map (lines_of w image world) (range_with_len first n)) count
      ∙ flat_more (lines_of w image world) first (taken + 1 - first)
      ∙ ap (λ k. told_lines w image world first taken ++ lines_of w image world k) last

  -- the lines of a step of a run that goes on
  pub step-is : (taken : ℕ) → (own_run w image world taken).ending ≡ Running
      → lines_of w image world (taken + 1)
      ≡ step_lines w world (taken + 1) (own_run w image world taken)
      (run_step w world (own_placement w world) (own_run w image world taken))
  unfolding lines_of
  step-is taken on =
      let back : taken + 1 - 1 ≡ taken = omega arith in
      ap (λ k. while_running (own_run w image world k).ending (step_lines w world (taken + 1) (own_run w image world k)
      (own_run w image world (taken + 1)))) back
      ∙ ap (λ e. while_running e (step_lines w world (taken + 1) (own_run w image world taken) (own_run w image world (taken + 1)))) on
      ∙ ap (λ s. step_lines w world (taken + 1) (own_run w image world taken) s) (run-next w image world taken)

  -- a step more is told
  pub trace-next : (first taken : ℕ) (old before after : List ℕ) → first ≤ taken + 1
      → before ≡ old ++ told_lines w image world first taken → after ≡ before ++ lines_of w image world (taken + 1)
      → after ≡ old ++ told_lines w image world first (taken + 1)
  trace-next first taken old before after least told step =
      step ∙ ap (λ t. t ++ lines_of w image world (taken + 1)) told
      ∙ append_assoc old (told_lines w image world first taken) (lines_of w image world (taken + 1))
      ∙ ap (λ t. old ++ t) (sym (more first taken least))

  -- a step more that isn't told
  pub trace-skips : (first taken : ℕ) (old before after : List ℕ) → taken + 1 < first
      → before ≡ old ++ told_lines w image world first taken → after ≡ before
      → after ≡ old ++ told_lines w image world first (taken + 1)
  trace-skips first taken old before after less told same =
      same ∙ told ∙ ap (λ t. old ++ t) (trace-none first taken (omega (arith, less)) ∙ sym (trace-none first (taken + 1) less))

  -- once the run has ended no lines come
  pub ended-lines : (taken d : ℕ) → (own_run w image world taken).ending ≢ Running → lines_of w image world (taken + d + 1) ≡ []
  unfolding lines_of
  ended-lines taken d over =
      let back : taken + d + 1 - 1 ≡ taken + d = omega arith in
      let same : own_run w image world (taken + d + 1 - 1) ≡ own_run w image world taken
      = ap (own_run w image world) back ∙ ended-is-last w world (own_placement w world) (mapped image (own_placement w world).image) taken d
      over in
      none-over _ _ (λ on. over (sym (ap (λ (r : RunState). r.ending) same) ∙ on))

  trace-ended_by : (first taken d : ℕ) → 1 ≤ first → (own_run w image world taken).ending ≢ Running
      → told_lines w image world first (taken + d) ≡ told_lines w image world first taken
  trace-ended_by first taken zero some over = ap (told_lines w image world first) (add-zero taken)
  trace-ended_by first taken (suc d) some over =
      let next : taken + suc d ≡ taken + d + 1 = omega arith in
      ap (told_lines w image world first) next ∙ (elim (cases_lt (taken + d + 1) first) as (λ _.
      told_lines w image world first (taken + d + 1) ≡ told_lines w image world first taken) [
        | inl less ↦ trace-none first (taken + d + 1) less ∙ sym (trace-none first taken (omega (arith, less)))
        | inr least ↦ more first (taken + d) least
            ∙ ap (λ t. told_lines w image world first (taken + d) ++ t) (ended-lines taken d over)
            ∙ append-nil _ ∙ trace-ended_by first taken d some over
      ])

  -- so the lines up to the end are all
  pub trace-done : (first taken last : ℕ) (old after : List ℕ) → 1 ≤ first → taken ≤ last
      → ((own_run w image world taken).ending ≢ Running) ⊎ (taken ≡ last)
      → after ≡ old ++ told_lines w image world first taken → after ≡ old ++ told_lines w image world first last
  trace-done first taken last old after some most (inl over) told =
      let all : taken + (last - taken) ≡ last = omega (arith, most) in
      told ∙ ap (λ t. old ++ t) (sym (trace-ended_by first taken (last - taken) some over)
      ∙ ap (told_lines w image world first) all)
  trace-done first taken last old after some most (inr same) told =
      told ∙ ap (λ k. old ++ told_lines w image world first k) same
