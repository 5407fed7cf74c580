-- The runs of an image at both widths, a step more and once they have ended, and the lines of their steps.
use Rattle.std.specs.Prelude.{◌≢◌, IfSome}
use Rattle.std.proofs.Common.{◌≡◌, ◌⊎◌, ℕ, zero, suc, ◌+◌, ◌-◌, ◌<◌, ◌≤◌, max, min, List, [], ◌++◌, Option, Some, None}
use Rattle.std.proofs.Common.{sym, ap, ◌∙◌, subst, inl, inr, arith, add-zero, append_assoc, append-nil}
use Rattle.std.proofs.lemmas.Bool.{cases_lt}
use Rattle.std.specs.List.{flat_map, range_with_len}
use Rattle.asm_text.specs.Splits.{lines_of as text_lines}
use Rattle.host_model.specs.World.{World}
use Rattle.note_types.specs.declared.ending.Ending.TheVariants.{Running}
use Rattle.pe_image.specs.declared.image.Image.{Image}
use Rattle.printed_texts.specs.RunTexts.{differ_line}
use Rattle.run_trace.specs.Following.{HasEnded}
use Rattle.run_trace.specs.Traces.{lines_of, state_after}
use Rattle.run_trace.specs.declared.telling.Program.{Program}
use Rattle.run_trace.proofs.ToldLaws.{after-end}
use Rattle.printed_texts.proofs.RangeLaws.{flat_more}
use Rattle.run_trace.proofs.TraceLaws.{ended-lines}
use Rattle.side_by_side.specs.SideBySide.{lines_beside, side_by_side}
use Rattle.twin_run.specs.Reported.{own_run}
use Rattle.twin_trace.specs.BothTraces.{AreBothAfter, HasEnds, last_told, states_beside, step_beside, steps_beside, told_steps}
use Rattle.twin_trace.specs.declared.runs.BothRuns.{BothRuns}

-- ---- both runs

-- a walk of both runs stops: both have ended, or it has come to the last step
abbrev pub Stops : Program → (k last : ℕ) → Type 0
Stops p k last = (HasEnded 4 p k × HasEnded 8 p k) ⊎ (last ≤ k)

-- so the runners are where the runs are after the last step
pub stopped : (p : Program) (taken last k : ℕ) (x : BothRuns) → taken ≤ k → k ≤ max taken last → Stops p k last → AreBothAfter p k x
    → AreBothAfter p (max taken last) x
stopped p taken last k x least most (inl over) are = record {
  at4 = after-end 4 p k (max taken last) x.at4 over.0 most are.at4;
  at8 = after-end 8 p k (max taken last) x.at8 over.1 most are.at8;
}
stopped p taken last k x least most (inr past) are =
    let same : k ≡ max taken last = omega (arith, least, most, past) in subst (λ n. AreBothAfter p n x) same are

-- ---- lines

module _ (image : Image) (world : World) where
  pub none-beside : (taken : ℕ) → steps_beside image world taken taken ≡ []
  none-beside taken =
      let none : taken - taken ≡ 0 = omega arith in
      ap (λ n. flat_map (step_beside image world) (range_with_len (taken + 1) n)) none

  -- a step more
  pub more-beside : (taken k : ℕ) → taken ≤ k
      → steps_beside image world taken (k + 1) ≡ steps_beside image world taken k ++ step_beside image world (k + 1)
  more-beside taken k least =
      let count : k + 1 - taken ≡ suc (k - taken) = omega (arith, least) in
      let last : taken + 1 + (k - taken) ≡ k + 1 = omega (arith, least) in
      ap (λ n. flat_map (step_beside image world) (range_with_len (taken + 1) n)) count
      ∙ (flat_more (step_beside image world) (taken + 1) (k - taken)
      ∙ ap (λ n. steps_beside image world taken k ++ step_beside image world n) last)

  -- none once both runs have ended
  ended-beside : (k d : ℕ) → (own_run 4 image world k).ending ≢ Running → (own_run 8 image world k).ending ≢ Running
      → step_beside image world (k + d + 1) ≡ []
  unfolding step_beside side_by_side lines_beside text_lines
  ended-beside k d over also = λ i. side_by_side (ended-lines 4 image world k d over i) (ended-lines 8 image world k d also i)

  all-beside : (taken k d : ℕ) → taken ≤ k → (own_run 4 image world k).ending ≢ Running → (own_run 8 image world k).ending ≢ Running
      → steps_beside image world taken (k + d) ≡ steps_beside image world taken k
  all-beside taken k zero least over also = ap (steps_beside image world taken) (add-zero k)
  all-beside taken k (suc d) least over also =
      let next : k + suc d ≡ k + d + 1 = omega arith in
      ap (steps_beside image world taken) next
      ∙ (more-beside taken (k + d) (omega (arith, least))
      ∙ (ap (λ t. steps_beside image world taken (k + d) ++ t) (ended-beside k d over also)
      ∙ (append-nil (steps_beside image world taken (k + d)) ∙ all-beside taken k d least over also)))

  past-beside : (taken last k : ℕ) → taken ≤ k → k ≤ max taken last → last ≤ k
      → steps_beside image world taken k ≡ steps_beside image world taken last
  past-beside taken last k least most past =
      let same : k - taken ≡ last - taken = omega (arith, least, most, past) in
      ap (λ n. flat_map (step_beside image world) (range_with_len (taken + 1) n)) same

  -- so where a walk stops all lines are told
  pub stopped-beside : (taken last k : ℕ) → taken ≤ k → k ≤ max taken last
      → (((own_run 4 image world k).ending ≢ Running) × ((own_run 8 image world k).ending ≢ Running)) ⊎ (last ≤ k)
      → steps_beside image world taken k ≡ steps_beside image world taken last
  stopped-beside taken last k least most (inr past) = past-beside taken last k least most past
  stopped-beside taken last k least most (inl over) =
      elim (cases_lt last k) as (λ _. steps_beside image world taken k ≡ steps_beside image world taken last) [
        | inl less ↦ past-beside taken last k least most (omega (arith, less))
        | inr within ↦
            let all : last ≡ k + (last - k) = omega (arith, within) in
            sym (ap (steps_beside image world taken) all ∙ all-beside taken k (last - k) least over.0 over.1)
      ]

  -- what stands beside one another, from the texts of either run behind an empty one
  both-beside : (x y a b s t old new : List ℕ) → a ≡ [] → b ≡ [] → s ≡ a ++ x → t ≡ b ++ y → new ≡ old ++ side_by_side s t
      → new ≡ old ++ side_by_side x y
  both-beside x y a b s t old new none also at32 at64 put =
      let four = at32 ∙ ap (λ e. e ++ x) none in
      let eight = at64 ∙ ap (λ e. e ++ y) also in
      put ∙ (λ i. old ++ side_by_side (four i) (eight i))

  -- the lines of a step
  pub beside-is : (number : ℕ) (a b s t old new : List ℕ) → a ≡ [] → b ≡ [] → s ≡ a ++ lines_of 4 image world number
      → t ≡ b ++ lines_of 8 image world number → new ≡ old ++ side_by_side s t → new ≡ old ++ step_beside image world number
  unfolding step_beside
  beside-is number = both-beside (lines_of 4 image world number) (lines_of 8 image world number)

  -- those of the states
  pub states-are : (taken : ℕ) (a b s t old new : List ℕ) → a ≡ [] → b ≡ [] → s ≡ a ++ state_after 4 image world taken
      → t ≡ b ++ state_after 8 image world taken → new ≡ old ++ side_by_side s t → new ≡ old ++ states_beside image world taken
  unfolding states_beside
  states-are taken = both-beside (state_after 4 image world taken) (state_after 8 image world taken)

  -- no step is past the last one
  pub steps-capped : (passed last capped : ℕ) → capped ≡ min passed last
      → steps_beside image world capped last ≡ steps_beside image world passed last
  steps-capped passed last capped is = elim (cases_lt passed last) as (λ _. steps_beside image world capped last
      ≡ steps_beside image world passed last) [
        | inl less ↦ let same : capped ≡ passed = omega (arith, is, less) in ap (λ n. steps_beside image world n last) same
        | inr past ↦
            let none : last - passed ≡ 0 = omega (arith, past) in
            let all : last - capped ≡ 0 = omega (arith, is, past) in
            ap (λ n. flat_map (step_beside image world) (range_with_len (capped + 1) n)) all
            ∙ sym (ap (λ n. flat_map (step_beside image world) (range_with_len (passed + 1) n)) none)
      ]

  -- a step more is told
  pub told-more : (taken k : ℕ) (old before after : List ℕ) → taken ≤ k → before ≡ old ++ steps_beside image world taken k
      → after ≡ before ++ step_beside image world (k + 1) → after ≡ old ++ steps_beside image world taken (k + 1)
  told-more taken k old before after least is put =
      put ∙ (ap (λ t. t ++ step_beside image world (k + 1)) is
      ∙ (append_assoc old (steps_beside image world taken k) (step_beside image world (k + 1))
      ∙ ap (λ t. old ++ t) (sym (more-beside taken k least))))

  -- the lines up to the step that parts the runs
  pub parting-told : (first last steps passed : ℕ) (out a b c : List ℕ) → passed ≡ min (first - 1) (last - 2)
      → a ≡ out ++ steps_beside image world passed (last - 1) → b ≡ a ++ differ_line (Some steps)
      → c ≡ b ++ steps_beside image world (last - 1) last → c ≡ out ++ told_steps image world first last (Some steps)
  unfolding told_steps
  parting-told first last steps passed out a b c is first_part line last_part =
      let front : List ℕ = steps_beside image world (min (first - 1) (last - 2)) (last - 1) in
      let mark : List ℕ = differ_line (Some steps) in
      let back : List ℕ = steps_beside image world (last - 1) last in
      last_part
      ∙ (ap (λ t. t ++ back) (line ∙ ap (λ t. t ++ mark) (first_part ∙ ap (λ n. out ++ steps_beside image world n (last - 1)) is))
      ∙ (append_assoc (out ++ front) mark back ∙ append_assoc out front (mark ++ back)))

  pub has-ends : (l m : ℕ) (a b text : List ℕ) → l ≡ m → a ≡ b → HasEnds image world l a text → HasEnds image world m b text
  has-ends l m a b text same lines has =
      subst (λ n. HasEnds image world n b text) same (subst (λ t. HasEnds image world l t text) lines has)

-- a step parts runs that differ
pub some-told : (last l : ℕ) (differ : Option ℕ) → l ≡ last_told last differ → IfSome differ (λ _. 0 < l)
some-told last l None is = tt
some-told last l (Some k) is = omega (arith, is)
