-- What is reported of a run of a pair, computed: a bound call of a function that doubles a number, at either width.
use Rattle.pair_host.proofs.Common.{◌≢◌, ◌≡◌, ◌⊎◌, ℕ, ◌<◌, List, [], ◌∷◌, Some, None, refl, sym, ap, ◌∙◌, subst, inl, inr, arith, given}
use Rattle.pair_host.proofs.Common.{Ending, Both, PairWorld, OfA, PairEvent, Image, OwnPairsSame, PairsDifferAt, nowhere, IsPairReport}
use Rattle.pair_host.proofs.Common.{own_pair_run, PairRun}
use Rattle.pair_laws.proofs.{Computing.pairs_compute, Programs.images_with, Programs.pair_with}
use Rattle.pair_model.specs.PairReports.{PairReport, pair_report_after}
use Rattle.pair_host.specs.PairReported.{PairStepsTaken}
use Rattle.pair_host.proofs.PairOnItsWay.{stays}
use Rattle.note_types.specs.declared.ending.Ending.TheVariants as ending
use Rattle.note_types.specs.declared.event.Event.TheVariants as event
use Rattle.note_types.specs.declared.spot.Spot.TheVariants as spot
use Rattle.note_types.specs.declared.value.Value.TheVariants as value
use Rattle.pair_model.specs.declared.event.PairEvent.TheVariants as pair_event

abbrev world : PairWorld
world = pair_with []

abbrev images : Both Image
images = images_with []

-- the call, the entering, the return and the answer
abbrev answered : List PairEvent
answered =
    pair_event.A (event.Called 0x100A (Some 0) (given (value.Int 21) ∷ []))
    ∷ (pair_event.B (event.Entered 1 (given (value.Int 21) ∷ [])) ∷ (pair_event.B (event.Returned 1 (value.Int 42))
    ∷ (pair_event.Bound (value.Int 42) ∷ [])))

-- what the run shows at its end
abbrev shown : PairReport
shown = record { side = OfA; spot = spot.Gate; trace = answered; ending = ending.Finished (value.Int 42) }

-- so a report is to tell
record TellsRow (x : PairRun) : Type 0 where
  steps : x.steps ≡ 17
  spot : x.spot ≡ spot.Gate
  ending : x.ending ≡ ending.Finished (value.Int 42)
  events : x.events.items ≡ answered

runs_or_not : (e : Ending) → (e ≡ ending.Running) ⊎ (e ≢ ending.Running)
runs_or_not ending.Running = inl refl
runs_or_not (ending.Finished v) = inr (λ h. cc)
runs_or_not (ending.Raised x) = inr (λ h. cc)
runs_or_not (ending.Mismatch x) = inr (λ h. cc)
runs_or_not ending.ScriptEnd = inr (λ h. cc)

finished_is_over : ending.Finished (value.Int 42) ≡ ending.Running → ⊥
finished_is_over h = cc

-- a run that goes on after sixteen steps went on before
before : (w : ℕ) → (own_pair_run w images world 16).ending ≡ ending.Running → (j : ℕ) → j < 17
    → (own_pair_run w images world j).ending ≡ ending.Running
before w on j l =
    elim (runs_or_not (own_pair_run w images world j).ending) as (λ _. (own_pair_run w images world j).ending ≡ ending.Running) [
      | inl is ↦ is
      | inr over ↦ sym (ap (λ p. p.ending) (stays w images world j 16 (omega (arith, l)) over)) ∙ on
    ]

reported : (w : ℕ) → (own_pair_run w images world 16).ending ≡ ending.Running → pair_report_after w world images 17 ≡ shown → (x : PairRun)
    → TellsRow x → IsPairReport w images world 100 x
reported w on end x row =
    let is : pair_report_after w world images x.steps ≡ shown = ap (pair_report_after w world images) row.steps ∙ end in
    record {
      steps = subst (PairStepsTaken w images world 100) (sym row.steps)
          (record {
            most = omega arith;
            goes_on = before w on;
            done = inl (λ h. finished_is_over (sym (ap (λ (r : PairReport). r.ending) end) ∙ h));
          });
      spot = row.spot ∙ sym (ap (λ (r : PairReport). r.spot) is);
      ending = row.ending ∙ sym (ap (λ (r : PairReport). r.ending) is);
      events = row.events ∙ sym (ap (λ (r : PairReport). r.trace) is);
    }

reported_at4 : (x : PairRun) → TellsRow x → IsPairReport 4 images world 100 x
unfolding pairs_compute
reported_at4 x row = reported 4 refl refl x row

reported_at8 : (x : PairRun) → TellsRow x → IsPairReport 8 images world 100 x
unfolding pairs_compute
reported_at8 x row = reported 8 refl refl x row

-- the runs are the same at the start and at the end
same_at_start : OwnPairsSame images world 0
unfolding pairs_compute
same_at_start = record { side = refl; spot = refl; trace = refl; ending = refl }

same_at_end : OwnPairsSame images world 17
unfolding pairs_compute
same_at_end = record { side = refl; spot = refl; trace = refl; ending = refl }

-- so no step is the first one up to the limit of none
none_at_start : PairsDifferAt images world 0 None
none_at_start = nowhere (λ k l. let e : 0 ≡ k = omega (arith, l) in subst (OwnPairsSame images world) e same_at_start)
