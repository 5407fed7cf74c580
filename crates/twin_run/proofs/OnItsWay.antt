-- Runners on their way along runs: one at its start, after a step more, and at the end; and two, which show where the runs part.
use Rattle.twin_run.proofs.Common.{◌≢◌, ◌≡◌, ◌↔◌, ◌⊎◌, ℕ, zero, suc, ◌+◌, ◌-◌, ◌<◌, ◌≤◌, ◌^◌, min, Bool, true, false, if◌then◌else◌, List}
use Rattle.twin_run.proofs.Common.{◌++◌, length, drop, Some, None, refl, sym, ap, ◌∙◌, subst, inl, inr, arith, add-one, add-zero, cases_lt}
use Rattle.twin_run.proofs.Common.{false≢true, Running, Event, mapped, Image, spot_of, own_placement, RunState, run_after, run_step, World}
use Rattle.twin_run.proofs.Common.{DifferAt, first, nowhere, AreInStep, IsOnItsWay, own_run, GoesOnFor, IsRunner, steps_on, Runner}
use Rattle.std.specs.Prelude.{IsTrue}
use Rattle.std.proofs.{Common.add-suc, Common.append_assoc, Math.Seq.drop-append_seam}
use Rattle.host_model.specs.Runs.{SameRun}
use Rattle.twin_run.specs.{Differs.OwnRunsSame, OnItsWay.AreSameBefore, OnItsWay.IsSameButFirst, Reported.IsReport, Runner.TakesSteps}
use Rattle.twin_run.specs.declared.reports.RunReport.{RunReport}
use Rattle.twin_run.proofs.Stepping.{TellsMore, ended-is-last, none-more, step-tells}

-- each number below the next one is below this one, or is this one
below-next : (j k : ℕ) → j < k + 1 → (j < k) ⊎ (j ≡ k)
below-next j k l = elim (cases_lt j k) as (λ _. (j < k) ⊎ (j ≡ k)) [ inl m ↦ inl m | inr m ↦ inr (omega (arith, l, m)) ]

-- ---- one run

-- the state that a step takes a runner to
abbrev pub Steps : (w : ℕ) (world : World) (x y : Runner w) → Type 0
Steps w world x y = (r : RunState) → IsRunner w world x r → IsRunner w world y (run_step w world (own_placement w world) r)

-- and counts
abbrev pub Counts : {w : ℕ} (x y : Runner w) → Type 0
Counts x y = x.ending ≡ Running → y.taken ≡ min (x.taken + 1) (2 ^ 64 - 1)

counted : (old k n new limit : ℕ) → old ≡ k → k + n ≤ limit → limit < 2 ^ 64 → new ≡ min (old + n) (2 ^ 64 - 1) → new ≡ k + n
counted old k n new limit was less small is = omega arith

module _ (w : ℕ) (image : Image) (world : World) where
  pub run-next : (k : ℕ) → own_run w image world (k + 1) ≡ run_step w world (own_placement w world) (own_run w image world k)
  unfolding run_after
  run-next k = ap (own_run w image world) (add-one k)

  -- at the start
  pub starts : (limit : ℕ) (x : Runner w) → IsRunner w world x (own_run w image world 0) → x.taken ≡ 0
      → IsOnItsWay w image world limit 0 x
  starts limit x is none = record { most = omega arith; goes_on = λ j l. absurd (omega (arith, l)); there = is; taken = none }

  -- after a step more
  pub goes-on : (limit k : ℕ) (x y : Runner w) → IsOnItsWay w image world limit k x → k < limit → limit < 2 ^ 64
      → (own_run w image world k).ending ≡ Running → Steps w world x y → Counts x y → IsOnItsWay w image world limit (k + 1) y
  goes-on limit k x y on less small running step counts = record {
    most = omega (arith, less);
    goes_on = λ j l. elim (below-next j k l) as (λ _. (own_run w image world j).ending ≡ Running) [
      | inl m ↦ on.goes_on j m
      | inr e ↦ ap (λ i. (own_run w image world i).ending) e ∙ running
    ];
    there = subst (IsRunner w world y) (sym (run-next k)) (step (own_run w image world k) on.there);
    taken = counted x.taken k 1 y.taken limit on.taken (omega (arith, less)) small (counts (on.there.at.ending ∙ running));
  }

  -- so many steps on
  run-on : (k n : ℕ) → own_run w image world (k + n) ≡ steps_on w world n (own_run w image world k)
  unfolding steps_on run_after
  run-on k zero = ap (own_run w image world) (add-zero k)
  run-on k (suc n) = ap (own_run w image world) (add-suc k n)
      ∙ ap (run_step w world (own_placement w world)) (run-on k n)

  pub goes-on_for : (limit k n : ℕ) (x y : Runner w) → IsOnItsWay w image world limit k x → k + n ≤ limit → limit < 2 ^ 64
      → y.taken ≡ min (x.taken + n) (2 ^ 64 - 1) → GoesOnFor w world n (own_run w image world k)
      → IsRunner w world y (steps_on w world n (own_run w image world k))
      → IsOnItsWay w image world limit (k + n) y
  goes-on_for limit k n x y on less small taken goes is = record {
    most = less;
    goes_on = λ j l. elim (cases_lt j k) as (λ _. (own_run w image world j).ending ≡ Running) [
      | inl m ↦ on.goes_on j m
      | inr m ↦
          let few : j - k < n = omega (arith, l, m) in
          let same : j ≡ k + (j - k) = omega (arith, m) in
          ap (λ i. (own_run w image world i).ending) same
          ∙ (ap (λ (r : RunState). r.ending) (run-on k (j - k)) ∙ goes (j - k) few)
    ];
    there = subst (IsRunner w world y) (sym (run-on k n)) is;
    taken = counted x.taken k n y.taken limit on.taken less small taken;
  }

  -- at the end, which is the run's or the limit
  pub reports : (limit k : ℕ) (x : Runner w) (report : RunReport) → IsOnItsWay w image world limit k x
      → ((own_run w image world k).ending ≢ Running) ⊎ (k ≡ limit) → report.steps ≡ k
      → ((r : RunState) → IsRunner w world x r → report.spot ≡ spot_of world (own_placement w world) r.machine)
      → ((r : RunState) → IsRunner w world x r → report.ending ≡ r.ending)
      → ((r : RunState) → IsRunner w world x r → report.events.items ≡ r.trace) → IsReport w image world limit report
  reports limit k x report on over is spot ending events =
      let at : RunState = own_run w image world k in
      let back : own_run w image world k ≡ own_run w image world report.steps = ap (own_run w image world) (sym is) in
      record {
        steps = record {
          most = subst (λ n. n ≤ limit) (sym is) on.most;
          goes_on = λ j l. on.goes_on j (subst (λ n. j < n) is l);
          done = subst (λ n. ((own_run w image world n).ending ≢ Running) ⊎ (n ≡ limit)) (sym is) over;
        };
        spot = spot at on.there ∙ ap (λ (r : RunState). spot_of world (own_placement w world) r.machine) back;
        ending = ending at on.there ∙ ap (λ (r : RunState). r.ending) back;
        events = events at on.there ∙ ap (λ (r : RunState). r.trace) back;
      }

  -- once it has ended a run stays as it is
  stays : (k j : ℕ) → k ≤ j → (own_run w image world k).ending ≢ Running → own_run w image world j ≡ own_run w image world k
  stays k j l over =
      let e : j ≡ k + (j - k) = omega (arith, l) in
      ap (own_run w image world) e
      ∙ ended-is-last w world (own_placement w world) (mapped image (own_placement w world).image) k (j - k) over

-- ---- two runs

-- lists that go on from one list are one where they are from there on
same-rest : (old : List Event) (xs ys : List Event) (es fs : List Event) → xs ≡ old ++ es → ys ≡ old ++ fs
    → drop (length old) xs ≡ drop (length old) ys → xs ≡ ys
same-rest old xs ys es fs p q e =
    let one : drop (length old) xs ≡ es = ap (drop (length old)) p ∙ drop-append_seam old es in
    let other : drop (length old) ys ≡ fs = ap (drop (length old)) q ∙ drop-append_seam old fs in
    p ∙ ap (λ t. old ++ t) (sym one ∙ e ∙ other) ∙ sym q

-- steps add events after those that there are
steps-tell : (w : ℕ) (world : World) (n : ℕ) (r : RunState) → TellsMore r.trace (steps_on w world n r).trace
unfolding steps_on
steps-tell w world zero r = none-more r.trace
steps-tell w world (suc n) r =
    let p = steps-tell w world n r in
    let q = step-tells w world (own_placement w world) (steps_on w world n r) in
    (p.0 ++ q.0, q.1 ∙ (ap (λ t. t ++ q.0) p.1 ∙ append_assoc r.trace p.0 q.0))

module _ (image : Image) (world : World) where
  -- at the start no event is left out
  same-from_none : (r s : RunState) → IsSameButFirst world 0 r s ↔ SameRun world (own_placement 4 world) r (own_placement 8 world) s
  same-from_none r s = (
    λ x. record { spot = x.spot; trace = x.events; ending = x.ending },
    λ x. record { spot = x.spot; ending = x.ending; events = x.trace },
  )

  -- after steps of runs that were the same it is enough to compare the events that are new
  same-from_old : (n : ℕ) (r s : RunState) → SameRun world (own_placement 4 world) r (own_placement 8 world) s
      → let x : RunState = steps_on 4 world n r in
      let y : RunState = steps_on 8 world n s in
      IsSameButFirst world (length r.trace) x y ↔ SameRun world (own_placement 4 world) x (own_placement 8 world) y
  same-from_old n r s same =
      let p = steps-tell 4 world n r in
      let q = steps-tell 8 world n s in (
        λ v. record {
          spot = v.spot;
          trace = same-rest r.trace _ _ p.0 q.0 p.1 (q.1 ∙ ap (λ t. t ++ q.0) (sym same.trace)) v.events;
          ending = v.ending;
        },
        λ v. record { spot = v.spot; ending = v.ending; events = ap (drop (length r.trace)) v.trace },
      )

  pub starts-in_step : (limit : ℕ) (x : Runner 4) (y : Runner 8) (same : Bool) → IsRunner 4 world x (own_run 4 image world 0)
      → IsRunner 8 world y (own_run 8 image world 0) → x.taken ≡ 0 → y.taken ≡ 0
      → (IsTrue same ↔ IsSameButFirst world 0 (own_run 4 image world 0) (own_run 8 image world 0))
      → AreInStep image world limit 0 x y same
  starts-in_step limit x y same at4 at8 none4 none8 compared =
      let whole = same-from_none (own_run 4 image world 0) (own_run 8 image world 0) in
      record {
        at4 = starts 4 image world limit x at4 none4;
        at8 = starts 8 image world limit y at8 none8;
        before = λ j l. absurd (omega (arith, l));
        now = (λ t. whole.0 (compared.0 t), λ s. compared.1 (whole.1 s));
      }

  -- the events that are told so far
  pub told : (limit k : ℕ) (x : Runner 4) (n : ℕ) (events : List Event) → IsOnItsWay 4 image world limit k x → n ≡ length events
      → ((r : RunState) → IsRunner 4 world x r → events ≡ r.trace) → n ≡ length (own_run 4 image world k).trace
  told limit k x n events on is tells = is ∙ ap length (tells (own_run 4 image world k) on.there)

  pub goes-on_in_step : (limit k n most : ℕ) (x u : Runner 4) (y v : Runner 8) (same : Bool) → AreInStep image world limit k x y true
      → n ≤ limit - k → k < limit → limit < 2 ^ 64 → most ≡ length (own_run 4 image world k).trace
      → TakesSteps 4 world.notes world.script x u n → TakesSteps 8 world.notes world.script y v n
      → ((r s : RunState) → IsRunner 4 world x r → IsRunner 8 world y s
      → SameRun world (own_placement 4 world) r (own_placement 8 world) s → AreSameBefore world n r s)
      → ((r s : RunState) → IsRunner 4 world u r → IsRunner 8 world v s → IsTrue same ↔ IsSameButFirst world most r s)
      → AreInStep image world limit (k + n) u v same
  goes-on_in_step limit k n most x u y v same were few less small told one other alike compared =
      let r : RunState = own_run 4 image world k in
      let s : RunState = own_run 8 image world k in
      let now : OwnRunsSame image world k = were.now.0 refl in
      let within : k + n ≤ limit = omega (arith, few, less) in
      let there4 = one.steps world r refl refl were.at4.there in
      let there8 = other.steps world s refl refl were.at8.there in
      let new = subst (λ m. IsTrue same ↔ IsSameButFirst world m (steps_on 4 world n r) (steps_on 8 world n s)) told
      (compared _ _ there4 there8) in
      let whole = same-from_old n r s now in
      let Q : RunState → RunState → Type 0 = λ a b. SameRun world (own_placement 4 world) a (own_placement 8 world) b in
      let on : (j : ℕ) → Q (steps_on 4 world j r) (steps_on 8 world j s) → OwnRunsSame image world (k + j) =
      λ j h. subst (λ a. Q a (own_run 8 image world (k + j))) (sym (run-on 4 image world k j))
      (subst (Q (steps_on 4 world j r)) (sym (run-on 8 image world k j)) h) in
      let back : (j : ℕ) → OwnRunsSame image world (k + j) → Q (steps_on 4 world j r) (steps_on 8 world j s) =
      λ j h. subst (λ a. Q a (steps_on 8 world j s)) (run-on 4 image world k j)
      (subst (Q (own_run 4 image world (k + j))) (run-on 8 image world k j) h) in
      record {
        at4 = goes-on_for 4 image world limit k n x u were.at4 within small one.counted (one.goes_on world r refl refl were.at4.there)
            there4;
        at8 = goes-on_for 8 image world limit k n y v were.at8 within small other.counted (other.goes_on world s refl refl were.at8.there)
            there8;
        before = λ j l. elim (cases_lt j k) as (λ _. OwnRunsSame image world j) [
          | inl m ↦ were.before j m
          | inr m ↦
              let few_on : j - k < n = omega (arith, l, m) in
              let there : k + (j - k) ≡ j = omega (arith, m) in
              subst (OwnRunsSame image world) there (on (j - k) (alike r s were.at4.there were.at8.there now (j - k) few_on))
        ];
        now = (λ t. on n (whole.0 (new.0 t)), λ z. new.1 (whole.1 (back n z)));
      }

  -- where the runs part, once the two runners go on no more in step
  pub parts : (limit k : ℕ) (x : Runner 4) (y : Runner 8) (same : Bool) → AreInStep image world limit k x y same
      → (same ≡ false) ⊎ (((own_run 4 image world k).ending ≢ Running) ⊎ (k ≡ limit))
      → DifferAt image world limit (if same then None else Some k)
  parts limit k x y false are over =
      first k are.at4.most (λ s. false≢true (are.now.1 s)) are.before
  parts limit k x y true are over = nowhere (λ j l. elim (cases_lt j k) as (λ _. OwnRunsSame image world j) [
    | inl m ↦ are.before j m
    | inr m ↦ later j l m over
  ])
    where
      later : (j : ℕ) → j ≤ limit → k ≤ j → (true ≡ false) ⊎ (((own_run 4 image world k).ending ≢ Running) ⊎ (k ≡ limit))
          → OwnRunsSame image world j
      later j l m (inl e) = absurd (false≢true (sym e))
      later j l m (inr (inl ended)) =
          let now : OwnRunsSame image world k = are.now.0 refl in
          let Q : RunState → RunState → Type 0 =
          λ a b. SameRun world (own_placement 4 world) a (own_placement 8 world) b in
          subst (λ a. Q a (own_run 8 image world j)) (sym (stays 4 image world k j m ended))
          (subst (Q (own_run 4 image world k)) (sym (stays 8 image world k j m (λ e. ended (now.ending ∙ e)))) now)
      later j l m (inr (inr e)) =
          let same_step : k ≡ j = omega (arith, l, m, e) in
          subst (OwnRunsSame image world) same_step (are.now.0 refl)
