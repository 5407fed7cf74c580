-- Runners of a pair on their way along runs: one at its start, after a step more, and at the end; and two, which show where the runs part.
use Rattle.pair_host.proofs.Common.{◌≢◌, ◌≡◌, ◌⊎◌, ℕ, zero, suc, ◌-◌, ◌<◌, ◌≤◌, Bool, true, false, if◌then◌else◌, List, [], ◌++◌, length}
use Rattle.pair_host.proofs.Common.{drop, Some, None, refl, sym, ap, ◌∙◌, subst, inl, inr, arith, drop-append_seam, cases_lt, false≢true}
use Rattle.pair_host.proofs.Common.{Running, RunState, own_placement, World, own_placements, pair_step_at, Both, PairState, PairWorld}
use Rattle.pair_host.proofs.Common.{PairEvent, Image, IsRunner, Runner, OwnPairsSame, PairsDifferAt, nowhere, ArePairsInStep, IsPairReport}
use Rattle.pair_host.proofs.Common.{own_pair_run, IsPair, stage_of, told, PairRunner, PairRun}
use Rattle.std.specs.Prelude.{IsTrue}
use Rattle.std.proofs.Common.{◌↔◌, ◌+◌, add-one, add-suc, add-zero}
use Rattle.host_model.specs.Runs.{run_after, run_of}
use Rattle.pair_model.specs.PairRuns.{SamePair, pair_run, pair_spot}
use Rattle.pair_host.specs.{PairDiffers.first, PairOnItsWay.ArePairsSameButFirst, PairOnItsWay.IsPairOnItsWay, PairRunner.HasPairRoom}
use Rattle.pair_host.proofs.Turns.{over-stays, pair_step-tells}
use Rattle.pair_host.specs.declared.stage.Stage.TheVariants as stage

-- ---- one run

-- the state that a step takes a runner to
abbrev pub PairSteps : (w : ℕ) (world : PairWorld) (x y : PairRunner w) → Type 0
PairSteps w world x y = (p : PairState RunState) → IsPair w world x p → IsPair w world y (pair_step_at w world (own_placements w world) p)

-- a step adds one event at most
abbrev pub PairStepsRoom : (w : ℕ) (x y : PairRunner w) → Type 0
PairStepsRoom w x y = (n : ℕ) → HasPairRoom x (n + 1) → HasPairRoom y n

module _ (w : ℕ) (images : Both Image) (world : PairWorld) where
  run-next : (k : ℕ) → own_pair_run w images world (k + 1) ≡ pair_step_at w world (own_placements w world) (own_pair_run w images world k)
  unfolding pair_run
  run-next k = ap (own_pair_run w images world) (add-one k)

  -- once it has ended a run stays as it is
  last : (k n : ℕ) → (own_pair_run w images world k).ending ≢ Running → own_pair_run w images world (k + n) ≡ own_pair_run w images world k
  unfolding pair_run
  last k zero over = ap (own_pair_run w images world) (add-zero k)
  last k (suc n) over =
      ap (own_pair_run w images world) (add-suc k n)
      ∙ (ap (pair_step_at w world (own_placements w world)) (last k n over)
      ∙ over-stays w world (own_placements w world) (own_pair_run w images world k) over)

  pub stays : (k j : ℕ) → k ≤ j → (own_pair_run w images world k).ending ≢ Running
      → own_pair_run w images world j ≡ own_pair_run w images world k
  stays k j l over = let e : j ≡ k + (j - k) = omega (arith, l) in ap (own_pair_run w images world) e ∙ last k (j - k) over

  -- a runner that tells a run's events
  own_told : (V : World) (x : Runner w) (r : RunState) → IsRunner w V x r → IsRunner w V x (told x.host.trace.items r)
  own_told V x r is = subst (λ t. IsRunner w V x (told t r)) is.at.tells.trace is

  -- before the first step
  pub begins : (x : PairRunner w) → IsRunner w world.a x.a (run_of w world.a (own_placement w world.a) images.a 0)
      → IsRunner w world.b x.b (run_of w world.b (own_placement w world.b) images.b 0) → x.stage ≡ stage.ProviderRuns
      → x.trace.items ≡ [] → x.ending ≡ (run_of w world.b (own_placement w world.b) images.b 0).ending
      → IsPair w world x (own_pair_run w images world 0)
  unfolding pair_run run_after
  begins x a b at none over = record {
    a = own_told world.a x.a _ a;
    b = own_told world.b x.b _ b;
    stage = ap stage_of at;
    trace = none;
    ending = over;
    goes_on = λ goes. goes;
    enters = tt;
  }

  pub starts : (limit : ℕ) (x : PairRunner w) → IsPair w world x (own_pair_run w images world 0) → HasPairRoom x limit
      → IsPairOnItsWay w images world limit 0 x
  starts limit x is room = record { most = omega arith; goes_on = λ j l. absurd (omega (arith, l)); there = is; room = omega (arith, room) }

  -- after a step more
  pub goes-on : (limit k : ℕ) (x y : PairRunner w) → IsPairOnItsWay w images world limit k x → k < limit
      → (own_pair_run w images world k).ending ≡ Running → PairSteps w world x y → PairStepsRoom w x y
      → IsPairOnItsWay w images world limit (k + 1) y
  goes-on limit k x y on less running step room =
      let more : limit - k ≡ (limit - (k + 1)) + 1 = omega (arith, less) in
      record {
        most = omega (arith, less);
        goes_on = λ j l. elim (cases_lt j k) as (λ _. (own_pair_run w images world j).ending ≡ Running) [
          | inl m ↦ on.goes_on j m
          | inr m ↦ let e : j ≡ k = omega (arith, l, m) in ap (λ i. (own_pair_run w images world i).ending) e ∙ running
        ];
        there = subst (IsPair w world y) (sym (run-next k)) (step (own_pair_run w images world k) on.there);
        room = room (limit - (k + 1)) (subst (HasPairRoom x) more on.room);
      }

  -- room for one event more
  pub room-for-one : (limit k : ℕ) (x : PairRunner w) → IsPairOnItsWay w images world limit k x → k < limit → HasPairRoom x 1
  room-for-one limit k x on less = omega (arith, less, on.room)

  -- at the end, which is the run's or the limit
  pub reports : (limit k : ℕ) (x : PairRunner w) (report : PairRun) → IsPairOnItsWay w images world limit k x
      → ((own_pair_run w images world k).ending ≢ Running) ⊎ (k ≡ limit) → report.steps ≡ k
      → ((p : PairState RunState) → IsPair w world x p → report.spot ≡ pair_spot world (own_placements w world) p)
      → ((p : PairState RunState) → IsPair w world x p → report.ending ≡ p.ending)
      → ((p : PairState RunState) → IsPair w world x p → report.events.items ≡ p.trace) → IsPairReport w images world limit report
  reports limit k x report on over is spot ending events =
      let at : PairState RunState = own_pair_run w images world k in
      let back : own_pair_run w images world k ≡ own_pair_run w images world report.steps = ap (own_pair_run w images world) (sym is) in
      record {
        steps = record {
          most = subst (λ n. n ≤ limit) (sym is) on.most;
          goes_on = λ j l. on.goes_on j (subst (λ n. j < n) is l);
          done = subst (λ n. ((own_pair_run w images world n).ending ≢ Running) ⊎ (n ≡ limit)) (sym is) over;
        };
        spot = spot at on.there ∙ ap (pair_spot world (own_placements w world)) back;
        ending = ending at on.there ∙ ap (λ (p : PairState RunState). p.ending) back;
        events = events at on.there ∙ ap (λ (p : PairState RunState). p.trace) back;
      }

-- ---- two runs

-- lists that go on from one list are one where they are from there on
same-rest : (old xs ys es fs : List PairEvent) → xs ≡ old ++ es → ys ≡ old ++ fs → drop (length old) xs ≡ drop (length old) ys → xs ≡ ys
same-rest old xs ys es fs p q e =
    let one : drop (length old) xs ≡ es = ap (drop (length old)) p ∙ drop-append_seam old es in
    let other : drop (length old) ys ≡ fs = ap (drop (length old)) q ∙ drop-append_seam old fs in
    p ∙ ap (λ t. old ++ t) (sym one ∙ e ∙ other) ∙ sym q

module _ (images : Both Image) (world : PairWorld) where
  -- states at 4 and at 8 bytes are the same
  abbrev Same : (p q : PairState RunState) → Type 0
  Same p q = SamePair world (own_placements 4 world) p (own_placements 8 world) q

  -- at the start no event is left out
  same-from_none : (p q : PairState RunState) → ArePairsSameButFirst world 0 p q ↔ Same p q
  same-from_none p q = (
    λ x. record { side = x.side; spot = x.spot; trace = x.events; ending = x.ending },
    λ x. record { side = x.side; spot = x.spot; ending = x.ending; events = x.trace },
  )

  -- after a step of runs that were the same it is enough to compare the events that are new
  same-from_old : (p q : PairState RunState) → Same p q
      → let x : PairState RunState = pair_step_at 4 world (own_placements 4 world) p in
      let y : PairState RunState = pair_step_at 8 world (own_placements 8 world) q in
      ArePairsSameButFirst world (length p.trace) x y ↔ Same x y
  same-from_old p q same =
      let s = pair_step-tells 4 world (own_placements 4 world) p in
      let t = pair_step-tells 8 world (own_placements 8 world) q in (
        λ v. record {
          side = v.side;
          spot = v.spot;
          trace = same-rest p.trace _ _ s.0 t.0 s.1 (t.1 ∙ ap (λ u. u ++ t.0) (sym same.trace)) v.events;
          ending = v.ending;
        },
        λ v. record { side = v.side; spot = v.spot; ending = v.ending; events = ap (drop (length p.trace)) v.trace },
      )

  pub starts-in_step : (limit : ℕ) (x : PairRunner 4) (y : PairRunner 8) (same : Bool) → IsPair 4 world x (own_pair_run 4 images world 0)
      → IsPair 8 world y (own_pair_run 8 images world 0) → HasPairRoom x limit → HasPairRoom y limit
      → (IsTrue same ↔ ArePairsSameButFirst world 0 (own_pair_run 4 images world 0) (own_pair_run 8 images world 0))
      → ArePairsInStep images world limit 0 x y same
  starts-in_step limit x y same at4 at8 room4 room8 compared =
      let whole = same-from_none (own_pair_run 4 images world 0) (own_pair_run 8 images world 0) in
      record {
        at4 = starts 4 images world limit x at4 room4;
        at8 = starts 8 images world limit y at8 room8;
        before = λ j l. absurd (omega (arith, l));
        now = (λ t. whole.0 (compared.0 t), λ s. compared.1 (whole.1 s));
      }

  pub goes-on_in_step : (limit k n : ℕ) (x u : PairRunner 4) (y v : PairRunner 8) (same : Bool)
      → ArePairsInStep images world limit k x y true → k < limit → (own_pair_run 4 images world k).ending ≡ Running
      → n ≡ length (own_pair_run 4 images world k).trace
      → PairSteps 4 world x u → PairStepsRoom 4 x u → PairSteps 8 world y v → PairStepsRoom 8 y v
      → ((p q : PairState RunState) → IsPair 4 world u p → IsPair 8 world v q → IsTrue same ↔ ArePairsSameButFirst world n p q)
      → ArePairsInStep images world limit (k + 1) u v same
  goes-on_in_step limit k n x u y v same were less running is one room4 other room8 compared =
      let r : PairState RunState = own_pair_run 4 images world k in
      let s : PairState RunState = own_pair_run 8 images world k in
      let now : OwnPairsSame images world k = were.now.0 refl in
      let at4 = goes-on 4 images world limit k x u were.at4 less running one room4 in
      let at8 = goes-on 8 images world limit k y v were.at8 less (sym now.ending ∙ running) other room8 in
      let P : ℕ → PairState RunState → PairState RunState → Type 0 = λ m a b. IsTrue same ↔ ArePairsSameButFirst world m a b in
      let new = subst (λ m. P m (pair_step_at 4 world (own_placements 4 world) r) (pair_step_at 8 world (own_placements 8 world) s)) is
      (compared _ _ (one r were.at4.there) (other s were.at8.there)) in
      let whole = same-from_old r s now in
      let Q : PairState RunState → PairState RunState → Type 0 = λ a b. IsTrue same ↔ Same a b in
      record {
        at4 = at4;
        at8 = at8;
        before = λ j l. elim (cases_lt j k) as (λ _. OwnPairsSame images world j) [
          | inl m ↦ were.before j m
          | inr m ↦ let e : k ≡ j = omega (arith, l, m) in subst (OwnPairsSame images world) e now
        ];
        now = subst (λ a. Q a (own_pair_run 8 images world (k + 1))) (sym (run-next 4 images world k))
            (subst (Q (pair_step_at 4 world (own_placements 4 world) r)) (sym (run-next 8 images world k))
            ((λ t. whole.0 (new.0 t), λ z. new.1 (whole.1 z))));
      }

  -- where the runs part, once the two runners go on no more in step
  pub parts : (limit k : ℕ) (x : PairRunner 4) (y : PairRunner 8) (same : Bool) → ArePairsInStep images world limit k x y same
      → (same ≡ false) ⊎ (((own_pair_run 4 images world k).ending ≢ Running) ⊎ (k ≡ limit))
      → PairsDifferAt images world limit (if same then None else Some k)
  parts limit k x y false are over = first k are.at4.most (λ s. false≢true (are.now.1 s)) are.before
  parts limit k x y true are over = nowhere (λ j l. elim (cases_lt j k) as (λ _. OwnPairsSame images world j) [
    | inl m ↦ are.before j m
    | inr m ↦ later j l m over
  ])
    where
      later : (j : ℕ) → j ≤ limit → k ≤ j → (true ≡ false) ⊎ (((own_pair_run 4 images world k).ending ≢ Running) ⊎ (k ≡ limit))
          → OwnPairsSame images world j
      later j l m (inl e) = absurd (false≢true (sym e))
      later j l m (inr (inl ended)) =
          let now : OwnPairsSame images world k = are.now.0 refl in
          subst (λ a. Same a (own_pair_run 8 images world j)) (sym (stays 4 images world k j m ended))
          (subst (Same (own_pair_run 4 images world k)) (sym (stays 8 images world k j m (λ e. ended (now.ending ∙ e)))) now)
      later j l m (inr (inr e)) =
          let same_step : k ≡ j = omega (arith, l, m, e) in
          subst (OwnPairsSame images world) same_step (are.now.0 refl)
