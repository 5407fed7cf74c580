-- Laws of the steps of a pair: what its runner is at after a step of a side.
use Rattle.pair_host.proofs.Common.{◌≡◌, ℕ, true, false, if◌then◌else◌, List, [], ◌∷◌, ◌++◌, length, map, Option, Some, None, refl, sym, ap}
use Rattle.pair_host.proofs.Common.{◌∙◌, subst, append-nil, drop, slice_get, drop-append_seam, Ending, Event, Value, View, Returns, Calls}
use Rattle.pair_host.proofs.Common.{GoesOn, IsDue, NotifiedReturns, is_error, host_view, left, performed, own_placement, RunState}
use Rattle.pair_host.proofs.Common.{SavedFrame, run_step, own_placements, side_at, sides_at, Both, PairWorld, PairState, SideOf}
use Rattle.pair_host.proofs.Common.{running_side, function_step, function_step_seen, provider_ended, provider_step, with_a, with_b}
use Rattle.pair_host.proofs.Common.{IsNoFirstReturn, Rests, IsAt, IsQuiet, IsRunner, Runner, IsPair, IsProvider, SidesGoOn, listed, own}
use Rattle.pair_host.proofs.Common.{stage_of, stepped, told, PairRunner}
use Rattle.std.proofs.Math.Seq.{drop-length}
use Rattle.host_laws.proofs.Leaving.{ending_left, trace_left}
use Rattle.pair_laws.proofs.Finishing.{Unfinished}
use Rattle.pair_model.specs.Pairs.{OfB}
use Rattle.pair_host.proofs.{Past.view-alike, Sides.first_step, Sides.is_stepped, Sides.step_goes}
use Rattle.note_types.specs.declared.ending.Ending.TheVariants as ending
use Rattle.note_types.specs.declared.event.Event.TheVariants as event
use Rattle.pair_model.specs.Pairs as pairs
use Rattle.pair_model.specs.declared.event.PairEvent.TheVariants as pair_event

module _ (w : ℕ) (world : PairWorld) where
  -- the provider's runner while its side runs, and the caller's
  pub b_runs : (x : PairRunner w) (p : PairState RunState) → IsPair w world x p → running_side p.stage ≡ OfB
      → IsRunner w world.b x.b (own x.b p.b)
  b_runs x p is side = subst (IsProvider w world.b x.b p.b p.ending) side is.b

  b_goes : (s : pairs.Stage) (a b : Ending) → running_side s ≡ OfB → SidesGoOn s a b → b ≡ ending.Running
  b_goes pairs.ProviderRuns a b side on = on
  b_goes pairs.CallerRuns a b side on = absurd (cc)
  b_goes (pairs.CallTaken g f vs) a b side on = absurd (cc)
  b_goes (pairs.CallRuns g) a b side on = on.1
  b_goes (pairs.CallReturned g v) a b side on = absurd (cc)

  pub b_on : (x : PairRunner w) (p : PairState RunState) → IsPair w world x p → running_side p.stage ≡ OfB → p.ending ≡ ending.Running
      → p.b.ending ≡ ending.Running
  b_on x p is side on = b_goes p.stage p.a.ending p.b.ending side (is.goes_on on)

  still_goes : (s : pairs.Stage) (a b c : Ending) → running_side s ≡ OfB → SidesGoOn s a b → c ≡ ending.Running → SidesGoOn s a c
  still_goes pairs.ProviderRuns a b c side on goes = goes
  still_goes pairs.CallerRuns a b c side on goes = absurd (cc)
  still_goes (pairs.CallTaken g f vs) a b c side on goes = absurd (cc)
  still_goes (pairs.CallRuns g) a b c side on goes = (on.0, goes)
  still_goes (pairs.CallReturned g v) a b c side on goes = absurd (cc)

  -- ---- a step of the provider

  pub b_steps : (x y : PairRunner w) (p : PairState RunState) (told_now : List Event) (before : ℕ) → IsPair w world x p
      → running_side p.stage ≡ OfB → p.ending ≡ ending.Running
      → IsRunner w world.b y.b (run_step w world.b (own_placement w world.b) (own x.b p.b))
      → y.a ≡ x.a → y.stage ≡ x.stage → y.ending ≡ (run_step w world.b (own_placement w world.b) (own x.b p.b)).ending
      → before ≡ length x.b.host.trace.items
      → told_now ≡ (run_step w world.b (own_placement w world.b) (own x.b p.b)).trace
      → y.trace.items ≡ x.trace.items ++ map pair_event.B (listed (slice_get told_now before))
      → IsPair w world y (with_b (side_at w world.b (own_placement w world.b)) p (run_step w world.b (own_placement w world.b) p.b))
  b_steps x y p told_now before is side on there caller stage over many now trace =
      let Q = own_placement w world.b in
      let s = is_stepped w world.b Q x.b y.b p.b there in
      let same : y.ending ≡ (run_step w world.b Q p.b).ending = over ∙ (sym there.at.ending ∙ s.is.at.ending) in
      let events : listed (slice_get told_now before) ≡ drop (length p.b.trace) (run_step w world.b Q p.b).trace
      = (λ i. listed (slice_get ((now ∙ there.at.tells.trace) i) (many i))) ∙ (s.runner ∙ sym s.run) in
      record {
        a = subst (λ (z : Runner w). IsRunner w world.a z (own z p.a)) (sym caller) is.a;
        b = subst (IsProvider w world.b y.b (run_step w world.b Q p.b) (run_step w world.b Q p.b).ending) (sym side) s.is;
        stage = ap stage_of stage ∙ is.stage;
        trace = trace ∙ (λ i. is.trace i ++ map pair_event.B (events i));
        ending = same;
        goes_on = λ goes. still_goes p.stage p.a.ending p.b.ending (run_step w world.b Q p.b).ending side (is.goes_on on) goes;
        enters = is.enters;
      }

  -- ---- a step of the caller

  pub a_steps : (x y : PairRunner w) (p : PairState RunState) (told_now : List Event) (before : ℕ) → IsPair w world x p
      → p.stage ≡ pairs.CallerRuns → p.ending ≡ ending.Running
      → IsRunner w world.a y.a (run_step w world.a (own_placement w world.a) (own x.a p.a))
      → y.b ≡ x.b → y.stage ≡ x.stage → y.ending ≡ (run_step w world.a (own_placement w world.a) (own x.a p.a)).ending
      → before ≡ length x.a.host.trace.items
      → told_now ≡ (run_step w world.a (own_placement w world.a) (own x.a p.a)).trace
      → y.trace.items ≡ x.trace.items ++ map pair_event.A (listed (slice_get told_now before))
      → IsPair w world y (with_a (side_at w world.a (own_placement w world.a)) p (run_step w world.a (own_placement w world.a) p.a))
  a_steps x y p told_now before is at on there provider stage over many now trace =
      let Q = own_placement w world.a in
      let s = is_stepped w world.a Q x.a y.a p.a there in
      let e : Ending = (run_step w world.a Q p.a).ending in
      let same : y.ending ≡ e = over ∙ (sym there.at.ending ∙ s.is.at.ending) in
      let events : listed (slice_get told_now before) ≡ drop (length p.a.trace) (run_step w world.a Q p.a).trace
      = (λ i. listed (slice_get ((now ∙ there.at.tells.trace) i) (many i))) ∙ (s.runner ∙ sym s.run) in
      let rests : Rests w world.b x.b (own x.b p.b) =
      subst (λ (t : pairs.Stage). IsProvider w world.b x.b p.b p.ending (running_side t)) at is.b on in
      record {
        a = s.is;
        b = subst (λ (t : pairs.Stage). IsProvider w world.b y.b p.b e (running_side t)) (sym at)
            (λ goes. subst (λ (z : Runner w). Rests w world.b z (own z p.b)) (sym provider) rests);
        stage = ap stage_of stage ∙ is.stage;
        trace = trace ∙ (λ i. is.trace i ++ map pair_event.A (events i));
        ending = same;
        goes_on = λ goes. subst (λ (t : pairs.Stage). SidesGoOn t e p.b.ending) (sym at) goes;
        enters = is.enters;
      }

  -- ---- 1. B's own run

  ended_same : {S : Type 0} (sides : Both (SideOf S)) (q : PairState S) (e : Ending) → Unfinished e → provider_ended sides q e ≡ q
  ended_same sides q ending.Running u = refl
  ended_same sides q (ending.Finished v) u = absurd u
  ended_same sides q (ending.Raised x) u = refl
  ended_same sides q (ending.Mismatch x) u = refl
  ended_same sides q ending.ScriptEnd u = refl

  -- what the host of B's run sees
  b_view : (x : PairRunner w) (p : PairState RunState)
      → host_view w world.b (own_placement w world.b) (own x.b p.b) ≡ host_view w world.b (own_placement w world.b) p.b
  b_view x p = view-alike w world.b (own_placement w world.b) p.b x.b.host.trace.items

  pub provider_goes : (x y : PairRunner w) (p : PairState RunState) → p.b.ending ≡ ending.Running
      → IsNoFirstReturn (host_view w world.b (own_placement w world.b) (own x.b p.b))
      → IsPair w world y (with_b (side_at w world.b (own_placement w world.b)) p (run_step w world.b (own_placement w world.b) p.b))
      → IsPair w world y (stepped (provider_step (sides_at w world (own_placements w world)) p) p)
  unfolding provider_step
  provider_goes x y p on other there =
      let Q = own_placement w world.b in
      let sides = sides_at w world (own_placements w world) in
      let s = run_step w world.b Q p.b in
      let goes = step_goes w world.b Q p.b (subst IsNoFirstReturn (b_view x p) other) on in
      subst (IsPair w world y) (sym (ended_same sides (with_b sides.b p s) s.ending goes)) there

  -- what B's last step leaves of the pair
  abbrev finished : PairState RunState → Value → PairState RunState
  finished p v = record p { b = record (left p.b p.b.hosts) { ending = ending.Finished v }; ending = ending.Finished v }

  is_finished : (p : PairState RunState) (f : ℕ) (v : Value)
      → host_view w world.b (own_placement w world.b) p.b ≡ Some (Returns true f v) → p.b.ending ≡ ending.Running
      → with_b (side_at w world.b (own_placement w world.b)) p (run_step w world.b (own_placement w world.b) p.b) ≡ finished p v
  is_finished p f v seen on =
      let Q = own_placement w world.b in
      let after : RunState → PairState RunState = with_b (side_at w world.b Q) p in
      ap after (first_step w world.b Q p.b f v seen on)
      ∙ ap (λ t. record (finished p v) { trace = t })
      (ap (λ u. p.trace ++ map pair_event.B (drop (length p.b.trace) u)) (trace_left p.b p.b.hosts)
      ∙ (ap (λ u. p.trace ++ map pair_event.B u) (drop-length p.b.trace) ∙ append-nil p.trace))

  -- it finished, and is seen to be at what a step leaves
  provider_seen : (p : PairState RunState) (f : ℕ) (v : Value)
      → host_view w world.b (own_placement w world.b) p.b ≡ Some (Returns true f v) → p.b.ending ≡ ending.Running
      → stepped (provider_step (sides_at w world (own_placements w world)) p) p
      ≡ provider_ended (sides_at w world (own_placements w world)) (finished p v) (ending.Finished v)
  unfolding provider_step
  provider_seen p f v seen on =
      let Q = own_placement w world.b in
      let sides = sides_at w world (own_placements w world) in
      λ i. provider_ended sides (is_finished p f v seen on i) (first_step w world.b Q p.b f v seen on i).ending

  -- with an error: the pair ends so
  own_left : (x y : PairRunner w) (p : PairState RunState) (v : Value)
      → IsAt w world.b y.b (record (left (own x.b p.b) p.b.hosts) { ending = ending.Finished v })
      → IsAt w world.b y.b (own y.b (record (left p.b p.b.hosts) { ending = ending.Finished v }))
  own_left x y p v there = by p.b.hosts there where
    by : (hs : List SavedFrame) → IsAt w world.b y.b (record (left (own x.b p.b) hs) { ending = ending.Finished v })
        → IsAt w world.b y.b (own y.b (record (left p.b hs) { ending = ending.Finished v }))
    by [] r = subst (λ t. IsAt w world.b y.b (told t (record p.b { ending = ending.Finished v }))) r.tells.trace r
    by (g ∷ gs) r = subst (λ t. IsAt w world.b y.b (told t (record (left p.b (g ∷ gs)) { ending = ending.Finished v }))) r.tells.trace r

  pub provider_fails : (x y : PairRunner w) (p : PairState RunState) (f : ℕ) (v : Value) → IsPair w world x p → p.stage ≡ pairs.ProviderRuns
      → p.b.ending ≡ ending.Running
      → host_view w world.b (own_placement w world.b) (own x.b p.b) ≡ Some (Returns true f v) → is_error v ≡ true
      → IsAt w world.b y.b (record (left (own x.b p.b) p.b.hosts) { ending = ending.Finished v }) → IsQuiet world.b.script y.b
      → y.a ≡ x.a → y.stage ≡ x.stage → y.ending ≡ ending.Finished v → y.trace ≡ x.trace
      → IsPair w world y (stepped (provider_step (sides_at w world (own_placements w world)) p) p)
  provider_fails x y p f v is at on seen failed there quiet caller stage over trace =
      let sides = sides_at w world (own_placements w world) in
      let q = finished p v in
      let step = provider_seen p f v (sym (b_view x p) ∙ seen) on
      ∙ ap (λ b. if b then q else record q { b = sides.b.resting q.b; stage = pairs.CallerRuns; ending = sides.a.ending q.a }) failed in
      let run : IsRunner w world.b y.b (own y.b q.b) = record {
        at = own_left x y p v there;
        quiet = quiet;
        events = record { inside = λ h. absurd (cc); room = λ h. absurd (cc) };
      } in
      subst (IsPair w world y) (sym step)
      (record {
        a = subst (λ (z : Runner w). IsRunner w world.a z (own z p.a)) (sym caller) is.a;
        b = subst (λ (s : pairs.Stage). IsProvider w world.b y.b q.b (ending.Finished v) (running_side s)) (sym at) run;
        stage = ap stage_of stage ∙ is.stage;
        trace = ap (λ t. t.items) trace ∙ is.trace;
        ending = over;
        goes_on = λ goes. absurd (cc);
        enters = is.enters;
      })

  -- without one: it is A's turn
  rests_left : (x y : PairRunner w) (p : PairState RunState) → p.b.ending ≡ ending.Running
      → Rests w world.b y.b (left (own x.b p.b) p.b.hosts)
      → Rests w world.b y.b (own y.b (record (left p.b p.b.hosts) { ending = ending.Running }))
  rests_left x y p on there = by p.b.hosts there where
    by : (hs : List SavedFrame) → Rests w world.b y.b (left (own x.b p.b) hs)
        → Rests w world.b y.b (own y.b (record (left p.b hs) { ending = ending.Running }))
    by [] r = subst (λ e. Rests w world.b y.b (record p.b { trace = y.b.host.trace.items; ending = e })) on
        (subst (λ t. Rests w world.b y.b (told t p.b)) r.at.tells.trace r)
    by (g ∷ gs) r = subst (λ e. Rests w world.b y.b (record (left p.b (g ∷ gs)) { trace = y.b.host.trace.items; ending = e })) on
        (subst (λ t. Rests w world.b y.b (told t (left p.b (g ∷ gs)))) r.at.tells.trace r)

  pub provider_rests : (x y : PairRunner w) (p : PairState RunState) (f : ℕ) (v : Value) → IsPair w world x p → p.b.ending ≡ ending.Running
      → host_view w world.b (own_placement w world.b) (own x.b p.b) ≡ Some (Returns true f v) → is_error v ≡ false
      → Rests w world.b y.b (left (own x.b p.b) p.b.hosts)
      → y.a ≡ x.a → stage_of y.stage ≡ pairs.CallerRuns → y.ending ≡ p.a.ending → y.trace ≡ x.trace
      → IsPair w world y (stepped (provider_step (sides_at w world (own_placements w world)) p) p)
  provider_rests x y p f v is on seen fine there caller stage over trace =
      let sides = sides_at w world (own_placements w world) in
      let q = finished p v in
      let step = provider_seen p f v (sym (b_view x p) ∙ seen) on
      ∙ ap (λ b. if b then q else record q { b = sides.b.resting q.b; stage = pairs.CallerRuns; ending = sides.a.ending q.a }) fine in
      subst (IsPair w world y) (sym step)
      (record {
        a = subst (λ (z : Runner w). IsRunner w world.a z (own z p.a)) (sym caller) is.a;
        b = λ goes. rests_left x y p on there;
        stage = stage;
        trace = ap (λ t. t.items) trace ∙ is.trace;
        ending = over;
        goes_on = λ goes. goes;
        enters = tt;
      })

  -- ---- 5. a function of B

  seen_other : (p : PairState RunState) (g : ℕ) (o : Option View) → IsNoFirstReturn o
      → function_step_seen (sides_at w world (own_placements w world)) p g o
      ≡ Some (with_b (side_at w world.b (own_placement w world.b)) p (run_step w world.b (own_placement w world.b) p.b))
  seen_other p g None other = refl
  seen_other p g (Some (Returns true f v)) other = absurd other
  seen_other p g (Some (Returns false f v)) other = refl
  seen_other p g (Some (Calls place asking)) other = refl
  seen_other p g (Some (GoesOn entry callbacks frames mapped)) other = refl
  seen_other p g (Some (NotifiedReturns f v)) other = refl
  seen_other p g (Some (IsDue frames)) other = refl

  -- it goes on
  pub function_goes : (x y : PairRunner w) (p : PairState RunState) (g : ℕ)
      → IsNoFirstReturn (host_view w world.b (own_placement w world.b) (own x.b p.b))
      → IsPair w world y (with_b (side_at w world.b (own_placement w world.b)) p (run_step w world.b (own_placement w world.b) p.b))
      → IsPair w world y (stepped (function_step (sides_at w world (own_placements w world)) p g) p)
  unfolding function_step
  function_goes x y p g other there =
      subst (λ o. IsPair w world y (stepped o p))
      (sym (seen_other p g (host_view w world.b (own_placement w world.b) p.b) (subst IsNoFirstReturn (b_view x p) other))) there

  -- it returned, and what was told of it
  abbrev returned : PairState RunState → ℕ → ℕ → Value → PairState RunState
  returned p g f v = record p {
    b = record (left p.b p.b.hosts) { trace = (left p.b p.b.hosts).trace ++ event.Returned f v ∷ [] };
    stage = pairs.CallReturned g v;
    trace = p.trace ++ pair_event.B (event.Returned f v) ∷ [];
    ending = p.b.ending;
  }

  function_seen : (p : PairState RunState) (g f : ℕ) (v : Value)
      → host_view w world.b (own_placement w world.b) p.b ≡ Some (Returns true f v)
      → stepped (function_step (sides_at w world (own_placements w world)) p g) p ≡ returned p g f v
  unfolding function_step performed
  function_seen p g f v seen =
      let sides = sides_at w world (own_placements w world) in
      let e = event.Returned f v in
      let told_by : List Event → PairState RunState = λ t. record (returned p g f v) {
        trace = p.trace ++ map pair_event.B t;
        ending = (left p.b
            p.b.hosts).ending;
      } in
      ap (λ o. stepped (function_step_seen sides p g o) p) seen
      ∙ (ap told_by (ap (λ u. drop (length p.b.trace) (u ++ e ∷ [])) (trace_left p.b p.b.hosts) ∙ drop-append_seam p.b.trace (e ∷ []))
      ∙ ap (λ z. record (returned p g f v) { ending = z }) (ending_left p.b p.b.hosts))

  rests_returned : (x y : PairRunner w) (p : PairState RunState) (t : List Event) → Rests w world.b y.b (left (own x.b p.b) p.b.hosts)
      → Rests w world.b y.b (own y.b (record (left p.b p.b.hosts) { trace = t }))
  rests_returned x y p t there = by p.b.hosts there where
    by : (hs : List SavedFrame) → Rests w world.b y.b (left (own x.b p.b) hs)
        → Rests w world.b y.b (own y.b (record (left p.b hs) { trace = t }))
    by [] r = subst (λ u. Rests w world.b y.b (told u p.b)) r.at.tells.trace r
    by (h ∷ hs) r = subst (λ u. Rests w world.b y.b (told u (left p.b (h ∷ hs)))) r.at.tells.trace r

  pub function_returns : (x y : PairRunner w) (p : PairState RunState) (g f : ℕ) (v : Value) → IsPair w world x p
      → p.stage ≡ pairs.CallRuns g → p.ending ≡ ending.Running
      → host_view w world.b (own_placement w world.b) (own x.b p.b) ≡ Some (Returns true f v)
      → Rests w world.b y.b (left (own x.b p.b) p.b.hosts)
      → y.a ≡ x.a → stage_of y.stage ≡ pairs.CallReturned g v → y.ending ≡ x.ending
      → y.trace.items ≡ x.trace.items ++ pair_event.B (event.Returned f v) ∷ []
      → IsPair w world y (stepped (function_step (sides_at w world (own_placements w world)) p g) p)
  function_returns x y p g f v is at on seen there caller stage over trace =
      let go = subst (λ (s : pairs.Stage). SidesGoOn s p.a.ending p.b.ending) at (is.goes_on on) in
      subst (IsPair w world y) (sym (function_seen p g f v (sym (b_view x p) ∙ seen)))
      (record {
        a = subst (λ (z : Runner w). IsRunner w world.a z (own z p.a)) (sym caller) is.a;
        b = λ goes. rests_returned x y p ((left p.b p.b.hosts).trace ++ event.Returned f v ∷ []) there;
        stage = stage;
        trace = trace ∙ ap (λ t. t ++ pair_event.B (event.Returned f v) ∷ []) is.trace;
        ending = over ∙ (is.ending ∙ (on ∙ sym go.1));
        goes_on = λ goes. go.0;
        enters = tt;
      })
