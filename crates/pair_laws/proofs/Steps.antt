-- The law of a pair's step, rule by rule.
use Rattle.pair_laws.proofs.Common.{◌≡◌, ℕ, Bool, true, false, if◌then◌else◌, List, [], ◌∷◌, ◌++◌, map, length, Option, Some, None}
use Rattle.pair_laws.proofs.Common.{option_map, refl, sym, ap, ap₂, subst, option_map_or, same_Some, some_of_map, views_stand, world_meets}
use Rattle.pair_laws.proofs.Common.{Stands, Ending, Event, Seen, Value, mapped, Image, Config, Asking, View, Returns, Calls, GoesOn}
use Rattle.pair_laws.proofs.Common.{NotifiedReturns, IsDue, Leaves, Ends, asked_args, call_event, is_error, signature_result, Placement}
use Rattle.pair_laws.proofs.Common.{RunState, given, PairEvent, BoundCall, bound_at, neutral_sides, PairWorld, Both, Stage, ProviderRuns}
use Rattle.pair_laws.proofs.Common.{CallerRuns, CallTaken, CallRuns, CallReturned, PairState, SideOf, with_a, with_b, provider_ended}
use Rattle.pair_laws.proofs.Common.{provider_step, call_refused, call_told, call_step, plain_step, caller_step_seen, caller_step}
use Rattle.pair_laws.proofs.Common.{function_entered, enter_step, function_step_seen, function_step, call_answered, reply_refused}
use Rattle.pair_laws.proofs.Common.{reply_step, stage_step, pair_step, pair_step_at, IsPairAt, PairStands, SideGoesWell, StageGoesWell}
use Rattle.std.proofs.Common.{drop}
use Rattle.host_laws.proofs.{Entering.enter_stands, Leaving.end_stands, Leaving.leave_stands}
use Rattle.host_laws.specs.PlanFits.{CanEnter}
use Rattle.neutral_machine.specs.WorldFits.{WorldFits}
use Rattle.step_sound.proofs.RunSteps.{run_step_keeps_standing}
use Rattle.host_model.specs.Runs.{run_step}
use Rattle.pair_model.specs.{Rules.step_if, PairRuns.sides_at}
use Rattle.pair_laws.specs.Laws.{ReplyGoesWell, PairStepKeepsStanding}
use Rattle.pair_laws.proofs.Sides.{returns_top, unseen, rests_stands, bound_reply_stands}
use Rattle.note_types.specs.declared.ending.Ending.TheVariants as ending
use Rattle.note_types.specs.declared.event.Event.TheVariants as event
use Rattle.host_model.specs.HostSteps as width
use Rattle.neutral_machine.specs.NeutralHost as neutral
use Rattle.pair_model.specs.declared.event.PairEvent.TheVariants as pair_event

-- the events that a side adds are the same where its lists are
events_alike : (of : Event → PairEvent) (t u : List PairEvent) (xs ys before after : List Event) → t ≡ u → xs ≡ before → ys ≡ after
    → t ++ map of (drop (length xs) ys) ≡ u ++ map of (drop (length before) after)
events_alike of t u xs ys before after e f g = ap₂ (λ v w. v ++ map of w) e (ap₂ (λ x y. drop (length x) y) f g)

module _ (w : ℕ) (images : Both Image) (world : PairWorld) (P : Both Placement) (ok : IsPairAt w images world P) where
  abbrev N : Both (SideOf Config)
  N = neutral_sides world images

  abbrev W : Both (SideOf RunState)
  W = sides_at w world P

  abbrev A : Config → RunState → Type 0
  A a r = Stands w world.a P.a (mapped images.a P.a.image) a r

  abbrev B : Config → RunState → Type 0
  B a r = Stands w world.b P.b (mapped images.b P.b.image) a r

  abbrev Pairs : PairState Config → PairState RunState → Type 0
  Pairs p q = PairStands w images world P p q

  fits_a : WorldFits world.a
  fits_a = world_meets images.a world.a ok.a.run

  fits_b : WorldFits world.b
  fits_b = world_meets images.b world.b ok.b.run

  -- a step at the width that is there and goes alike
  record Alike (p : PairState Config) (o : Option (PairState RunState)) : Type 0 where
    to : PairState RunState
    is : o ≡ Some to
    stands : Pairs p to

  -- ---- a side has come to a state

  a_comes : (p : PairState Config) (q : PairState RunState) (a : Config) (r : RunState) → Pairs p q → A a r
      → Pairs (with_a N.a p a) (with_a W.a q r)
  a_comes p q a r st s = record {
    a = s;
    b = st.b;
    stage = st.stage;
    trace = events_alike pair_event.A q.trace p.trace q.a.trace r.trace p.a.trace a.trace st.trace st.a.trace s.trace;
    ending = s.ending;
  }

  b_comes : (p : PairState Config) (q : PairState RunState) (a : Config) (r : RunState) → Pairs p q → B a r
      → Pairs (with_b N.b p a) (with_b W.b q r)
  b_comes p q a r st s = record {
    a = st.a;
    b = s;
    stage = st.stage;
    trace = events_alike pair_event.B q.trace p.trace q.b.trace r.trace p.b.trace a.trace st.trace st.b.trace s.trace;
    ending = s.ending;
  }

  staged : (p : PairState Config) (q : PairState RunState) (s : Stage) → Pairs p q → Pairs (record p { stage = s }) (record q { stage = s })
  staged p q s st = record { a = st.a; b = st.b; stage = refl; trace = st.trace; ending = st.ending }

  -- ---- 1. B's own run

  own_ends : (p : PairState Config) (q : PairState RunState) (x y : Ending) → y ≡ x → Pairs p q
      → Pairs (provider_ended N p x) (provider_ended W q y)
  own_ends p q x y e st = subst (λ z. Pairs (provider_ended N p x) (provider_ended W q z)) (sym e) (go x)
    where
      go : (x : Ending) → Pairs (provider_ended N p x) (provider_ended W q x)
      go (ending.Finished v) = by (is_error v)
        where
          by : (t : Bool) → Pairs (if t then p else record p { b = N.b.resting p.b; stage = CallerRuns; ending = N.a.ending p.a })
              (if t then q else record q { b = W.b.resting q.b; stage = CallerRuns; ending = W.a.ending q.a })
          by true = st
          by false = record {
            a = st.a;
            b = rests_stands w images.b world.b P.b ok.b p.b q.b st.b;
            stage = refl;
            trace = st.trace;
            ending = st.a.ending;
          }
      go c = st

  own_goes : (p c : PairState Config) (q : PairState RunState) → SideGoesWell w images.b world.b p.b → Pairs p q
      → provider_step N p ≡ Some c → Alike c (provider_step W q)
  unfolding provider_step
  own_goes p c q well st e =
      let s = some_of_map (λ s. provider_ended N (with_b N.b p s) (N.b.ending s)) (N.b.step p.b) c e in
      let stands = run_step_keeps_standing w images.b world.b P.b p.b s.0 q.b ok.b (λ on. well.step s.0 s.1) st.b s.1 in
      record {
        to = provider_ended W (with_b W.b q (run_step w world.b P.b q.b)) (run_step w world.b P.b q.b).ending;
        is = refl;
        stands = subst (λ z. Pairs z (provider_ended W (with_b W.b q (run_step w world.b P.b q.b)) (run_step w world.b P.b q.b).ending)) s.2
            (own_ends (with_b N.b p s.0) (with_b W.b q (run_step w world.b P.b q.b)) s.0.ending
            (run_step w world.b P.b q.b).ending stands.ending (b_comes p q s.0 (run_step w world.b P.b q.b) st stands));
      }

  -- ---- 2 and 3. A's steps

  call_goes : (p : PairState Config) (q : PairState RunState) (place : ℕ) (asking : Asking) (to : BoundCall) → Pairs p q
      → Pairs (call_step world N p place asking to) (call_step world W q place asking to)
  unfolding call_step
  call_goes p q place asking to st =
      subst (λ at. Pairs (call_step world N p place asking to)
      (call_told W q to (call_event place asking) (asked_args asking) (call_refused world at to.function place asking)))
      (sym st.b.script)
      (go (call_refused world p.b.script to.function place asking))
    where
      told : (n : Ending) → Pairs (with_a N.a p (N.a.performed p.a (Ends (call_event place asking ∷ []) n)))
          (with_a W.a q (W.a.performed q.a (Ends (call_event place asking ∷ []) n)))
      told n = a_comes p q _ _ st (end_stands w world.a P.a (mapped images.a P.a.image) ok.a.width fits_a ok.a.placement p.a q.a
          (call_event place asking ∷ []) n st.a)

      go : (o : Option Ending) → Pairs (call_told N p to (call_event place asking) (asked_args asking) o)
          (call_told W q to (call_event place asking) (asked_args asking) o)
      go (Some n) = told n
      go None = staged _ _ (CallTaken to.signature to.function (map (λ (x : Seen). x.value) (asked_args asking))) (told ending.Running)

  plain_goes : (p c : PairState Config) (q : PairState RunState) → SideGoesWell w images.a world.a p.a → Pairs p q
      → plain_step N p ≡ Some c → Alike c (plain_step W q)
  plain_goes p c q well st e =
      let s = some_of_map (with_a N.a p) (N.a.step p.a) c e in
      let stands = run_step_keeps_standing w images.a world.a P.a p.a s.0 q.a ok.a (λ on. well.step s.0 s.1) st.a s.1 in
      record {
        to = with_a W.a q (run_step w world.a P.a q.a);
        is = refl;
        stands = subst (λ z. Pairs z (with_a W.a q (run_step w world.a P.a q.a))) s.2
            (a_comes p q s.0 (run_step w world.a P.a q.a) st stands);
      }

  a_goes : (p c : PairState Config) (q : PairState RunState) → SideGoesWell w images.a world.a p.a → Pairs p q
      → caller_step world N p ≡ Some c → Alike c (caller_step world W q)
  unfolding caller_step
  a_goes p c q well st e = go (neutral.host_view world.a p.a p.a.spot) refl e
    where
      seen : (v : View) → neutral.host_view world.a p.a p.a.spot ≡ Some v → width.host_view w world.a P.a q.a ≡ Some v
      seen v at = views_stand w world.a P.a (mapped images.a P.a.image) p.a q.a ok.a.width fits_a ok.a.placement well.room st.a v at

      go : (o : Option View) → neutral.host_view world.a p.a p.a.spot ≡ o → caller_step_seen world N p o ≡ Some c
          → Alike c (caller_step_seen world W q (width.host_view w world.a P.a q.a))
      go None at e =
          let s = some_of_map (with_a N.a p) (N.a.step p.a) c e in
          subst (λ o. Alike c (caller_step_seen world W q o))
          (sym (unseen w images.a world.a P.a ok.a p.a s.0 q.a st.a well.running s.1 at)) (plain_goes p c q well st e)
      go (Some (Returns first f v)) at e = subst (λ o. Alike c (caller_step_seen world W q o)) (sym (seen (Returns first f v) at))
          (plain_goes p c q well st e)
      go (Some (GoesOn n k h m)) at e = subst (λ o. Alike c (caller_step_seen world W q o)) (sym (seen (GoesOn n k h m) at))
          (plain_goes p c q well st e)
      go (Some (NotifiedReturns f v)) at e = subst (λ o. Alike c (caller_step_seen world W q o)) (sym (seen (NotifiedReturns f v) at))
          (plain_goes p c q well st e)
      go (Some (IsDue n)) at e = subst (λ o. Alike c (caller_step_seen world W q o)) (sym (seen (IsDue n) at)) (plain_goes p c q well st e)
      go (Some (Calls place asking)) at e = subst (λ o. Alike c (caller_step_seen world W q o)) (sym (seen (Calls place asking) at))
          (by (bound_at world.binds world.a.notes place) e)
        where
          by : (o : Option BoundCall) → option_map_or (λ to. Some (call_step world N p place asking to)) o (plain_step N p) ≡ Some c
              → Alike c (option_map_or (λ to. Some (call_step world W q place asking to)) o (plain_step W q))
          by None e = plain_goes p c q well st e
          by (Some to) e = record {
            to = call_step world W q place asking to;
            is = refl;
            stands = subst
                (λ z. Pairs z (call_step world W q place asking to)) (same_Some _ c e) (call_goes p q place asking to st);
          }

  -- ---- 4. the entering

  within_goes : (p : PairState Config) (q : PairState RunState) (g : ℕ) (x y : Ending) → y ≡ x → Pairs p q
      → Pairs (function_entered g p x) (function_entered g q y)
  within_goes p q g x y e st = subst (λ z. Pairs (function_entered g p x) (function_entered g q z)) (sym e) (go x)
    where
      go : (x : Ending) → Pairs (function_entered g p x) (function_entered g q x)
      go ending.Running = staged p q (CallRuns g) st
      go c = st

  enter_goes : (p : PairState Config) (q : PairState RunState) (g f : ℕ) (values : List Value) → CanEnter w world.b p.b f values
      → Pairs p q → Pairs (enter_step N p g f values) (enter_step W q g f values)
  unfolding enter_step
  enter_goes p q g f values can st =
      let s = enter_stands w world.b P.b (mapped images.b P.b.image) ok.b.width fits_b ok.b.placement p.b q.b
      (event.Entered f (map given values)) 0 f values can st.b in
      within_goes _ _ g _ _ s.ending (b_comes p q _ _ st s)

  -- ---- 5. a function of B

  b_plain : (p c : PairState Config) (q : PairState RunState) → SideGoesWell w images.b world.b p.b → Pairs p q
      → option_map (with_b N.b p) (N.b.step p.b) ≡ Some c → Alike c (option_map (with_b W.b q) (W.b.step q.b))
  b_plain p c q well st e =
      let s = some_of_map (with_b N.b p) (N.b.step p.b) c e in
      let stands = run_step_keeps_standing w images.b world.b P.b p.b s.0 q.b ok.b (λ on. well.step s.0 s.1) st.b s.1 in
      record {
        to = with_b W.b q (run_step w world.b P.b q.b);
        is = refl;
        stands = subst (λ z. Pairs z (with_b W.b q (run_step w world.b P.b q.b))) s.2
            (b_comes p q s.0 (run_step w world.b P.b q.b) st stands);
      }

  b_goes : (p c : PairState Config) (q : PairState RunState) (g : ℕ) → SideGoesWell w images.b world.b p.b → Pairs p q
      → function_step N p g ≡ Some c → Alike c (function_step W q g)
  unfolding function_step
  b_goes p c q g well st e = go (neutral.host_view world.b p.b p.b.spot) refl e
    where
      seen : (v : View) → neutral.host_view world.b p.b p.b.spot ≡ Some v → width.host_view w world.b P.b q.b ≡ Some v
      seen v at = views_stand w world.b P.b (mapped images.b P.b.image) p.b q.b ok.b.width fits_b ok.b.placement well.room st.b v at

      go : (o : Option View) → neutral.host_view world.b p.b p.b.spot ≡ o → function_step_seen N p g o ≡ Some c
          → Alike c (function_step_seen W q g (width.host_view w world.b P.b q.b))
      go None at e =
          let s = some_of_map (with_b N.b p) (N.b.step p.b) c e in
          subst (λ o. Alike c (function_step_seen W q g o)) (sym
          (unseen w images.b world.b P.b ok.b p.b s.0 q.b st.b well.running s.1 at)) (b_plain p c q well st e)
      go (Some (Returns true f v)) at e =
          let top = returns_top world.b p.b p.b.spot true f v at in
          let s = leave_stands w world.b P.b (mapped images.b P.b.image) ok.b.width fits_b ok.b.placement p.b q.b top.frame top.rest
          (event.Returned f v) top.is st.b in
          let t = record (with_b W.b q (W.b.performed q.b (Leaves (event.Returned f v)))) { stage = CallReturned g v } in
          subst (λ o. Alike c (function_step_seen W q g o)) (sym (seen (Returns true f v) at))
          (record {
            to = t;
            is = refl;
            stands = subst (λ z. Pairs z t) (same_Some _ c e)
                (staged _ _ (CallReturned g v) (b_comes p q _ _ st s));
          })
      go (Some (Returns false f v)) at e = subst (λ o. Alike c (function_step_seen W q g o)) (sym (seen (Returns false f v) at))
          (b_plain p c q well st e)
      go (Some (GoesOn n k h m)) at e = subst (λ o. Alike c (function_step_seen W q g o)) (sym (seen (GoesOn n k h m) at))
          (b_plain p c q well st e)
      go (Some (NotifiedReturns f v)) at e = subst (λ o. Alike c (function_step_seen W q g o)) (sym (seen (NotifiedReturns f v) at))
          (b_plain p c q well st e)
      go (Some (IsDue n)) at e = subst (λ o. Alike c (function_step_seen W q g o)) (sym (seen (IsDue n) at)) (b_plain p c q well st e)
      go (Some (Calls place asking)) at e = subst (λ o. Alike c (function_step_seen W q g o)) (sym (seen (Calls place asking) at))
          (b_plain p c q well st e)

  -- ---- 6. the reply

  reply_goes : (p : PairState Config) (q : PairState RunState) (g : ℕ) (v : Value)
      → ReplyGoesWell w world.a p.a (signature_result world.a.notes g) v → Pairs p q
      → Pairs (reply_step world N p g v) (reply_step world W q g v)
  unfolding reply_step
  reply_goes p q g v well st =
      subst (λ at. Pairs (reply_step world N p g v) (call_answered W q (signature_result world.a.notes g) v
      (reply_refused world.a at (signature_result world.a.notes g) v))) (sym st.a.script)
      (go (reply_refused world.a p.a.script (signature_result world.a.notes g) v) refl)
    where
      go : (o : Option Ending) → reply_refused world.a p.a.script (signature_result world.a.notes g) v ≡ o
          → Pairs (call_answered N p (signature_result world.a.notes g) v o) (call_answered W q (signature_result world.a.notes g) v o)
      go (Some n) e = a_comes p q _ _ st (end_stands w world.a P.a
          (mapped images.a P.a.image) ok.a.width fits_a ok.a.placement p.a q.a [] n st.a)
      go None e = record {
        a = bound_reply_stands w images.a world.a P.a ok.a p.a q.a (signature_result world.a.notes g) v well.room (well.value e) st.a;
        b = st.b;
        stage = refl;
        trace = ap (λ t. t ++ pair_event.Bound v ∷ []) st.trace;
        ending = st.ending;
      }

  -- ---- a step

  stage_goes : (p c : PairState Config) (q : PairState RunState) (s : Stage) → StageGoesWell w images world p s → Pairs p q
      → stage_step world N p s ≡ Some c → Alike c (stage_step world W q s)
  stage_goes p c q ProviderRuns well st e = own_goes p c q well st e
  stage_goes p c q CallerRuns well st e = a_goes p c q well st e
  stage_goes p c q (CallTaken g f values) well st e = record {
    to = enter_step W q g f values;
    is = refl;
    stands = subst
        (λ z. Pairs z (enter_step W q g f values)) (same_Some _ c e) (enter_goes p q g f values well st);
  }
  stage_goes p c q (CallRuns g) well st e = b_goes p c q g well st e
  stage_goes p c q (CallReturned g v) well st e = record {
    to = reply_step world W q g v;
    is = refl;
    stands = subst
        (λ z. Pairs z (reply_step world W q g v)) (same_Some _ c e) (reply_goes p q g v well st);
  }

  pair_goes : (p c : PairState Config) (q : PairState RunState) → (p.ending ≡ ending.Running → StageGoesWell w images world p p.stage)
      → Pairs p q → pair_step world N p ≡ Some c → Alike c (pair_step world W q)
  unfolding pair_step
  pair_goes p c q well st e =
      subst (λ x. Alike c (step_if world W q x)) (sym st.ending) (go p.ending refl e)
    where
      same : Some p ≡ Some c → Alike c (Some q)
      same e = record { to = q; is = refl; stands = subst (λ z. Pairs z q) (same_Some p c e) st }

      go : (x : Ending) → p.ending ≡ x → step_if world N p x ≡ Some c → Alike c (step_if world W q x)
      go ending.Running on e = subst (λ s. Alike c (stage_step world W q s)) (sym st.stage) (stage_goes p c q p.stage (well on) st e)
      go t on e = same e

pub pair_step_keeps_standing : PairStepKeepsStanding
unfolding pair_step_at
pair_step_keeps_standing w images world P p c q ok well st e =
    let x = pair_goes w images world P ok p c q well st e in
    subst (PairStands w images world P c) (sym (ap (λ o. option_map_or (λ z. z) o q) x.is)) x.stands
