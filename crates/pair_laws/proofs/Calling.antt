-- A pair's steps while A is ahead: A's own, and the telling of a bound call.
use Rattle.pair_laws.proofs.Common.{◌≡◌, ℕ, ◌≤◌, Bool, true, false, not, nat_eq, nat_lt, List, [], ◌∷◌, ◌++◌, map, length, Option, Some}
use Rattle.pair_laws.proofs.Common.{None, option_map, refl, sym, ap, ap₂, ◌∙◌, subst, arith, inl, inr, ◌<◌, slice_get, AllByRecursion}
use Rattle.pair_laws.proofs.Common.{list_all, zip, ValuesFit, IsValue, option_map_or, and_parts, false≢true, true≢false}
use Rattle.pair_laws.proofs.Common.{same_Some, some_of_map, views_stand, world_meets, Ending, Event, FnNote, Signature, Seen}
use Rattle.pair_laws.proofs.Common.{mapped, Image, state_below, States, sound_room, Config, call_under_way, Asking, View, Calls, Ends}
use Rattle.pair_laws.proofs.Common.{asked_args, asking_refused, call_event, function_params, signature_params, made_objects, Placement}
use Rattle.pair_laws.proofs.Common.{RunState, AllAgree, BoundCall, bound_at, param_agrees, signature_agrees, neutral_sides, PairWorld, Both}
use Rattle.pair_laws.proofs.Common.{CallerRuns, PairState, SideOf, with_a, caller_step_seen, caller_step, provider_refused, call_refused}
use Rattle.pair_laws.proofs.Common.{call_told, call_step, parameter_refused, plain_step, IsPairAt, PairStands, TypedSide}
use Rattle.std.proofs.{Common.◌⊎◌, lemmas.Bool.lt-ltb, lemmas.Bool.cases_lt}
use Rattle.pair_laws.proofs.{Joining.Ready, Joining.StageHolds, Joining.PairHolds, Joining.Goes, Joining.world_a, Telling.stops_ends}
use Rattle.pair_laws.proofs.{Telling.call_stops, Telling.bound_taken, Telling.read_at, Agreeing.bound_call, Agreeing.agreed_lends}
use Rattle.pair_laws.proofs.{Crossing.CanTake, Crossing.call_holds, Holding.Rests, Resting.AsksAt, Resting.asks_at, SideSteps.side_steps}
use Rattle.pair_laws.proofs.Values.{arguments_known, slots_long}
use Rattle.host_laws.proofs.Plans.{none_left}
use Rattle.host_model.specs.HostSteps as width
use Rattle.neutral_machine.specs.NeutralHost as neutral

agreed_params : (f : FnNote) (s : Signature) → signature_agrees f s ≡ true → list_all param_agrees (zip s.params f.params) ≡ true
agreed_params f s e = (and_parts (list_all param_agrees (zip s.params f.params)) _
    (and_parts (nat_eq (length s.params) (length f.params)) _ e).1).0

served_all : (n m k : ℕ) → n ≡ m → m ≤ k → nat_lt n k ≡ false → m ≡ k
served_all n m k e l f = go (split m k l)
  where
    split : (m k : ℕ) → m ≤ k → (m ≡ k) ⊎ (m < k)
    split m k l = by (cases_lt m k)
      where
        by : (m < k) ⊎ (k ≤ m) → (m ≡ k) ⊎ (m < k)
        by (inl x) = inr x
        by (inr x) = inl (omega (arith, l, x))

    go : (m ≡ k) ⊎ (m < k) → m ≡ k
    go (inl x) = x
    go (inr x) = absurd (true≢false (sym (lt-ltb n k (subst (λ y. y < k) (sym e) x)) ∙ f))

nots : (t : Bool) → not t ≡ true → t ≡ false
nots true e = absurd (false≢true e)
nots false e = refl

module _ (images : Both Image) (world : PairWorld) (sa sb : States) (ta : TypedSide images.a world.a sa)
    (tb : TypedSide images.b world.b sb) where
  abbrev N : Both (SideOf Config)
  N = neutral_sides world images

  abbrev H : PairState Config → Type 0
  H p = PairHolds images world sa sb ta tb p

  abbrev asking_of : Asking → View → Asking
  asking_of k (Calls p j) = j
  asking_of k _ = k

  asked : (a : Config) (place : ℕ) (asking : Asking) → (x : AsksAt world.a sa a place)
      → neutral.host_view world.a a a.spot ≡ Some (Calls place asking) → neutral.asking_at world.a a place x.target ≡ Some asking
  unfolding neutral.host_view
  asked a place asking x e =
      let seen = sym (ap (neutral.call_seen world.a a) (ap call_under_way x.frames ∙ x.under))
      ∙ sym (ap (neutral.host_view world.a a) x.spot) ∙ e in
      let m = some_of_map (Calls place) (neutral.asking_at world.a a place x.target) (Calls place asking) seen in
      m.1 ∙ ap (λ v. Some (asking_of asking v)) m.2

  -- what B is to take
  can_take : (w : ℕ) (P : Both Placement) (p : PairState Config) (q : PairState RunState) (place g f : ℕ) (asking : Asking)
      → IsPairAt w images world P → PairStands w images world P p q → AllAgree world.a.notes world.b.notes world.binds
      → (h : Ready world.a sa p.a) → Rests world.b p.b → neutral.host_view world.a p.a p.a.spot ≡ Some (Calls place asking)
      → (x : AsksAt world.a sa p.a place) → bound_at world.binds world.a.notes place ≡ Some (record { signature = g; function = f })
      → call_refused world p.b.script f place asking ≡ None → CanTake world.b p.b f (map (λ (s : Seen). s.value) (asked_args asking))
  can_take w P p q place g f asking at st agree h b seen x bound none =
      let c = bound_call world.a.notes world.b.notes world.binds place (record { signature = g; function = f }) agree bound in
      let n = none_left (asking_refused place asking) (provider_refused world.b p.b.script f (asked_args asking)) none in
      let t = bound_taken world.b p.b.script f (asked_args asking) n.1 in
      let number : x.well.number ≡ g = same_Some x.well.number g (sym x.well.site ∙ c.site) in
      let there : slice_get world.a.notes.signature g ≡ Some x.well.signature = ap (slice_get world.a.notes.signature) (sym number)
      ∙ x.well.there in
      let agreed = c.agrees x.well.signature there in
      let ps : signature_params world.a.notes g ≡ x.well.signature.params = ap
      (λ (o : Option Signature). option_map_or (λ (s : Signature). s.params) o []) there in
      let qs : function_params world.b.notes f ≡ c.note.params = ap
      (λ (o : Option FnNote). option_map_or (λ (s : FnNote). s.params) o []) c.there in
      let view = views_stand w world.a P.a (mapped images.a P.a.image) p.a q.a at.a.width
      (world_meets images.a world.a at.a.run) at.a.placement (sound_room w world.a p.a at.a.width h.holds.sound) st.a
      (Calls place asking) seen in
      let r = read_at w world.a P.a q.a place g asking view c.site n.0 in
      let may = and_parts (not (nat_eq f world.b.notes.entry)) _ c.may in
      let enter : c.note.enter ≡ true = sym (ap (λ (o : Option FnNote). option_map_or (λ (s : FnNote). s.enter) o false) c.there) ∙ may.1 in
      let made = made_objects world.b.notes world.b.script p.b.script.entries in
      let long = ap length ps ∙ (agreed_lends c.note x.well.signature agreed).0 in
      let known = arguments_known w world.a.notes world.b.notes P.a (width.objects_at world.a q.a) made q.a.machine.byte 0
      (signature_params world.a.notes g) c.note.params r.numbers long
      (slots_long w q.a.machine _ (signature_params world.a.notes g) r.numbers r.slots)
      (ap (λ zs. list_all param_agrees (zip zs c.note.params)) ps ∙ agreed_params c.note x.well.signature agreed)
      ((tb.read.notes.functions f c.note c.there).entered enter).takes
      (sym (ap₂ (λ zs ys. parameter_refused made 0 zs ys) qs r.args) ∙ t.1) in
      record {
        rests = b;
        made = served_all p.b.script.thunks p.b.made (length world.b.notes.thunk) b.served b.thunks t.0;
        other = nots (nat_eq f world.b.notes.entry) may.0;
        note = c.note;
        there = c.there;
        enter = enter;
        values = subst (λ ys. ValuesFit made c.note.params (map (λ (s : Seen). s.value) ys)) (sym r.args) known.0;
        known = subst (λ ys. AllByRecursion (IsValue world.b.notes) (map (λ (s : Seen). s.value) ys)) (sym r.args) known.1;
      }

  ended : (a : Config) (es : List Event) (n : Ending) → ((neutral.performed world.a a (Ends es n)).ending ≡ n)
      × (neutral.performed world.a a (Ends es n) ≡ record a { trace = a.trace ++ es; ending = n })
  unfolding neutral.performed
  ended a es n = (refl, refl)

  pub a_goes : (w : ℕ) (P : Both Placement) (p : PairState Config) (q : PairState RunState) → IsPairAt w images world P
      → PairStands w images world P p q → AllAgree world.a.notes world.b.notes world.binds
      → p.stage ≡ CallerRuns → (h : Ready world.a sa p.a) → Rests world.b p.b → Goes images world sa sb ta tb (caller_step world N p)
  unfolding caller_step call_step neutral.performed
  a_goes w P p q at st agree ahead h b = go (neutral.host_view world.a p.a p.a.spot) refl
    where
      plain : Goes images world sa sb ta tb (plain_step N p)
      plain =
          let s = side_steps images.a world.a sa ta.read ta.rules p.a h.holds h.running in
          record {
            after = with_a N.a p s.after;
            is = ap (option_map (with_a N.a p)) s.is;
            holds = record {
              on = λ on. subst (StageHolds images world sa sb ta tb (with_a N.a p s.after)) (sym ahead)
                  (record { holds = s.holds; running = on }, b);
              raised = s.holds.raised;
            };
          }

      told : (place g f : ℕ) (asking : Asking) → neutral.host_view world.a p.a p.a.spot ≡ Some (Calls place asking)
          → bound_at world.binds world.a.notes place ≡ Some (record { signature = g; function = f })
          → (o : Option Ending) → call_refused world p.b.script f place asking ≡ o
          → H (call_told N p (record { signature = g; function = f }) (call_event place asking) (asked_args asking) o)
      told place g f asking seen bound (Some n) e =
          let x = asks_at world.a sa p.a place asking h.holds h.running seen in
          let s = stops_ends n (call_stops world p.a p.b.script f place x.target asking n (asked p.a place asking x seen) e) in
          record { on = λ r. absurd (s.0 r); raised = s.1 }
      told place g f asking seen bound None e =
          let x = asks_at world.a sa p.a place asking h.holds h.running seen in
          record {
            on = λ r. (
              record {
                holds = call_holds world.a sa (world_a images world sa sb ta tb) state_below p.a place
                    (p.a.trace ++ call_event place asking ∷ []) h.holds h.running x;
                running = refl;
              },
              record {
                place = place;
                asks = record {
                  place = x.place;
                  target = x.target;
                  f = x.f;
                  fs = x.fs;
                  spot = x.spot;
                  frames = x.frames;
                  under = x.under;
                  well = x.well;
                };
                bound = bound;
              },
              can_take w P p q place g f asking at st agree h b seen x bound e,
            );
            raised = tt;
          }

      go : (o : Option View) → neutral.host_view world.a p.a p.a.spot ≡ o → Goes images world sa sb ta tb (caller_step_seen world N p o)
      go (Some (Calls place asking)) e = by (bound_at world.binds world.a.notes place) refl
        where
          by : (o : Option BoundCall) → bound_at world.binds world.a.notes place ≡ o
              → Goes images world sa sb ta tb (option_map_or (λ to. Some (call_step world N p place asking to)) o (plain_step N p))
          by None z = plain
          by (Some to) z = record {
            after = call_step world N p place asking to;
            is = refl;
            holds = told place to.signature to.function asking e z (call_refused world p.b.script to.function place asking) refl;
          }
      go c e = plain
