-- The invariant of a pair, and the steps that keep it: B's own run, the entering, and a function of B.
use Rattle.pair_laws.proofs.Common.{◌≡◌, ℕ, Bool, true, false, if◌then◌else◌, List, [], map, Option, Some, None, option_map, refl, sym, ap}
use Rattle.pair_laws.proofs.Common.{◌∙◌, subst, slice_get, option_and_then, option_map_or, none-some, same_Some, some_of_map, TopHost}
use Rattle.pair_laws.proofs.Common.{Signature, Spot, Ty, neutral_result, made_objects, ScriptPlace, is_empty, sort_of_type, live_memory}
use Rattle.pair_laws.proofs.Common.{FramesKeep, neutral_bound_reply, value_given, TypedSide, Ending, FnNote, Value, Image, state_below}
use Rattle.pair_laws.proofs.Common.{run_world, Config, call_under_way, hosts, View, Returns, return_view, Leaves, Enters, Ends, is_error}
use Rattle.pair_laws.proofs.Common.{signature_result, fits, fits_result, given, World, RaisesOnlyDivideError, Holds, AllAgree, bound_at}
use Rattle.pair_laws.proofs.Common.{neutral_sides, PairWorld, Both, Stage, ProviderRuns, CallerRuns, CallTaken, CallRuns, CallReturned}
use Rattle.pair_laws.proofs.Common.{PairState, SideOf, with_b, provider_ended, provider_step, function_entered, enter_step}
use Rattle.pair_laws.proofs.Common.{function_step_seen, function_step, call_answered, reply_refused, reply_step, IsValue, IsResultNote}
use Rattle.pair_laws.proofs.Common.{IfSome, States, RunWorld}
use Rattle.pair_laws.proofs.{Crossing.CanTake, Crossing.enter_holds, Crossing.given_known, Crossing.reply_holds, Agreeing.bound_call}
use Rattle.pair_laws.proofs.{Agreeing.agreed_lends, Sides.no_return, Sides.returns_top, Holding.Rests}
use Rattle.pair_laws.proofs.{Holding.LendsNone, Resting.AsksAt, Resting.own_rests, Resting.leave_rests, SideSteps.SideSteps}
use Rattle.pair_laws.proofs.{SideSteps.side_steps, Values.NoHandle, Values.result_plain}
use Rattle.host_laws.proofs.Leaving.{neutral_ending_left}
use Rattle.invariant_laws.proofs.Leaving.{can_be_entered}
use Rattle.note_types.specs.declared.reason.Reason.TheVariants as reason
use Rattle.note_types.specs.declared.spot.Spot.TheVariants as spot
use Rattle.note_types.specs.declared.types.Ty.TheVariants as ty
use Rattle.note_types.specs.declared.value.Value.TheVariants as value
use Rattle.note_types.specs.declared.ending.Ending.TheVariants as ending
use Rattle.note_types.specs.declared.event.Event.TheVariants as event
use Rattle.neutral_machine.specs.NeutralHost as neutral

-- a side that runs well
pub record Ready (world : World) (states : States) (a : Config) : Type 0 where
  pub holds : Holds world states a
  pub running : a.ending ≡ ending.Running

module _ (images : Both Image) (world : PairWorld) (sa sb : States) (ta : TypedSide images.a world.a sa)
    (tb : TypedSide images.b world.b sb) where
  abbrev N : Both (SideOf Config)
  N = neutral_sides world images

  abbrev pub world_a : RunWorld world.a sa
  world_a = run_world images.a world.a ta.read sa ta.rules

  abbrev pub world_b : RunWorld world.b sb
  world_b = run_world images.b world.b tb.read sb tb.rules

  -- A waits in a bound call
  pub record InCall (a : Config) (g f : ℕ) : Type 0 where
    pub place : ℕ
    pub asks : AsksAt world.a sa a place
    pub bound : bound_at world.binds world.a.notes place ≡ Some (record { signature = g; function = f })

  abbrev pub StageHolds : PairState Config → Stage → Type 0
  StageHolds p ProviderRuns = Ready world.a sa p.a × Ready world.b sb p.b
  StageHolds p CallerRuns = Ready world.a sa p.a × Rests world.b p.b
  StageHolds p (CallTaken g f vs) = Ready world.a sa p.a × InCall p.a g f × CanTake world.b p.b f vs
  StageHolds p (CallRuns g) = Ready world.a sa p.a × ((f : ℕ) × InCall p.a g f) × Ready world.b sb p.b
  StageHolds p (CallReturned g v) = Ready world.a sa p.a × ((f : ℕ) × InCall p.a g f) × Rests world.b p.b × NoHandle v

  pub record PairHolds (p : PairState Config) : Type 0 where
    pub on : p.ending ≡ ending.Running → StageHolds p p.stage
    pub raised : RaisesOnlyDivideError p.ending

  pub record Goes (o : Option (PairState Config)) : Type 0 where
    pub after : PairState Config
    pub is : o ≡ Some after
    pub holds : PairHolds after

  -- a step of B's own, where it goes on in the same stage
  b_holds : (p : PairState Config) → (s : SideSteps images.b world.b sb p.b)
      → (s.after.ending ≡ ending.Running → StageHolds (with_b N.b p s.after) p.stage) → PairHolds (with_b N.b p s.after)
  b_holds p s on = record { on = on; raised = s.holds.raised }

  pub own_goes : (p : PairState Config) → p.stage ≡ ProviderRuns → Ready world.a sa p.a → Ready world.b sb p.b → Goes (provider_step N p)
  unfolding provider_step
  own_goes p st a b =
      let s = side_steps images.b world.b sb tb.read tb.rules p.b b.holds b.running in
      record {
        after = provider_ended N (with_b N.b p s.after) s.after.ending;
        is = ap
            (option_map (λ c. provider_ended N (with_b N.b p c) (N.b.ending c))) s.is;
        holds = go s s.after.ending refl;
      }
    where
      same : (s : SideSteps images.b world.b sb p.b) → PairHolds (with_b N.b p s.after)
      same s = b_holds p s (λ on. subst (StageHolds (with_b N.b p s.after)) (sym st) (a, record { holds = s.holds; running = on }))

      go : (s : SideSteps images.b world.b sb p.b) (e : Ending) → s.after.ending ≡ e → PairHolds (provider_ended N (with_b N.b p s.after) e)
      go s (ending.Finished v) e = by (is_error v)
        where
          by : (t : Bool) → PairHolds (if t then with_b N.b p s.after else record
              (with_b N.b p s.after) { b = N.b.resting s.after; stage = CallerRuns; ending = N.a.ending p.a })
          by true = same s
          by false = record {
            on = λ on. (a, own_rests images.b world.b sb p.b s v e);
            raised = subst RaisesOnlyDivideError
                (sym a.running) tt;
          }
      go s c e = same s

  enter_ending : (w : World) (b : Config) (e : _) (n f : ℕ) (vs : List Value) → (neutral.performed w b (Enters e n f vs)).ending ≡ b.ending
  unfolding neutral.performed
  enter_ending w b e n f vs = refl

  pub enter_goes : (p : PairState Config) (g f : ℕ) (vs : List Value) → Ready world.a sa p.a → InCall p.a g f → CanTake world.b p.b f vs
      → PairHolds (enter_step N p g f vs)
  unfolding enter_step
  enter_goes p g f vs a c take =
      let e = event.Entered f (map given vs) in
      let s = neutral.performed world.b p.b (Enters e 0 f vs) in
      let on = enter_ending world.b p.b e 0 f vs ∙ take.rests.running in
      let ready : Ready world.b sb s = record {
        holds = enter_holds world.b sb world_b state_below p.b e f vs take;
        running = on;
      } in
      subst (λ x. PairHolds (function_entered g (with_b N.b p s) x)) (sym on)
      (record { on = λ z. (a, (f, c), ready); raised = subst RaisesOnlyDivideError (sym on) tt })

  -- ---- 5. a function of B

  leaves_ending : (w : World) (b : Config) (e : _) → (neutral.performed w b (Leaves e)).ending ≡ b.ending
  unfolding neutral.performed
  leaves_ending w b e = neutral_ending_left b b.frames

  abbrev value_of : View → Value
  value_of (Returns t f v) = v
  value_of _ = value.Any

  first_result : (w : World) (b : Config) (s : Spot) (f : ℕ) (v : Value) → neutral.host_view w b s ≡ Some (Returns true f v)
      → (t : TopHost b) → neutral.result_of w b t.frame.func ≡ Some v
  unfolding neutral.host_view
  first_result w b spot.Gate f v e t =
      let q = some_of_map (return_view t.frame.notified (is_empty (hosts t.rest)) t.frame.func) (neutral.result_of w b t.frame.func)
      (Returns true f v) (sym (ap (neutral.return_seen w b) t.is) ∙ e) in
      q.1 ∙ ap Some (value_is t.frame.notified (is_empty (hosts t.rest)) t.frame.func q.0 v q.2)
    where
      value_is : (n b : Bool) (g : ℕ) (u v : Value) → return_view n b g u ≡ Returns true f v → u ≡ v
      value_is true b g u v e = absurd (cc)
      value_is false b g u v e = ap value_of e
  first_result w b (spot.Place p) f v e t = absurd (no_return w b (call_under_way b.frames) true f v e)
  first_result w b (spot.Wild x) f v e t = absurd (no_return w b (call_under_way b.frames) true f v e)

  plain_result : (b : Config) (f : ℕ) (v : Value) → Ready world.b sb b → neutral.host_view world.b b b.spot ≡ Some (Returns true f v)
      → NoHandle v
  unfolding neutral.result_of
  plain_result b f v r e =
      let t = returns_top world.b b b.spot true f v e in
      let k = (subst (FramesKeep world.b (live_memory world.b b) b.made) t.is r.holds.sound.frames).0 in
      let can = can_be_entered world.b.notes t.frame.func k.note tb.read.notes k.there k.entered in
      let given = first_result world.b b b.spot f v e t in
      result_plain world.b.notes (neutral.objects_at world.b b) k.note.result (b.registers 7) v can.gives
      (sym (ap (λ (o : Option FnNote). neutral_result world.b.notes (neutral.objects_at world.b b)
      (option_map_or (λ (g : FnNote). sort_of_type g.result) o (sort_of_type ty.Any)) (b.registers 7)) k.there) ∙ given)

  pub b_goes : (p : PairState Config) (g : ℕ) → p.stage ≡ CallRuns g → Ready world.a sa p.a → ((f : ℕ) × InCall p.a g f)
      → Ready world.b sb p.b → Goes (function_step N p g)
  unfolding function_step
  b_goes p g st a c b = go (neutral.host_view world.b p.b p.b.spot) refl
    where
      plain : Goes (option_map (with_b N.b p) (N.b.step p.b))
      plain =
          let s = side_steps images.b world.b sb tb.read tb.rules p.b b.holds b.running in
          record {
            after = with_b N.b p s.after;
            is = ap (option_map (with_b N.b p)) s.is;
            holds = b_holds p s (λ on. subst (StageHolds (with_b N.b p s.after)) (sym st) (a, c, record { holds = s.holds; running = on }));
          }

      go : (o : Option View) → neutral.host_view world.b p.b p.b.spot ≡ o → Goes (function_step_seen N p g o)
      go (Some (Returns true f v)) e =
          let t = event.Returned f v in
          let s = neutral.performed world.b p.b (Leaves t) in
          record {
            after = record (with_b N.b p s) { stage = CallReturned g v };
            is = refl;
            holds = record {
              on = λ on. (
                a,
                c,
                leave_rests world.b sb world_b state_below p.b f v t b.holds b.running e,
                plain_result p.b f v b e,
              );
              raised = subst RaisesOnlyDivideError (sym (leaves_ending world.b p.b t ∙ b.running)) tt;
            };
          }
      go o e = plain

  -- ---- 6. the reply

  reply_ending : (a : Config) (kind : Option Ty) (v : Value) → ((neutral_bound_reply world.a a kind v).ending ≡ a.ending)
      × ((neutral_bound_reply world.a a kind v).made ≡ a.made)
  unfolding neutral_bound_reply
  reply_ending a kind v = (refl, refl)

  ends_ending : (a : Config) (n : Ending) → (neutral.performed world.a a (Ends [] n)).ending ≡ n
  unfolding neutral.performed
  ends_ending a n = refl

  -- a value that is refused ends as a mismatch, and another one fits
  refusal : (at : ScriptPlace) (kind : Option Ty) (v : Value) (n : Ending) → reply_refused world.a at kind v ≡ Some n
      → n ≡ ending.Mismatch (reason.Reply at.entries)
  unfolding reply_refused
  refusal at None v n e = absurd (none-some n e)
  refusal at (Some t) v n e = go (fits (made_objects world.a.notes world.a.script at.entries) t v) e
    where
      go : (b : Bool) → (if b then None else Some (ending.Mismatch (reason.Reply at.entries))) ≡ Some n
          → n ≡ ending.Mismatch (reason.Reply at.entries)
      go true e = absurd (none-some n e)
      go false e = sym (same_Some _ n e)

  fitting : (at : ScriptPlace) (kind : Option Ty) (v : Value) → reply_refused world.a at kind v ≡ None
      → fits_result (made_objects world.a.notes world.a.script at.entries) kind (value_given kind v) ≡ true
  unfolding reply_refused
  fitting at None v e = refl
  fitting at (Some t) v e = go (fits (made_objects world.a.notes world.a.script at.entries) t v) e
    where
      go : (b : Bool) → (if b then None else Some (ending.Mismatch (reason.Reply at.entries))) ≡ None → b ≡ true
      go true e = refl
      go false e = absurd (none-some _ (sym e))

  -- a value that B returned and that fits is one that a text of A's script may have
  pub reply_known : (at : ScriptPlace) (g : ℕ) (v : Value) → NoHandle v
      → reply_refused world.a at (signature_result world.a.notes g) v ≡ None
      → IsValue world.a.notes (value_given (signature_result world.a.notes g) v)
  reply_known at g v plain e = by_signature (slice_get world.a.notes.signature g) refl e
    where
      by_type : (o : Option Ty) → IfSome o (IsResultNote world.a.notes) → reply_refused world.a at o v ≡ None
          → IsValue world.a.notes (value_given o v)
      by_type None ok e = tt
      by_type (Some u) ok e = given_known world.a.notes (made_objects world.a.notes world.a.script at.entries) u v ok.given
          (fitting at (Some u) v e) (λ k is. subst NoHandle is plain)

      by_signature : (o : Option Signature) → slice_get world.a.notes.signature g ≡ o
          → reply_refused world.a at (option_and_then (λ (s : Signature). s.result) o) v ≡ None
          → IsValue world.a.notes (value_given (option_and_then (λ (s : Signature). s.result) o) v)
      by_signature None is e = tt
      by_signature (Some s) is e = by_type s.result (ta.read.notes.signatures g s is).result e

  pub reply_goes : AllAgree world.a.notes world.b.notes world.binds → (p : PairState Config) (g : ℕ) (v : Value)
      → p.ending ≡ ending.Running → Ready world.a sa p.a → ((f : ℕ) × InCall p.a g f) → Rests world.b p.b
      → PairHolds (reply_step world N p g v)
  unfolding reply_step
  reply_goes agree p g v on a c b =
      let x = c.1.asks in
      let call = bound_call world.a.notes world.b.notes world.binds c.1.place (record { signature = g; function = c.0 }) agree c.1.bound in
      let number : x.well.number ≡ g = same_Some x.well.number g (sym x.well.site ∙ call.site) in
      let there : slice_get world.a.notes.signature g ≡ Some x.well.signature = ap (slice_get world.a.notes.signature) (sym number)
      ∙ x.well.there in
      let kind : signature_result world.a.notes g ≡ x.well.signature.result = ap
      (λ (o : Option Signature). option_and_then (λ (s : Signature). s.result) o) there in
      let lends = (agreed_lends call.note x.well.signature (call.agrees x.well.signature there)).1 in
      subst (λ k. PairHolds (call_answered N p k v (reply_refused world.a p.a.script k v))) (sym kind)
      (go x lends (reply_refused world.a p.a.script x.well.signature.result v) refl)
    where
      go : (x : AsksAt world.a sa p.a c.1.place) → LendsNone x.well.signature.params → (o : Option Ending)
          → reply_refused world.a p.a.script x.well.signature.result v ≡ o
          → PairHolds (call_answered N p x.well.signature.result v o)
      go x lends (Some n) e =
          let m = ends_ending p.a n ∙ refusal p.a.script x.well.signature.result v n e in
          record { on = λ r. absurd (let z = sym m ∙ r in cc); raised = subst RaisesOnlyDivideError (sym m) tt }
      go x lends None e =
          let k = reply_ending p.a x.well.signature.result v in
          record {
            on = λ r. (
              record {
                holds = reply_holds world.a sa world_a state_below p.a c.1.place v a.holds a.running x lends
                    (fitting p.a.script x.well.signature.result v e);
                running = k.0 ∙ a.running;
              },
              b,
            );
            raised = subst RaisesOnlyDivideError (sym on) tt;
          }
