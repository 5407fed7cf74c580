-- Laws of the bound calls of a pair: what is refused ends the pair, and what is taken can be entered.
use Rattle.pair_host.proofs.Common.{◌≡◌, ℕ, suc, ◌<◌, Bool, true, false, if◌then◌else◌, nat_eq, List, [], ◌∷◌, ◌++◌, length, map, Option}
use Rattle.pair_host.proofs.Common.{Some, None, refl, sym, ap, ◌∙◌, subst, option_map_or, option_or}
use Rattle.pair_host.proofs.Common.{drop-append_seam, Ending, Running, Event, Notes, Seen, Ty, Value, Asking, NoSite, Ends, View, Calls}
use Rattle.pair_host.proofs.Common.{Returns, GoesOn, IsDue, NotifiedReturns, asked_args, call_event, function_params, signature_params}
use Rattle.pair_host.proofs.Common.{site_of, asking_at, asking_by, host_view, performed, slots_of, made_objects, Placement, own_placement}
use Rattle.pair_host.proofs.Common.{ScriptPlace, RunState, run_step, given, World, TypedObject, bound_step, BoundCall, bound_at}
use Rattle.pair_host.proofs.Common.{own_placements, side_at, sides_at, PairWorld, PairState, call_refused, call_step, call_told}
use Rattle.pair_host.proofs.Common.{caller_step, caller_step_seen, plain_step, reply_refused, with_a, Rests, IsAt, IsQuiet, IsRunner}
use Rattle.pair_host.proofs.Common.{Runner, CanBeEntered, IsPair, IsProvider, SidesGoOn, own, stage_of, stepped, PairRunner}
use Rattle.std.proofs.{Common.nat_lt, Common.vec_capacity, lemmas.Option.slice_get_within}
use Rattle.std.specs.List.{find}
use Rattle.ebc_base.proofs.{Given.some_of_map, Lists.length-map, Lists.within_some}
use Rattle.note_types.specs.Records.{IsNotes}
use Rattle.note_types.specs.declared.{ending.Ending.TheVariants.Mismatch, notes.FnNote.FnNote, notes.Param.Param, notes.Signature.Signature}
use Rattle.note_types.specs.declared.notes.Site.{Site}
use Rattle.host_model.specs.{HostPlans.Unmapped, HostPlans.Asks, HostPlans.asked_signature, HostPlans.asking_refused, ScriptValues.fits}
use Rattle.native_host.proofs.AskingLaws.{asks-by}
use Rattle.pair_model.specs.{Binds.AllAgree, Rules.parameter_refused, Rules.provider_refused}
use Rattle.step_sound.proofs.EvenPlaces.{find_some}
use Rattle.twin_run.specs.{Bound.place_called, Room.HasEvents}
use Rattle.pair_host.specs.PairRunner.{CanBeCalled}
use Rattle.pair_host.proofs.Past.{asking-alike, view-alike}
use Rattle.note_types.specs.declared.reason.Reason.TheVariants as reason
use Rattle.note_types.specs.declared.value.Value.TheVariants as value
use Rattle.native_host.specs.declared.bound.BoundStep.TheVariants as step
use Rattle.pair_laws.proofs.Agreeing as agreeing
use Rattle.pair_model.specs.Pairs as pairs
use Rattle.pair_model.specs.declared.event.PairEvent.TheVariants as pair_event

-- ---- what is refused ends the pair

abbrev pub IsOver : Ending → Type 0
IsOver e = e ≡ Running → ⊥

pub asking_ends : (place : ℕ) (asking : Asking) (e : Ending) → asking_refused place asking ≡ Some e → IsOver e
asking_ends place NoSite e is on = cc
asking_ends place (Unmapped g) e is on = cc
asking_ends place (Asks g (Some target) args) e is on = cc
asking_ends place (Asks g None args) e is on = cc

parameter_ends : (made : List TypedObject) (k : ℕ) (ps : List Param) (xs : List Seen) (e : Ending)
    → parameter_refused made k ps xs ≡ Some e → IsOver e
unfolding parameter_refused
parameter_ends made k [] xs e is on = cc
parameter_ends made k (p ∷ ps) [] e is on = cc
parameter_ends made k (p ∷ ps) (x ∷ xs) e is on = go (fits made p.ty x.value) is (parameter_ends made (suc k) ps xs e)
  where
    go : (t : Bool)
        → (if t then parameter_refused made (suc k) ps xs else Some (Mismatch (reason.Argument k x (given value.Any)))) ≡ Some e
        → (parameter_refused made (suc k) ps xs ≡ Some e → IsOver e) → ⊥
    go true is more = more is on
    go false is more = cc

pub provider_ends : (b : World) (at : ScriptPlace) (f : ℕ) (args : List Seen) (e : Ending) → provider_refused b at f args ≡ Some e
    → IsOver e
unfolding provider_refused
provider_ends b at f args e is on = go (nat_lt at.thunks (length b.notes.thunk)) is
  where
    go : (t : Bool) → (if t then Some (Mismatch (reason.Bind f)) else parameter_refused (made_objects b.notes b.script at.entries) 0
        (function_params b.notes f) args) ≡ Some e → ⊥
    go true is = cc
    go false is = parameter_ends (made_objects b.notes b.script at.entries) 0 (function_params b.notes f) args e is on

pub reply_ends : (a : World) (at : ScriptPlace) (kind : Option Ty) (v : Value) (e : Ending) → reply_refused a at kind v ≡ Some e → IsOver e
unfolding reply_refused
reply_ends a at None v e is on = cc
reply_ends a at (Some t) v e is on = go (fits (made_objects a.notes a.script at.entries) t v) is
  where
    go : (b : Bool) → (if b then None else Some (Mismatch (reason.Reply at.entries))) ≡ Some e → ⊥
    go true is = cc
    go false is = cc

-- ---- what the call step of the caller comes to

step_ended : (o : Option Ending) (e : Event) (g : ℕ) (args : List Seen) (ev : Event) (en : Ending)
    → step.Ended ev en ≡ option_map_or (step.Ended e) o (step.Called e g args) → (o ≡ Some en) × (ev ≡ e)
step_ended None e g args ev en is = absurd (cc)
step_ended (Some x) e g args ev en is = (cc, cc)

step_called : (o : Option Ending) (e : Event) (g : ℕ) (args : List Seen) (ev : Event) (h : ℕ) (given_args : List Seen)
    → step.Called ev h given_args ≡ option_map_or (step.Ended e) o (step.Called e g args)
    → (o ≡ None) × ((ev ≡ e) × ((h ≡ g) × (given_args ≡ args)))
step_called None e g args ev h given_args is = (refl, (cc, (cc, cc)))
step_called (Some x) e g args ev h given_args is = absurd (cc)

-- the call ends the run
pub ended_call : (world : PairWorld) (at : ScriptPlace) (f place : ℕ) (asking : Asking) (ev : Event) (en : Ending)
    → step.Ended ev en ≡ bound_step place asking
    → (call_refused world at f place asking ≡ Some en) × ((ev ≡ call_event place asking) × IsOver en)
ended_call world at f place asking ev en is =
    let r = step_ended (asking_refused place asking) (call_event place asking) (asked_signature asking) (asked_args asking) ev en is in
    (ap (λ o. option_or o (provider_refused world.b at f (asked_args asking))) r.0, (r.1, asking_ends place asking en r.0))

-- it is one, and the provider refuses it or takes it
pub refused_call : (world : PairWorld) (at : ScriptPlace) (f place : ℕ) (asking : Asking) (ev : Event) (g : ℕ) (args : List Seen)
    (en : Option Ending) → step.Called ev g args ≡ bound_step place asking → en ≡ provider_refused world.b at f args
    → (call_refused world at f place asking ≡ en) × ((ev ≡ call_event place asking) × ((g ≡ asked_signature asking) × (args ≡ asked_args
    asking)))
refused_call world at f place asking ev g args en is provider =
    let e = call_event place asking in
    let r = step_called (asking_refused place asking) e (asked_signature asking) (asked_args asking) ev g args is in
    let none = ap (λ o. option_or o (provider_refused world.b at f (asked_args asking))) r.0 in
    (none ∙ (ap (provider_refused world.b at f) (sym r.1.1.1) ∙ sym provider), r.1)

-- the signature is that of the place's site
pub asked_by_site : (w : ℕ) (world : World) (P : Placement) (r : RunState) (place target g : ℕ) → site_of world.notes place ≡ Some g
    → asked_signature (asking_at w world P r place target) ≡ g
asked_by_site w world P r place target g site =
    ap asked_signature (asks-by w world P r place target world.notes g (slots_of w world r g) refl (sym site) refl)
    ∙ by (slots_of w world r g)
  where
    by : (o : Option (List ℕ)) → asked_signature (asking_by w world P r target g o) ≡ g
    by None = refl
    by (Some xs) = refl

-- ---- a bound call by a bind that agrees can be taken

site_signature : (notes : Notes) (place g : ℕ) → IsNotes notes → site_of notes place ≡ Some g → g < length notes.signature
unfolding site_of
site_signature notes place g are e =
    let q = some_of_map (λ (s : Site). s.signature) (find (λ (s : Site). nat_eq s.place place) notes.site) g e in
    let r = find_some (λ (s : Site). nat_eq s.place place) notes.site q.0 q.1 in
    subst (λ n. n < length notes.signature) q.2 (are.sites r.0 q.0 r.1).signature

pub can_be_called : (a b : Notes) (binds : List _) (place : ℕ) (c : BoundCall) → IsNotes a → AllAgree a b binds
    → bound_at binds a place ≡ Some c → CanBeCalled a b place c
can_be_called a b binds place c are agree e =
    let call = agreeing.bound_call a b binds place c agree e in
    let s = within_some a.signature c.signature (site_signature a place c.signature are call.site) in
    record {
      site = call.site;
      there = slice_get_within b.function c.function call.note call.there;
      each = ap (λ (o : Option Signature). length (option_map_or (λ (g : Signature). g.params) o [])) s.1
          ∙ ((agreeing.agreed_lends call.note s.0 (call.agrees s.0 s.1)).0
          ∙ sym (ap (λ (o : Option FnNote). length (option_map_or (λ (g : FnNote). g.params) o [])) call.there));
    }

-- a call that was taken can be entered
pub enterable : (a b : Notes) (world : World) (place : ℕ) (c : BoundCall) (g : ℕ) (args : List Seen) → world.notes ≡ b
    → CanBeCalled a b place c → length args ≡ length (signature_params a g) → g ≡ c.signature
    → CanBeEntered world (pairs.CallTaken c.signature c.function (map (λ (s : Seen). s.value) args))
enterable a b world place c g args same can long is =
    subst (λ (n : Notes). (c.function < length n.function)
    × (length (map (λ (s : Seen). s.value) args) ≡ length (function_params n c.function))) (sym same)
    (can.there, length-map (λ (s : Seen). s.value) args ∙ (long ∙ (ap (λ z. length (signature_params a z)) is ∙ can.each)))

-- ---- 2. a step of the caller's own

module _ (w : ℕ) (world : PairWorld) where
  seen_plain : (p : PairState RunState) (o : Option View) → place_called o ≡ None
      → caller_step_seen world (sides_at w world (own_placements w world)) p o
      ≡ Some (with_a (side_at w world.a (own_placement w world.a)) p (run_step w world.a (own_placement w world.a) p.a))
  seen_plain p None none = refl
  seen_plain p (Some (Returns first f v)) none = refl
  seen_plain p (Some (Calls place asking)) none = absurd (cc)
  seen_plain p (Some (GoesOn entry callbacks frames mapped)) none = refl
  seen_plain p (Some (NotifiedReturns f v)) none = refl
  seen_plain p (Some (IsDue frames)) none = refl

  -- what the host of the caller sees
  a_view : (x : PairRunner w) (p : PairState RunState)
      → host_view w world.a (own_placement w world.a) p.a ≡ host_view w world.a (own_placement w world.a) (own x.a p.a)
  a_view x p = sym (view-alike w world.a (own_placement w world.a) p.a x.a.host.trace.items)

  -- the caller's run goes on
  pub a_on : (x : PairRunner w) (p : PairState RunState) → IsPair w world x p → p.stage ≡ pairs.CallerRuns → p.ending ≡ Running
      → p.a.ending ≡ Running
  a_on x p is at on = subst (λ (s : pairs.Stage). SidesGoOn s p.a.ending p.b.ending) at (is.goes_on on)

  -- no call is asked for
  pub caller_goes : (x y : PairRunner w) (p : PairState RunState)
      → place_called (host_view w world.a (own_placement w world.a) (own x.a p.a)) ≡ None
      → IsPair w world y (with_a (side_at w world.a (own_placement w world.a)) p (run_step w world.a (own_placement w world.a) p.a))
      → IsPair w world y (stepped (caller_step world (sides_at w world (own_placements w world)) p) p)
  unfolding caller_step
  caller_goes x y p none there =
      let view = host_view w world.a (own_placement w world.a) p.a in
      subst (λ o. IsPair w world y (stepped o p)) (sym (seen_plain p view (ap place_called (a_view x p) ∙ none))) there

  -- one is, at no bound call
  pub caller_calls : (x y : PairRunner w) (p : PairState RunState) (place : ℕ) (asking : Asking)
      → host_view w world.a (own_placement w world.a) (own x.a p.a) ≡ Some (Calls place asking)
      → bound_at world.binds world.a.notes place ≡ None
      → IsPair w world y (with_a (side_at w world.a (own_placement w world.a)) p (run_step w world.a (own_placement w world.a) p.a))
      → IsPair w world y (stepped (caller_step world (sides_at w world (own_placements w world)) p) p)
  unfolding caller_step
  caller_calls x y p place asking seen none there =
      let sides = sides_at w world (own_placements w world) in
      let step : caller_step_seen world sides p (host_view w world.a (own_placement w world.a) p.a)
      ≡ Some (with_a sides.a p (run_step w world.a (own_placement w world.a) p.a)) =
      ap (caller_step_seen world sides p) (a_view x p ∙ seen)
      ∙ ap (λ o. option_map_or (λ c. Some (call_step world sides p place asking c)) o (plain_step sides p)) none in
      subst (λ o. IsPair w world y (stepped o p)) (sym step) there

  -- one is, at a bound call
  pub caller_bound : (x y : PairRunner w) (p : PairState RunState) (place target : ℕ) (call : BoundCall)
      → host_view w world.a (own_placement w world.a) (own x.a p.a)
      ≡ Some (Calls place (asking_at w world.a (own_placement w world.a) (own x.a p.a) place target))
      → bound_at world.binds world.a.notes place ≡ Some call
      → IsPair w world y (call_step world (sides_at w world (own_placements w world)) p place
      (asking_at w world.a (own_placement w world.a) p.a place target) call)
      → IsPair w world y (stepped (caller_step world (sides_at w world (own_placements w world)) p) p)
  unfolding caller_step
  caller_bound x y p place target call seen bound there =
      let sides = sides_at w world (own_placements w world) in
      let asking = asking_at w world.a (own_placement w world.a) p.a place target in
      let same = asking-alike w world.a (own_placement w world.a) p.a x.a.host.trace.items place target in
      let step : caller_step_seen world sides p (host_view w world.a (own_placement w world.a) p.a)
      ≡ Some (call_step world sides p place asking call) =
      ap (caller_step_seen world sides p) (a_view x p ∙ (seen ∙ ap (λ z. Some (Calls place z)) same))
      ∙ ap (λ o. option_map_or (λ c. Some (call_step world sides p place asking c)) o (plain_step sides p)) bound in
      subst (λ o. IsPair w world y (stepped o p)) (sym step) there

  -- ---- 3. the call step of a bound call

  -- the caller's run once the call was told, and the pair
  abbrev told_call : PairState RunState → Event → Ending → PairState RunState
  told_call p e n = record p {
    a = record p.a { trace = p.a.trace ++ e ∷ []; ending = n };
    trace = p.trace ++ pair_event.A e ∷ [];
    ending = n;
  }

  told_seam : (p : PairState RunState) (e : Event) (n : Ending)
      → with_a (side_at w world.a (own_placement w world.a)) p (performed w world.a (own_placement w world.a) p.a (Ends (e ∷ []) n))
      ≡ told_call p e n
  unfolding performed
  told_seam p e n =
      ap (λ t. record (told_call p e n) { trace = p.trace ++ map pair_event.A t }) (drop-append_seam p.a.trace (e ∷ []))

  -- the provider rests meanwhile
  pub b_rests : (x : PairRunner w) (p : PairState RunState) → IsPair w world x p → pairs.running_side p.stage ≡ pairs.OfA
      → p.ending ≡ Running → Rests w world.b x.b (own x.b p.b)
  b_rests x p is side on = subst (IsProvider w world.b x.b p.b p.ending) side is.b on

  -- it is refused
  pub call_refuses : (x y : PairRunner w) (p : PairState RunState) (place : ℕ) (asking : Asking) (call : BoundCall) (e : Event) (n : Ending)
      → IsPair w world x p → p.stage ≡ pairs.CallerRuns
      → call_refused world p.b.script call.function place asking ≡ Some n → e ≡ call_event place asking → IsOver n
      → IsAt w world.a y.a (record (own x.a p.a) { ending = n }) → IsQuiet world.a.script y.a → y.a.host ≡ x.a.host → y.stage ≡ x.stage
      → y.ending ≡ n → y.trace.items ≡ x.trace.items ++ pair_event.A e ∷ []
      → IsPair w world y (call_step world (sides_at w world (own_placements w world)) p place asking call)
  unfolding call_step
  call_refuses x y p place asking call e n is at refused event over there quiet host stage ending trace =
      let sides = sides_at w world (own_placements w world) in
      let q = told_call p e n in
      let step : call_step world sides p place asking call ≡ q =
      ap (call_told sides p call (call_event place asking) (asked_args asking)) refused
      ∙ (told_seam p (call_event place asking) n ∙ ap (λ z. told_call p z n) (sym event)) in
      subst (IsPair w world y) (sym step)
      (record {
        a = record {
          at = subst (λ (h : _). IsAt w world.a y.a (record p.a { trace = h.trace.items; ending = n })) (sym host) there;
          quiet = quiet;
          events = record { inside = λ on. absurd (over on); room = λ on. absurd (over on) };
        };
        b = subst (λ (s : pairs.Stage). IsProvider w world.b y.b p.b n (pairs.running_side s)) (sym at) (λ on. absurd (over on));
        stage = ap stage_of stage ∙ is.stage;
        trace = trace ∙ ap (λ t. t ++ pair_event.A e ∷ []) is.trace;
        ending = ending;
        goes_on = λ on. absurd (over on);
        enters = is.enters;
      })

  -- it is taken
  taken : PairState RunState → BoundCall → Event → List Seen → PairState RunState
  taken p call e args = record (told_call p e Running) {
    stage = pairs.CallTaken call.signature call.function (map (λ (s : Seen). s.value) args);
  }

  pub call_takes : (x y : PairRunner w) (p : PairState RunState) (place : ℕ) (asking : Asking) (call : BoundCall) (e : Event)
      (args : List Seen) → IsPair w world x p → p.stage ≡ pairs.CallerRuns → p.ending ≡ Running
      → call_refused world p.b.script call.function place asking ≡ None → e ≡ call_event place asking → args ≡ asked_args asking
      → CanBeEntered world.b (pairs.CallTaken call.signature call.function (map (λ (s : Seen). s.value) args))
      → IsAt w world.a y.a (own x.a p.a) → IsQuiet world.a.script y.a → y.a.host ≡ x.a.host → y.b ≡ x.b
      → stage_of y.stage ≡ pairs.CallTaken call.signature call.function (map (λ (s : Seen). s.value) args) → y.ending ≡ x.ending
      → y.trace.items ≡ x.trace.items ++ pair_event.A e ∷ []
      → IsPair w world y (call_step world (sides_at w world (own_placements w world)) p place asking call)
  unfolding call_step taken
  call_takes x y p place asking call e args is at on none event are enters there quiet host provider stage ending trace =
      let sides = sides_at w world (own_placements w world) in
      let q = taken p call e args in
      let as_taken : PairState RunState → List Seen → PairState RunState =
      λ z xs. record z { stage = pairs.CallTaken call.signature call.function (map (λ (s : Seen). s.value) xs) } in
      let step : call_step world sides p place asking call ≡ q =
      ap (call_told sides p call (call_event place asking) (asked_args asking)) none
      ∙ ((λ i. as_taken (told_seam p (call_event place asking) Running i) (sym are i))
      ∙ ap (λ z. taken p call z args) (sym event)) in
      let goes = a_on x p is at on in
      let run : IsRunner w world.a y.a (own x.a p.a) = record {
        at = there;
        quiet = quiet;
        events = subst (λ (h : _). HasEvents world.a.script (vec_capacity h.trace) (own x.a p.a)) (sym host) is.a.events;
      } in
      let same : own x.a p.a ≡ own y.a q.a = (λ i. record p.a { trace = (sym host i).trace.items; ending = goes i }) in
      subst (IsPair w world y) (sym step)
      (record {
        a = subst (IsRunner w world.a y.a) same run;
        b = λ goes. subst (λ (z : Runner w). Rests w world.b z (own z p.b)) (sym provider)
            (b_rests x p is (ap pairs.running_side at) on);
        stage = stage;
        trace = trace ∙ ap (λ t. t ++ pair_event.A e ∷ []) is.trace;
        ending = ending ∙ (is.ending ∙ on);
        goes_on = λ goes. refl;
        enters = enters;
      })
