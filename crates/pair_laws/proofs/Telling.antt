-- A bound call of a typed image: how it may be refused, and what the host sees of it at a width.
use Rattle.pair_laws.proofs.Common.{◌≡◌, ℕ, suc, Bool, true, false, if◌then◌else◌, nat_eq, nat_lt, List, [], ◌∷◌, length, Option, Some}
use Rattle.pair_laws.proofs.Common.{None, option_map, option_and_then, refl, sym, ap, ◌∙◌, subst, option_map_or, option_or, none-some}
use Rattle.pair_laws.proofs.Common.{same_Some, some_of_map, Ending, Param, Seen, Value, Config, Asking, Asks, View, Calls, IsDue, is_due}
use Rattle.pair_laws.proofs.Common.{return_view, asked_args, asking_refused, function_params, signature_params, signature_method, site_of}
use Rattle.pair_laws.proofs.Common.{made_objects, Placement, NativeCall, NoCall, Asked, Accepted, ScriptPlace, is_empty, arguments_read}
use Rattle.pair_laws.proofs.Common.{slots_from, RunState, fits, given, Neutral, World, TypedObject, RaisesOnlyDivideError, PairWorld}
use Rattle.pair_laws.proofs.Common.{parameter_refused, provider_refused, call_refused}
use Rattle.note_types.specs.Concrete.{register}
use Rattle.host_model.specs.{HostPlans.NoSite, RunState.SavedFrame}
use Rattle.neutral_machine.specs.{Locations.is_method, NeutralReadings.neutral_arguments}
use Rattle.note_types.specs.declared.ending.Ending.TheVariants as ending
use Rattle.note_types.specs.declared.reason.Reason.TheVariants as reason
use Rattle.note_types.specs.declared.value.Value.TheVariants as value
use Rattle.host_model.specs.HostSteps as width
use Rattle.neutral_machine.specs.NeutralHost as neutral

-- an ending that stops a run, and raises nothing but a division by zero
abbrev pub Stops : Ending → Type 0
Stops ending.Running = ⊥
Stops e = RaisesOnlyDivideError e

pub stops_ends : (e : Ending) → Stops e → (e ≡ ending.Running → ⊥) × RaisesOnlyDivideError e
stops_ends ending.Running s = absurd s
stops_ends c s = (λ x. cc, s)

parameter_stops : (made : List TypedObject) (k : ℕ) (ps : List Param) (xs : List Seen) (n : Ending)
    → parameter_refused made k ps xs ≡ Some n → Stops n
unfolding parameter_refused
parameter_stops made k [] xs n e = absurd (none-some n e)
parameter_stops made k (p ∷ ps) [] n e = absurd (none-some n e)
parameter_stops made k (p ∷ ps) (x ∷ xs) n e = go (fits made p.ty x.value) e (parameter_stops made (suc k) ps xs n)
  where
    go : (t : Bool) → (if t then parameter_refused made (suc k) ps xs else Some (ending.Mismatch (reason.Argument k x (given value.Any))))
        ≡ Some n → (parameter_refused made (suc k) ps xs ≡ Some n → Stops n) → Stops n
    go true e more = more e
    go false e more = subst Stops (same_Some _ n e) tt

bound_stops : (b : World) (at : ScriptPlace) (f : ℕ) (args : List Seen) (n : Ending) → provider_refused b at f args ≡ Some n → Stops n
unfolding provider_refused
bound_stops b at f args n e = go (nat_lt at.thunks (length b.notes.thunk)) e
  where
    go : (t : Bool) → (if t then Some (ending.Mismatch (reason.Bind f)) else parameter_refused
        (made_objects b.notes b.script at.entries) 0 (function_params b.notes f) args) ≡ Some n → Stops n
    go true e = subst Stops (same_Some _ n e) tt
    go false e = parameter_stops (made_objects b.notes b.script at.entries) 0 (function_params b.notes f) args n e

-- where it isn't refused, B has served all its thunks, and no argument is refused
pub bound_taken : (b : World) (at : ScriptPlace) (f : ℕ) (args : List Seen) → provider_refused b at f args ≡ None
    → (nat_lt at.thunks (length b.notes.thunk) ≡ false) × (parameter_refused (made_objects b.notes b.script at.entries) 0
    (function_params b.notes f) args ≡ None)
unfolding provider_refused
bound_taken b at f args e = go (nat_lt at.thunks (length b.notes.thunk)) refl e
  where
    go : (t : Bool) → nat_lt at.thunks (length b.notes.thunk) ≡ t
        → (if t then Some (ending.Mismatch (reason.Bind f)) else parameter_refused (made_objects b.notes b.script at.entries) 0
        (function_params b.notes f) args) ≡ None
        → (nat_lt at.thunks (length b.notes.thunk) ≡ false) ×
        (parameter_refused (made_objects b.notes b.script at.entries) 0 (function_params b.notes f) args ≡ None)
    go true t e = absurd (none-some _ (sym e))
    go false t e = (t, e)

-- the neutral machine's host sees no slot that isn't mapped, and no other target
asking_stops : (world : World) (a : Config) (place : ℕ) (t : Neutral) (asking : Asking) (n : Ending)
    → neutral.asking_at world a place t ≡ Some asking → asking_refused place asking ≡ Some n → Stops n
unfolding neutral.asking_at
asking_stops world a place t asking n e = go (site_of world.notes place) e
  where
    go : (o : Option ℕ) → option_map_or (neutral.asking_by world a t) o (Some NoSite) ≡ Some asking → asking_refused place asking ≡ Some n
        → Stops n
    go None e h = subst Stops (same_Some _ n (ap (asking_refused place) (same_Some NoSite asking e) ∙ h)) tt
    go (Some g) e h = by (is_method (signature_method world.notes g) t)
        (option_and_then (neutral_arguments world.notes (neutral.objects_at world a) a.frames a.cells (signature_params world.notes g))
        (neutral.slots_of world a g)) e
      where
        by : (s : Bool) (o : Option (List Seen)) → (if s then option_map (Asks g None) o else None) ≡ Some asking → Stops n
        by true o e = let q = some_of_map (Asks g None) o asking e in absurd (none-some n (ap (asking_refused place) q.2 ∙ h))
        by false o e = absurd (none-some asking e)

-- however it is refused, the pair stops so
pub call_stops : (pair : PairWorld) (a : Config) (at : ScriptPlace) (f place : ℕ) (t : Neutral) (asking : Asking) (n : Ending)
    → neutral.asking_at pair.a a place t ≡ Some asking → call_refused pair at f place asking ≡ Some n → Stops n
call_stops pair a at f place t asking n e h = go (asking_refused place asking) refl h
  where
    go : (o : Option Ending) → asking_refused place asking ≡ o → option_or o (provider_refused pair.b at f (asked_args asking)) ≡ Some n
        → Stops n
    go None is h = bound_stops pair.b at f (asked_args asking) n h
    go (Some m) is h = asking_stops pair.a a place t asking n e (is ∙ h)

-- What the host sees of a call at a width whose slots are mapped: the arguments that these numbers are read as.
pub record ReadAt (w : ℕ) (world : World) (P : Placement) (r : RunState) (g : ℕ) (asking : Asking) : Type 0 where
  pub numbers : List ℕ
  pub slots : slots_from w r.machine (register r.machine 0) (signature_params world.notes g) ≡ Some numbers
  pub args : asked_args asking ≡ arguments_read w world.notes P (width.objects_at world r) r.machine.byte
      (signature_params world.notes g) numbers

pub read_at : (w : ℕ) (world : World) (P : Placement) (r : RunState) (place g : ℕ) (asking : Asking)
    → width.host_view w world P r ≡ Some (Calls place asking) → site_of world.notes place ≡ Some g → asking_refused place asking ≡ None
    → ReadAt w world P r g asking
unfolding width.host_view width.asking_at
read_at w world P r place g asking e site none = go (nat_eq r.machine.ip r.machine.gate) e
  where
    asking_of : View → Asking
    asking_of (Calls p k) = k
    asking_of _ = asking

    place_of : View → ℕ
    place_of (Calls p k) = p
    place_of _ = place

    by_slots : (t : ℕ) (o : Option (List ℕ)) → width.slots_of w world r g ≡ o → width.asking_by w world P r t g o ≡ asking
        → ReadAt w world P r g asking
    by_slots t None at e = absurd (none-some _ (sym (ap (asking_refused place) e ∙ none)))
    by_slots t (Some xs) at e = record { numbers = xs; slots = at; args = sym (ap asked_args e) }

    asked : (q t : ℕ) → Calls q (width.asking_at w world P r q t) ≡ Calls place asking → ReadAt w world P r g asking
    asked q t e =
        let at : site_of world.notes q ≡ Some g = ap (site_of world.notes) (ap place_of e) ∙ site in
        by_slots t (width.slots_of w world r g) refl (sym (ap
        (λ (o : Option ℕ). option_map_or (λ y. width.asking_by w world P r t y (width.slots_of w world r y)) o NoSite) at)
        ∙ ap asking_of e)

    by_call : (c : NativeCall ℕ) → width.call_seen w world P r c ≡ Some (Calls place asking) → ReadAt w world P r g asking
    by_call NoCall e = absurd (not_due (is_due world.script r.script) e)
      where
        not_due : (t : Bool) → (if t then Some (IsDue (length r.hosts)) else None) ≡ Some (Calls place asking) → ⊥
        not_due true e = cc
        not_due false e = none-some _ e
    by_call (Asked q t) e = asked q t (same_Some _ _ e)
    by_call (Accepted n k xs) e = absurd (let x = same_Some _ _ e in cc)

    by_hosts : (hs : List SavedFrame) → width.return_seen w world P r hs ≡ Some (Calls place asking) → ReadAt w world P r g asking
    by_hosts [] e = absurd (none-some _ e)
    by_hosts (h ∷ hs) e = absurd (no_call h.notified (is_empty hs) h.func (width.result_of w world P r h.func) (same_Some _ _ e))
      where
        no_call : (n b : Bool) (g : ℕ) (u : Value) → return_view n b g u ≡ Calls place asking → ⊥
        no_call true b g u e = cc
        no_call false b g u e = cc

    go : (b : Bool) → (if b then width.return_seen w world P r r.hosts else width.call_seen w world P r (width.call_under_way r.hosts))
        ≡ Some (Calls place asking) → ReadAt w world P r g asking
    go true e = by_hosts r.hosts e
    go false e = by_call (width.call_under_way r.hosts) e
