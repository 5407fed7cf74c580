-- B is entered from its rest, and A gets its reply, as the plans of a pair's rules have it.
use Rattle.pair_laws.proofs.Common.{◌≡◌, ℕ, ◌+◌, ◌<◌, ◌≤◌, ◌^◌, Bool, true, false, ◌&&◌, nat_eq, nat_le, List, [], ◌∷◌, ◌++◌, length}
use Rattle.pair_laws.proofs.Common.{Option, Some, None, refl, sym, ap, ◌∙◌, subst, arith, slice_get, AllByRecursion, option_map_or}
use Rattle.pair_laws.proofs.Common.{and_parts, false≢true, ltb-true, leb-true, IsWidth, at_place, ValuesFit, RunWorld, Event, FnNote, Ty}
use Rattle.pair_laws.proofs.Common.{Value, sound_room, FunctionFrame, Frame, Function, Config, depth, call_under_way, with_call, Enters}
use Rattle.pair_laws.proofs.Common.{function_params, total, stack_bytes, Asked, fits, fits_result, is_handle, TypedObject, divides, Notes}
use Rattle.pair_laws.proofs.Common.{Neutral, World, IsValue, result_value, GivenByNative, Holds, StatesFitBelow, live_memory, States}
use Rattle.pair_laws.proofs.Common.{AsksWell, neutral_bound_reply, value_given}
use Rattle.host_laws.specs.PlanFits.{CanEnter as CanEnterAt}
use Rattle.host_laws.proofs.Entering.{heights}
use Rattle.invariant_laws.proofs.Entering.{entered_holds}
use Rattle.note_types.specs.{Passing.IsGiven, Types.is_start}
use Rattle.neutral_machine.specs.Layout.{height}
use Rattle.host_model.specs.{ScriptValues.fits_range, ScriptValues.fits_pointer, ScriptValues.is_status, Placements.return_cell}
use Rattle.host_model.specs.{Placements.params_bytes, Progress.one_callback}
use Rattle.pair_laws.proofs.Holding.{Rests, LendsNone, rest_enters, bound_reply_holds, reply_given}
use Rattle.pair_laws.proofs.{Holding.told_holds, Resting.AsksAt}
use Rattle.note_types.specs.declared.ending.Ending.TheVariants as ending
use Rattle.note_types.specs.declared.spot.Spot.TheVariants as spot
use Rattle.note_types.specs.declared.types.Ty.TheVariants as ty
use Rattle.note_types.specs.declared.value.Value.TheVariants as value
use Rattle.neutral_machine.specs.NeutralHost as neutral

-- a configuration with its spot, frames and ending written out
place_is : (a : Config) (p : ℕ) (gs : List Frame) → a.spot ≡ spot.Place p → a.frames ≡ gs → a.ending ≡ ending.Running
    → record a { spot = spot.Place p; frames = gs; ending = ending.Running } ≡ a
place_is a p gs es ef ee =
    sym (subst (λ e. a ≡ record a { spot = spot.Place p; frames = gs; ending = e }) ee
    (subst (λ fs. a ≡ record a { spot = spot.Place p; frames = fs; ending = a.ending }) ef
    (subst (λ t. a ≡ record a { spot = t; frames = a.frames; ending = a.ending }) es refl)))

rest_is : (a : Config) → a.frames ≡ [] → a.ending ≡ ending.Running → record a { frames = []; ending = ending.Running } ≡ a
rest_is a ef ee =
    sym (subst (λ e. a ≡ record a { frames = []; ending = e }) ee
    (subst (λ fs. a ≡ record a { frames = fs; ending = a.ending }) ef refl))

-- What is known of a call that B is to take.
pub record CanTake (world : World) (b : Config) (f : ℕ) (vs : List Value) : Type 0 where
  pub rests : Rests world b
  pub made : b.made ≡ length world.notes.thunk
  pub other : nat_eq f world.notes.entry ≡ false
  pub note : FnNote
  pub there : slice_get world.notes.function f ≡ Some note
  pub enter : note.enter ≡ true
  pub values : ValuesFit (neutral.objects_at world b) note.params vs
  pub known : AllByRecursion (IsValue world.notes) vs

module _ (world : World) (states : States) (ok : RunWorld world states) (fits_below : StatesFitBelow) where
  -- ---- 4. the entering

  pub enter_holds : (b : Config) (e : Event) (f : ℕ) (vs : List Value) → CanTake world b f vs
      → Holds world states (neutral.performed world b (Enters e 0 f vs))
  unfolding neutral.performed rest_enters
  enter_holds b e f vs c =
      subst (λ y. Holds world states (neutral.performed world y (Enters e 0 f vs))) (rest_is b c.rests.frames c.rests.running)
      (subst (λ (o : Option FnNote). Holds world states (neutral.entered false world
      (record b { frames = []; trace = b.trace ++ e ∷ []; ending = ending.Running }) f
      (neutral.param_slots world.notes (neutral.objects_at world b) (option_map_or (λ (g : FnNote). g.params) o []) vs))) (sym c.there)
      (entered_holds world states ok.notes ok.starts fits_below false
      (record b { frames = []; trace = b.trace ++ e ∷ []; ending = ending.Running }) f vs
      (rest_enters world states ok b f c.note vs (b.trace ++ e ∷ []) c.rests c.made c.other c.there c.enter c.values)))

  enter_room : (w : ℕ) (b : Config) (e : Event) (f : ℕ) (vs : List Value) (ps : _) → b.frames ≡ [] → function_params world.notes f ≡ ps
      → length ps ≡ length vs
      → total w (neutral.performed world b (Enters e 0 f vs)).frames ≤ stack_bytes w world.notes
      → return_cell + (params_bytes w ps + total w b.frames) ≤ stack_bytes w world.notes
  unfolding neutral.performed
  enter_room w b e f vs ps none same many l =
      let made = neutral.objects_at world b in
      let slots : height w (neutral.param_slots world.notes made (function_params world.notes f) vs) ≡ params_bytes w ps = ap
      (λ qs. height w (neutral.param_slots world.notes made qs vs)) same ∙ heights w world.notes made ps vs many in
      let inside : 0 + (return_cell + (height w (neutral.param_slots world.notes made
      (function_params world.notes f) vs) + total w [])) ≤ stack_bytes w world.notes =
      subst (λ gs. 0 + (return_cell + (height w (neutral.param_slots world.notes made
      (function_params world.notes f) vs) + total w gs)) ≤ stack_bytes w world.notes) (unmarked b.frames none) l in
      let t : total w b.frames ≡ 0 = ap (total w) none in
      omega (arith, inside, slots, t)
    where
      unmarked : (gs : List Frame) → gs ≡ [] → with_call (one_callback (call_under_way gs)) gs ≡ []
      unmarked gs e = ap (λ (fs : List Frame). with_call (one_callback (call_under_way fs)) fs) e

  -- at either width the stack has room for it
  pub enter_well : (w : ℕ) (b : Config) (e : Event) (f : ℕ) (vs : List Value) → IsWidth w → CanTake world b f vs → CanEnterAt w world b f vs
  enter_well w b e f vs h c = record {
    note = c.note;
    there = c.there;
    as_many = c.values.long;
    fit = c.known;
    room = enter_room w b e f vs c.note.params c.rests.frames
        (ap (λ (o : Option FnNote). option_map_or (λ (g : FnNote). g.params) o []) c.there) c.values.long
        (sound_room w world (neutral.performed world b (Enters e 0 f vs)) h (enter_holds b e f vs c).sound);
  }

  -- ---- 6. the reply

  result_is : (a : Config) (kind : Option Ty) (v : Value) → result_value world.notes (neutral.objects_at world a) kind
      (value_given kind v) ≡ result_value world.notes (neutral.objects_at world a) kind v
  result_is a None v = refl
  result_is a (Some t) v = refl

  -- what is said of a reply where the function on top asks
  abbrev Replies : ℕ → Value → ℕ → Neutral → FunctionFrame → List Frame → Config → Config → Type 0
  Replies q v p t f fs a y =
      Holds world states y → (w : AsksWell world states (live_memory world y) a.made (depth fs) f q p t a.registers)
      → LendsNone w.signature.params
      → fits_result (neutral.objects_at world y) w.signature.result (value_given w.signature.result v) ≡ true
      → Holds world states (neutral_bound_reply world y w.signature.result v)

  reply_at : (a : Config) (q : ℕ) (v : Value) (p : ℕ) (t : Neutral) (f : FunctionFrame) (fs : List Frame) → call_under_way fs ≡ Asked q t
      → Replies q v p t f fs a (at_place a p f fs)
  unfolding neutral_bound_reply
  reply_at a q v p t f fs under h w none fit =
      let V = live_memory world (neutral_bound_reply world (at_place a p f fs) w.signature.result v) in
      bound_reply_holds world states ok a p q t f fs v under h w none
      (subst (GivenByNative world.notes w.signature w.args V) (result_is a w.signature.result v)
      (reply_given world states ok a p q t f fs v w none V (same_objects p f fs w.signature.result) (value_given w.signature.result v) fit))
    where
      same_objects : (p : ℕ) (f : FunctionFrame) (fs : List Frame) (kind : Option Ty)
          → (live_memory world (neutral_bound_reply world (at_place a p f fs) kind v)).objects ≡ neutral.objects_at world a
      same_objects p f fs kind = refl

  pub reply_holds : (a : Config) (q : ℕ) (v : Value) → Holds world states a → a.ending ≡ ending.Running → (x : AsksAt world states a q)
      → LendsNone x.well.signature.params
      → fits_result (neutral.objects_at world a) x.well.signature.result (value_given x.well.signature.result v) ≡ true
      → Holds world states (neutral_bound_reply world a x.well.signature.result v)
  reply_holds a q v h on x none fit =
      subst (Replies q v x.place x.target x.f x.fs a) (place_is a x.place (Function x.f ∷ x.fs) x.spot x.frames on)
      (reply_at a q v x.place x.target x.f x.fs x.under) h x.well none fit

  -- ---- 3. a bound call is told

  pub call_holds : (a : Config) (q : ℕ) (t : List Event) → Holds world states a → a.ending ≡ ending.Running → AsksAt world states a q
      → Holds world states (record a { trace = t; ending = ending.Running })
  call_holds a q t h on x =
      subst (λ y. Holds world states y → AsksWell world states (live_memory world y) a.made
      (depth x.fs) x.f q x.place x.target a.registers → Holds world states (record y { trace = t; ending = ending.Running }))
      (place_is a x.place (Function x.f ∷ x.fs) x.spot x.frames on)
      (λ k w. told_holds world states ok a x.place q x.target x.f x.fs t x.under k w) h x.well

-- ---- values of replies

pub status_known : (notes : Notes) (v : Value) → is_status v ≡ true → ((k : ℕ) → v ≡ value.Handle k → ⊥) → IsValue notes v
status_known notes (value.Int x) e n = absurd (false≢true e)
status_known notes (value.StatusOk x) e n = ltb-true x (2 ^ 31) e
status_known notes (value.StatusError x) e n = ltb-true x (2 ^ 31) e
status_known notes (value.Handle x) e n = absurd (n x refl)
status_known notes (value.Entry x) e n = absurd (false≢true e)
status_known notes (value.Method x) e n = absurd (false≢true e)
status_known notes (value.Wild x) e n = absurd (false≢true e)
status_known notes c e n = tt

int_known : (notes : Notes) (lo hi div : ℕ) → hi < 2 ^ 32 → (v : Value) → fits_range lo hi div v ≡ true
    → ((k : ℕ) → v ≡ value.Handle k → ⊥) → IsValue notes v
int_known notes lo hi div l (value.Int x) e n = let q = leb-true x hi
    (and_parts (nat_le x hi) (divides div x) (and_parts (nat_le lo x) (nat_le x hi && divides div x) e).1).0 in omega (arith, q, l)
int_known notes lo hi div l (value.StatusOk x) e n = absurd (false≢true e)
int_known notes lo hi div l (value.StatusError x) e n = absurd (false≢true e)
int_known notes lo hi div l (value.Handle x) e n = absurd (n x refl)
int_known notes lo hi div l (value.Entry x) e n = absurd (false≢true e)
int_known notes lo hi div l (value.Method x) e n = absurd (false≢true e)
int_known notes lo hi div l (value.Wild x) e n = absurd (false≢true e)
int_known notes lo hi div l c e n = tt

handle_known : (notes : Notes) (v : Value) → is_handle v ≡ true → ((k : ℕ) → v ≡ value.Handle k → ⊥) → IsValue notes v
handle_known notes (value.Size x y) e n = tt
handle_known notes (value.Ptr x y) e n = tt
handle_known notes value.Null e n = tt
handle_known notes (value.Handle x) e n = absurd (n x refl)
handle_known notes value.Any e n = tt
handle_known notes value.Out e n = tt
handle_known notes c e n = absurd (false≢true e)

pointer_known : (notes : Notes) (made : List TypedObject) (s k : ℕ) (may : Bool) (v : Value) → fits_pointer made s k may v ≡ true
    → ((k : ℕ) → v ≡ value.Handle k → ⊥) → IsValue notes v
pointer_known notes made s k may (value.Size x y) e n = tt
pointer_known notes made s k may (value.Ptr x y) e n = tt
pointer_known notes made s k may value.Null e n = tt
pointer_known notes made s k may (value.Handle x) e n = absurd (n x refl)
pointer_known notes made s k may value.Any e n = tt
pointer_known notes made s k may value.Out e n = tt
pointer_known notes made s k may c e n = absurd (false≢true e)

-- a value that isn't a handle, and fits what a method may give, is one that a text may have
pub given_known : (notes : Notes) (made : List TypedObject) (t : Ty) (v : Value) → IsGiven t → fits made t v ≡ true
    → ((k : ℕ) → v ≡ value.Handle k → ⊥) → IsValue notes v
unfolding fits
given_known notes made (ty.Status g) v i e n = status_known notes v e n
given_known notes made (ty.Int lo hi div) v i e n = int_known notes lo hi div i v e n
given_known notes made ty.Handle v i e n = handle_known notes v e n
given_known notes made (ty.Ptr s k a c may) v i e n = pointer_known notes made s k may v (and_parts (is_start a c) _ e).1 n
given_known notes made t v i e n = absurd i
