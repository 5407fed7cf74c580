-- The host's call step: what a typed program asks for is seen, and the call is accepted, or the run ends with a script that doesn't
-- go on so.
use Rattle.invariant_laws.proofs.Common.{⊤, flat_map, option_map, option_map_or, ◌≡◌, ◌⊎◌, ℕ, zero, suc, ◌+◌, ◌-◌, ◌<◌, ◌≤◌, Bool, true}
use Rattle.invariant_laws.proofs.Common.{false, if◌then◌else◌, nat_eq, List, [], ◌∷◌, ◌++◌, map, take, length, Option, Some, None}
use Rattle.invariant_laws.proofs.Common.{option_and_then, refl, sym, ap, ap₂, ◌∙◌, subst, arith, inl, inr, slice_get, eqb-true, eq-eqb}
use Rattle.invariant_laws.proofs.Common.{none-some, same_Some, slice_get-map, IsKnownWant, Each, Ending, Event, Notes, Signature, Want}
use Rattle.invariant_laws.proofs.Common.{WantParam, ScriptCall, ScriptObject, Seen, TypedObject, FunctionFrame, Frame, Function, Config}
use Rattle.invariant_laws.proofs.Common.{depth, call_under_way, with_call, locals_at, host_plan, filling, signature_params, Memory}
use Rattle.invariant_laws.proofs.Common.{memory_of, neutral_arguments, made_objects, placed_objects, static_object, script_object, Asked}
use Rattle.invariant_laws.proofs.Common.{Accepted, all_made, Neutral, World, slice_get-append_left, slice_get-append_right, within_some}
use Rattle.invariant_laws.proofs.Common.{ArgumentFits, ArgumentsFit, Later, live_memory, CellsFit, SoundBelow, States, AsksWell}
use Rattle.invariant_laws.proofs.Common.{WaitsNative, RaisesOnlyDivideError, TopHolds, Holds, RunWorld, HostGoesOn}
use Rattle.std.proofs.Common.{append_assoc}
use Rattle.std.proofs.lemmas.{Bool.cases_lt, List.map-append}
use Rattle.note_types.specs.declared.script.Script.{Script}
use Rattle.host_model.specs.HostPlans.{NoSite, Asks, Calls, Accepts, call_plan, call_settled, entry_refused, argument_refused}
use Rattle.host_model.specs.HostPlans.{objects_made_by, signature_method}
use Rattle.host_model.specs.{Objects.objects_of, Progress.one_entry, ScriptValues.same_seen, Scripts.IsScript}
use Rattle.neutral_machine.specs.{Locations.is_method, NeutralReadings.neutral_slots}
use Rattle.invariant_laws.proofs.Marks.{depth_call, locals_call, hosts_call, call_is, frames_call, chain_call}
use Rattle.invariant_laws.proofs.Same.{SameMemory, same_later, frames_later, cells_same, cells_live, cells_of_live}
use Rattle.invariant_laws.proofs.Filling.{AreFirst, AreMade, filled_fit, filled_later}
use Rattle.invariant_laws.proofs.{Later.live, Later.live_some, Later.live_later, Chains.arguments_later, Chains.waits_later}
use Rattle.invariant_laws.proofs.{Chains.chain_later, Readings.arguments_read, Leaving.host_goes_on, Leaving.ended_holds}
use Rattle.invariant_laws.proofs.LaterFits.{later_trans}
use Rattle.neutral_machine.proofs.PlacedObjects.{placed_in_all}
use Rattle.note_types.specs.declared.ending.Ending.TheVariants as ending
use Rattle.note_types.specs.declared.event.Event.TheVariants as event
use Rattle.note_types.specs.declared.notes.Want.TheVariants as want
use Rattle.note_types.specs.declared.reason.Reason.TheVariants as reason
use Rattle.note_types.specs.declared.spot.Spot.TheVariants as spot
use Rattle.neutral_machine.specs.NeutralHost as neutral

-- ---- how runs end with a script

-- an ending that isn't an exception
abbrev pub IsQuiet : Ending → Type 0
IsQuiet ending.Running = ⊥
IsQuiet (ending.Raised e) = ⊥
IsQuiet c = ⊤

pub quiet_ends : (e : Ending) → IsQuiet e → (e ≡ ending.Running → ⊥) × RaisesOnlyDivideError e
quiet_ends ending.Running q = absurd q
quiet_ends (ending.Raised x) q = absurd q
quiet_ends c q = (λ e. absurd (cc), tt)

argument_quiet : (k : ℕ) (xs ys : List Seen) (e : Ending) → argument_refused k xs ys ≡ Some e → IsQuiet e
unfolding argument_refused
argument_quiet k [] ys e h = absurd (none-some e h)
argument_quiet k (x ∷ xs) [] e h = absurd (none-some e h)
argument_quiet k (x ∷ xs) (y ∷ ys) e h = go (same_seen x y) h (argument_quiet (suc k) xs ys e)
  where
    go : (t : Bool) → (if t then argument_refused (suc k) xs ys else Some (ending.Mismatch (reason.Argument k x y))) ≡ Some e
        → (argument_refused (suc k) xs ys ≡ Some e → IsQuiet e) → IsQuiet e
    go true h more = more h
    go false h more = subst IsQuiet (same_Some _ e h) tt

entry_quiet : (o : Option ScriptCall) (g : ℕ) (args : List Seen) (e : Ending) → entry_refused o g args ≡ Some e → IsQuiet e
entry_quiet None g args e h = subst IsQuiet (same_Some _ e h) tt
entry_quiet (Some c) g args e h = go (nat_eq c.signature g) h
  where
    go : (t : Bool) → (if t then argument_refused 0 args c.args else Some (ending.Mismatch (reason.Signature g c.signature))) ≡ Some e
        → IsQuiet e
    go true h = argument_quiet 0 args c.args e h
    go false h = subst IsQuiet (same_Some _ e h) tt

-- the script's call that is accepted
entry_taken : (o : Option ScriptCall) (g : ℕ) (args : List Seen) → entry_refused o g args ≡ None → (c : ScriptCall) × (o ≡ Some c)
    × (c.signature ≡ g)
entry_taken None g args h = absurd (none-some _ (sym h))
entry_taken (Some c) g args h = (c, refl, go (nat_eq c.signature g) refl h)
  where
    go : (t : Bool) → nat_eq c.signature g ≡ t → (if t then argument_refused 0 args c.args
        else Some (ending.Mismatch (reason.Signature g c.signature))) ≡ None → c.signature ≡ g
    go true e h = eqb-true c.signature g e
    go false e h = absurd (none-some _ (sym h))

-- ---- the objects of a script

-- the objects made so far are the first of all
made_in_all : (notes : Notes) (script : Script) (n k : ℕ) (o : TypedObject) → slice_get (made_objects notes script n) k ≡ Some o
    → slice_get (all_made notes script) k ≡ Some o
unfolding made_objects
made_in_all notes script n k o e = go (cases_lt k (length (map static_object notes.statics)))
  where
    of_map : (q : Option ScriptObject) → option_map script_object q ≡ Some o → (s : ScriptObject) × (q ≡ Some s) × (script_object s ≡ o)
    of_map None h = absurd (none-some o h)
    of_map (Some s) h = (s, refl, same_Some (script_object s) o h)

    go : (k < length (map static_object notes.statics)) ⊎ (length (map static_object notes.statics) ≤ k)
        → slice_get (map static_object notes.statics ++ map script_object (placed_objects script (length script.call))) k ≡ Some o
    go (inl l) = slice_get-append_left (map static_object notes.statics)
        (map script_object (placed_objects script (length script.call))) k l
        ∙ sym (slice_get-append_left (map static_object notes.statics) (map script_object (placed_objects script n)) k l) ∙ e
    go (inr l) =
        let j = k - length (map static_object notes.statics) in
        let s = of_map (slice_get (placed_objects script n) j) (sym (slice_get-map script_object (placed_objects script n) j)
        ∙ sym (slice_get-append_right (map static_object notes.statics) (map script_object (placed_objects script n)) k l) ∙ e) in
        slice_get-append_right (map static_object notes.statics) (map script_object (placed_objects script (length script.call))) k l
        ∙ slice_get-map script_object (placed_objects script (length script.call)) j
        ∙ ap (option_map script_object) (placed_in_all script n j s.0 s.1) ∙ ap Some s.2

pub are_first : (notes : Notes) (script : Script) (n : ℕ) → AreFirst (made_objects notes script n) (all_made notes script)
are_first notes script n = record {
  same = λ k l. let s = within_some (made_objects notes script n) k l in made_in_all notes script n k s.0 s.1 ∙ sym s.1;
}

-- a call that is accepted brings its objects
brought_more : (script : Script) (n : ℕ) (c : ScriptCall) → slice_get script.call n ≡ Some c
    → placed_objects script (n + 1) ≡ placed_objects script n ++ c.make
unfolding placed_objects
brought_more script n c e =
    ap (λ z. script.object ++ z) (ap (λ m. flat_map objects_of (take m script.call)) (let q : n + 1 ≡ suc n = omega arith in q)
    ∙ go n script.call e)
    ∙ sym (append_assoc script.object (flat_map objects_of (take n script.call)) c.make)
  where
    append_nil : (xs : List ScriptObject) → xs ++ [] ≡ xs
    append_nil [] = refl
    append_nil (x ∷ xs) = ap (λ ys. x ∷ ys) (append_nil xs)

    go : (n : ℕ) (cs : List ScriptCall) → slice_get cs n ≡ Some c → flat_map objects_of (take (suc n) cs) ≡ flat_map objects_of (take n cs)
        ++ c.make
    go n [] e = absurd (none-some c e)
    go zero (d ∷ cs) e = ap (λ (z : ScriptCall). z.make ++ []) (same_Some d c e) ∙ append_nil c.make
    go (suc n) (d ∷ cs) e = ap (λ z. d.make ++ z) (go n cs e) ∙ sym (append_assoc d.make (flat_map objects_of (take n cs)) c.make)

pub made_more : (notes : Notes) (script : Script) (n : ℕ) (c : ScriptCall) → slice_get script.call n ≡ Some c
    → made_objects notes script (n + 1) ≡ made_objects notes script n ++ map script_object c.make
unfolding made_objects
made_more notes script n c e =
    ap (λ z. map static_object notes.statics ++ map script_object z) (brought_more script n c e)
    ∙ ap (λ z. map static_object notes.statics ++ z) (map-append script_object (placed_objects script n) c.make)
    ∙ sym (append_assoc (map static_object notes.statics) (map script_object (placed_objects script n)) (map script_object c.make))

pub call_made : (notes : Notes) (script : Script) (n : ℕ) (c : ScriptCall) → IsScript notes script → slice_get script.call n ≡ Some c
    → AreMade notes (made_objects notes script n) (all_made notes script) c.make
call_made notes script n c h e = record {
  first = subst (λ z. AreFirst z (all_made notes script)) (made_more notes script n c e) (are_first notes script (n + 1));
  each = λ j o there. (h.calls n c e).make j o there;
}

-- ---- arguments of all cells

argument_raw : (notes : Notes) (m : Memory) (d : ℕ) (w : Want) (v : Neutral) → ArgumentFits notes (live notes m) d w v
    → ArgumentFits notes m d w v
argument_raw notes m d want.Any v x = tt
argument_raw notes m d (want.Out c) v b = record {
  e = b.e;
  f = b.f;
  is = b.is;
  lower = b.lower;
  field = b.field;
  there = b.there;
  cell_is = b.cell_is;
}
argument_raw notes m d (want.Inout c) v x =
    let b = x.cell_below in
    record {
      cell_below = record { e = b.e; f = b.f; is = b.is; lower = b.lower; field = b.field; there = b.there; cell_is = b.cell_is };
      written = record { value = x.written.value; is = (live_some notes m _ x.written.value x.written.is).2 };
    }
argument_raw notes m d w v x = x

pub arguments_raw : (notes : Notes) (m : Memory) (d : ℕ) (ps : List WantParam) (vs : List Neutral)
    → ArgumentsFit notes (live notes m) d ps vs → ArgumentsFit notes m d ps vs
arguments_raw notes m d [] [] x = tt
arguments_raw notes m d [] (v ∷ vs) x = absurd x
arguments_raw notes m d (p ∷ ps) [] x = absurd x
arguments_raw notes m d (p ∷ ps) (v ∷ vs) x = (argument_raw notes m d p.want v x.0, arguments_raw notes m d ps vs x.1)

-- ---- the call step

-- a configuration at a place
abbrev pub at_place : Config → ℕ → FunctionFrame → List Frame → Config
at_place a p f fs = record a { spot = spot.Place p; frames = Function f ∷ fs; ending = ending.Running }

module _ (world : World) (states : States) (ok : RunWorld world states) where
  -- the function on top asks for the call that the notes give its place
  abbrev pub asks : Config → ℕ → ℕ → Neutral → FunctionFrame → List Frame → Type 0
  asks a p q v f fs = AsksWell world states (live_memory world (at_place a p f fs)) a.made (depth fs) f q p v a.registers

  slots_are : (a : Config) (p q : ℕ) (v : Neutral) (f : FunctionFrame) (fs : List Frame) → (w : asks a p q v f fs)
      → neutral.slots_of world (at_place a p f fs) w.number ≡ Some w.args
  slots_are a p q v f fs w = ap (λ (o : Option Signature). neutral_slots world.notes (neutral.objects_at world a)
      (option_map_or (λ (s : Signature). s.params) o []) f.items) w.there ∙ w.args_are

  asking_is : (a : Config) (p q : ℕ) (v : Neutral) (f : FunctionFrame) (fs : List Frame) → SoundBelow world (at_place a p f fs)
      → (w : asks a p q v f fs) → (args : List Seen) × (neutral.asking_at world (at_place a p f fs) q v ≡ Some (Asks w.number None args))
  unfolding neutral.asking_at
  asking_is a p q v f fs sound w =
      let x = at_place a p f fs in
      let wants : Each (λ (z : WantParam). IsKnownWant world.notes z.want) w.signature.params =
      λ k z e. ((ok.notes.signatures w.number w.signature w.there).params k z e).known in
      let m = memory_of world x in
      let r = arguments_read world.notes m (depth fs) (Function f ∷ fs) (λ e. refl) (ok.small a.script.entries)
      (cells_of_live world.notes m sound.cells) (λ k o e. ok.shapes a.script.entries k o e) w.signature.params w.args wants
      (arguments_raw world.notes m (depth fs) w.signature.params w.args w.args_fit) in
      let method : is_method (signature_method world.notes w.number) v ≡ true =
      ap₂ is_method (ap (λ (o : Option Signature). option_map_or (λ (s : Signature). s.method) o 0) w.there) w.method
      ∙ eq-eqb w.signature.method w.signature.method refl in
      let read : neutral_arguments world.notes (neutral.objects_at world x) x.frames x.cells
      (signature_params world.notes w.number) w.args ≡ Some r.0 =
      ap (λ (o : Option Signature). neutral_arguments world.notes (neutral.objects_at world x) x.frames x.cells
      (option_map_or (λ (s : Signature). s.params) o []) w.args) w.there ∙ r.1 in (
        r.0,
        ap (λ (o : Option ℕ). option_map_or (neutral.asking_by world x v) o (Some NoSite)) w.site
            ∙ ap₂ (λ t (o : Option (List Seen)). if t then option_map (Asks w.number None) o else None) method
            (ap (option_and_then (neutral_arguments world.notes (neutral.objects_at world x) x.frames x.cells
            (signature_params world.notes w.number))) (slots_are a p q v f fs w) ∙ read),
      )

  -- ---- a call that is accepted

  abbrev accepted : Config → ℕ → FunctionFrame → List Frame → ScriptCall → List Neutral → List Event → Config
  accepted a p f fs c args t = record a {
    spot = spot.Place p;
    ending = ending.Running;
    cells = neutral.after_stores world.notes (made_objects world.notes world.script a.script.entries ++ map script_object c.make) []
        (filling world.notes (length (made_objects world.notes world.script a.script.entries)) c.make)
        (neutral.with_objects world.notes (made_objects world.notes world.script a.script.entries ++ map script_object c.make)
        (length (made_objects world.notes world.script a.script.entries)) a.cells);
    frames = Function f ∷ with_call (Accepted a.script.entries 0 args) fs;
    script = one_entry a.script;
    trace = t;
  }

  accepted_same : (a : Config) (p : ℕ) (f : FunctionFrame) (fs : List Frame) (c : ScriptCall) (args : List Neutral) (t : List Event)
      → slice_get world.script.call a.script.entries ≡ Some c
      → SameMemory (record {
        objects = made_objects world.notes world.script a.script.entries
            ++ map script_object c.make;
        locals = locals_at (Function f ∷ fs);
        cells = (accepted a p f fs c args t).cells;
      })
      (memory_of world (accepted a p f fs c args t))
  accepted_same a p f fs c args t e = record {
    objects = made_more world.notes world.script a.script.entries c e;
    locals = λ n. locals_call (Accepted a.script.entries 0 args) (Function f ∷ fs) n;
    cells = λ q. refl;
  }

  accepted_later : (a : Config) (p : ℕ) (f : FunctionFrame) (fs : List Frame) (c : ScriptCall) (args : List Neutral) (t : List Event)
      → slice_get world.script.call a.script.entries ≡ Some c → CellsFit world.notes (memory_of world (at_place a p f fs))
      → (d : ℕ) → Later d (live_memory world (at_place a p f fs)) (live_memory world (accepted a p f fs c args t))
  accepted_later a p f fs c args t e fit d =
      live_later world.notes d (memory_of world (at_place a p f fs)) (memory_of world (accepted a p f fs c args t))
      (later_trans d _ _ _ (filled_later world.notes (made_objects world.notes world.script a.script.entries)
      (all_made world.notes world.script) c.make (call_made world.notes world.script a.script.entries c ok.script e)
      (locals_at (Function f ∷ fs)) a.cells fit d)
      (same_later _ _ (accepted_same a p f fs c args t e) d))

  accepted_holds : (a : Config) (p q : ℕ) (v : Neutral) (f : FunctionFrame) (fs : List Frame) (c : ScriptCall) (t : List Event)
      → call_under_way fs ≡ Asked q v → Holds world states (at_place a p f fs) → (w : asks a p q v f fs)
      → slice_get world.script.call a.script.entries ≡ Some c → c.signature ≡ w.number → Holds world states (accepted a p f fs c w.args t)
  accepted_holds a p q v f fs c t under x w e sig =
      let U = live_memory world (at_place a p f fs) in
      let V = live_memory world (accepted a p f fs c w.args t) in
      let raw = cells_of_live world.notes (memory_of world (at_place a p f fs)) x.sound.cells in
      let later = accepted_later a p f fs c w.args t e raw in
      let mark = Accepted a.script.entries 0 w.args in
      let hosts_same = hosts_call mark (Function f ∷ fs) in
      let native : WaitsNative world states (live_memory world (accepted a p f fs c w.args t)) a.made
      (depth fs) f a.script.entries p w.args a.registers = record {
        call = c;
        entry_is = e;
        signature = w.signature;
        there = ap (slice_get world.notes.signature) sig ∙ w.there;
        args_fit = arguments_later world.notes (depth fs) U V w.signature.params w.args (later (depth fs)) w.args_fit;
        waits = waits_later world.notes states U V a.made (depth fs) f p a.registers _ (later (depth fs)) w.waits;
      } in
      record {
        served = x.served;
        thunks = x.thunks;
        sound = record {
          cells = cells_live world.notes (memory_of world (accepted a p f fs c w.args t))
              (cells_same world.notes _ (memory_of world (accepted a p f fs c w.args t)) (accepted_same a p f fs c w.args t e)
              (filled_fit world.notes (made_objects world.notes world.script a.script.entries) (all_made world.notes world.script) c.make
              (call_made world.notes world.script a.script.entries c ok.script e) (locals_at (Function f ∷ fs)) a.cells raw));
          frames = frames_call world V a.made mark (Function f ∷ fs) (frames_later world U V a.made (Function f ∷ fs) later x.sound.frames);
          few = let y = x.sound.few in omega (arith, y, hosts_same);
        };
        well = λ on. record {
          top = subst (λ m. TopHolds world states (accepted a p f fs c w.args t) m p (Function f ∷ with_call mark fs))
              (sym (call_is mark (Asked q v) fs under (λ n. absurd (cc))))
              (subst (λ d. WaitsNative world states (live_memory world
              (accepted a p f fs c w.args t)) a.made d f a.script.entries p w.args a.registers) (sym (depth_call mark fs)) native);
          waiting = chain_call world states V a.made mark (Function f ∷ fs)
              (chain_later world states U V a.made (Function f ∷ fs) (λ d l. later d) (x.well refl).waiting);
        };
        raised = tt;
      }

  -- the step at a native call that is asked for
  pub call_step : (a : Config) (p q : ℕ) (v : Neutral) (f : FunctionFrame) (fs : List Frame) → call_under_way fs ≡ Asked q v
      → Holds world states (at_place a p f fs) → asks a p q v f fs → HostGoesOn world states (at_place a p f fs)
  unfolding neutral.host_view neutral.performed host_plan call_plan
  call_step a p q v f fs under x w =
      let k = asking_is a p q v f fs x.sound w in
      host_goes_on world states (at_place a p f fs) (Calls q (Asks w.number None k.0))
      (ap (neutral.call_seen world (at_place a p f fs)) under ∙ ap (option_map (Calls q)) k.1)
      (go k.0 (entry_refused (slice_get world.script.call a.script.entries) w.number k.0) refl)
    where
      slots : neutral.slots_asked world (at_place a p f fs) (call_under_way fs) ≡ w.args
      slots = ap (neutral.slots_asked world (at_place a p f fs)) under
          ∙ ap (λ (o : Option ℕ). option_map_or (λ vs. vs) (option_and_then (neutral.slots_of world (at_place a p f fs)) o) []) w.site
          ∙ ap (λ (o : Option (List Neutral)). option_map_or (λ vs. vs) o []) (slots_are a p q v f fs w)

      taken : (args : List Seen) (c : ScriptCall) (o : Option ScriptCall) → slice_get world.script.call a.script.entries ≡ o → o ≡ Some c
          → c.signature ≡ w.number
          → Holds world states (neutral.performed world (at_place a p f fs)
          (Accepts (event.Called q (Some w.number) args) a.script.entries (map script_object (objects_made_by o))
          (filling world.notes (length (made_objects world.notes world.script a.script.entries)) (objects_made_by o))))
      taken args c None at e sig = absurd (none-some c e)
      taken args c (Some d) at e sig =
          subst (λ (vs : List Neutral). Holds world states (accepted a p f fs d vs (a.trace ++ event.Called q (Some w.number) args ∷ [])))
          (sym slots)
          (accepted_holds a p q v f fs d (a.trace ++ event.Called q (Some w.number) args ∷ []) under x w at
          (ap (λ (z : ScriptCall). z.signature) (same_Some d c e) ∙ sig))

      go : (args : List Seen) (o : Option Ending) → entry_refused (slice_get world.script.call a.script.entries) w.number args ≡ o
          → Holds world states (neutral.performed world (at_place a p f fs)
          (call_settled world a.script.entries (event.Called q (Some w.number) args) o))
      go args (Some e) h = let z = quiet_ends e (entry_quiet (slice_get world.script.call a.script.entries) w.number args e h) in
          ended_holds world states (at_place a p f fs) e _ z.0 z.1 x
      go args None h = let z = entry_taken (slice_get world.script.call a.script.entries) w.number args h in
          taken args z.0 (slice_get world.script.call a.script.entries) refl z.1 z.2
