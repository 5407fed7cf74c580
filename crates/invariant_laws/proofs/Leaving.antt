-- The host leaves a function that has returned to the gate: the entry function, one of a callback, or one of a notification.
use Rattle.invariant_laws.proofs.Common.{option_map, option_map_or, ◌≡◌, ℕ, ◌^◌, Bool, true, false, if◌then◌else◌, nat_lt, List, [], ◌∷◌}
use Rattle.invariant_laws.proofs.Common.{◌++◌, Option, Some, None, refl, sym, ap, ◌∙◌, subst, arith, ⊎_elim, slice_get, lt-ltb, ne_eqb}
use Rattle.invariant_laws.proofs.Common.{true≢false, same_Some, IsNotes, Ending, Event, FnNote, Notes, Spot, Ty, Value, TypedObject}
use Rattle.invariant_laws.proofs.Common.{Registers, HostFrame, Frame, Function, Host, Config, depth, hosts, call_under_way, with_value}
use Rattle.invariant_laws.proofs.Common.{IsError, IsSuccess, FitsPlain, host_plan, Memory, memory_of, neutral_reading, NativeCall, NoCall}
use Rattle.invariant_laws.proofs.Common.{Accepted, Neutral, word, World, GivenByCall, GivenByNative, Later, Preserves, live_memory}
use Rattle.invariant_laws.proofs.Common.{SoundBelow, IsEntered, States, WaitsNative, WaitsBelow, InterruptedBelow, BelowMarked, BelowHost}
use Rattle.invariant_laws.proofs.Common.{Chain, RaisesOnlyDivideError, TopHolds, SpotHolds, Holds, HostGoesOn}
use Rattle.note_types.specs.{Passing.IsHandedBack, Records.CanBeEntered}
use Rattle.host_model.specs.{HostPlans.View, HostPlans.return_view, Progress.is_empty, Readings.sort_of_type}
use Rattle.neutral_machine.specs.NeutralReadings.{neutral_result}
use Rattle.invariant_laws.specs.{Sound.HostKeeps, Holds.GoesOnWell}
use Rattle.invariant_laws.proofs.Same.{SameMemory, same_later, live_same, frames_later, cells_same}
use Rattle.invariant_laws.proofs.{Later.will_kept, Chains.native_later, Chains.chain_later}
use Rattle.note_types.specs.declared.ending.Ending.TheVariants as ending
use Rattle.note_types.specs.declared.event.Event.TheVariants as event
use Rattle.note_types.specs.declared.spot.Spot.TheVariants as spot
use Rattle.note_types.specs.declared.types.Ty.TheVariants as ty
use Rattle.note_types.specs.declared.value.Value.TheVariants as value
use Rattle.neutral_machine.specs.NeutralHost as neutral

-- it is there where the host sees something, and its plan leaves what holds
pub host_goes_on : (world : World) (states : States) (a : Config) (v : View) → neutral.host_view world a a.spot ≡ Some v
    → Holds world states (neutral.performed world a (host_plan world a.script v)) → HostGoesOn world states a
unfolding neutral.neutral_host_step
host_goes_on world states a v e h = record {
  after = neutral.performed world a (host_plan world a.script v);
  is = ap (option_map (λ v. neutral.performed world a (host_plan world a.script v))) e;
  holds = h;
}

-- a configuration that ended so, with more events
pub ended_holds : (world : World) (states : States) (a : Config) (e : Ending) (t : List Event) → (e ≡ ending.Running → ⊥)
    → RaisesOnlyDivideError e → Holds world states a → Holds world states (record a { trace = t; ending = e })
ended_holds world states a e t n r h = record {
  served = h.served;
  thunks = h.thunks;
  sound = record { cells = h.sound.cells; frames = h.sound.frames; few = h.sound.few };
  well = λ on. absurd (n on);
  raised = r;
}

-- ---- the result

result_there : (notes : Notes) (made : List TypedObject) (t : Ty) (v : Neutral) → IsHandedBack t → FitsPlain notes made t v → (r : Value)
    × (neutral_result notes made (sort_of_type t) v ≡ Some r)
unfolding neutral_result neutral_reading
result_there notes made ty.Any v b f = (value.Any, refl)
result_there notes made (ty.Int lo hi div) v b f =
    let small : nat_lt (word f.x) (2 ^ 32) ≡ true = lt-ltb (word f.x) (2 ^ 32) (let y = f.to in omega (arith, y, b)) in (
      value.Int (word f.x),
      ap (λ u. neutral_result notes made (sort_of_type (ty.Int lo hi div)) u) f.is
          ∙ ap (λ b. if b then Some (value.Int (word f.x)) else None) small,
    )
result_there notes made (ty.Status g) v b f = ⊎_elim
    (λ (e : IsError v). (value.StatusError e.code, ap (neutral_result notes made (sort_of_type (ty.Status g))) e.is))
    (λ (s : IsSuccess v).
    let small : nat_lt (word s.code) (2 ^ 31) ≡ true = lt-ltb (word s.code) (2 ^ 31) (let y = s.small in omega (arith, y)) in (
      value.StatusOk (word s.code),
      ap (neutral_result notes made (sort_of_type (ty.Status g))) s.is
          ∙ ap (λ b. if b then Some (value.StatusOk (word s.code)) else None) small,
    )) f
result_there notes made t v b f = absurd b

-- a function that the host entered may be entered
pub can_be_entered : (notes : Notes) (func : ℕ) (note : FnNote) → IsNotes notes → slice_get notes.function func ≡ Some note
    → IsEntered notes func → CanBeEntered note
can_be_entered notes func note n there e = ⊎_elim
    (λ same. subst CanBeEntered (same_Some n.entry.0 note (sym n.entry.1 ∙ ap (slice_get notes.function) (sym same) ∙ there)) n.entry.2)
    (λ m. (n.functions func note there).entered (ap (λ (f : FnNote). f.enter) (same_Some note m.0 (sym there ∙ m.1)) ∙ m.2)) e

module _ (world : World) (states : States) (notes : IsNotes world.notes) where
  -- R7 has a reading
  result_is : (a : Config) (h : HostFrame) → HostKeeps world.notes h → GivenByCall world.notes h.func (live_memory world a) (a.registers 7)
      → (v : Value) × (neutral.result_of world a h.func ≡ Some v)
  unfolding neutral.result_of
  result_is a h k g =
      let can = can_be_entered world.notes h.func k.note notes k.there k.entered in
      let fits : FitsPlain world.notes (neutral.objects_at world a) k.note.result (a.registers 7) =
      subst (λ (o : Option FnNote). FitsPlain world.notes (neutral.objects_at world a)
      (option_map_or (λ (f : FnNote). f.result) o ty.Any) (a.registers 7)) k.there g in
      let r = result_there world.notes (neutral.objects_at world a) k.note.result (a.registers 7) can.gives fits in (
        r.0,
        ap (λ (o : Option FnNote). neutral_result world.notes (neutral.objects_at world a)
            (option_map_or (λ (f : FnNote). sort_of_type f.result) o (sort_of_type ty.Any)) (a.registers 7)) k.there ∙ r.1,
      )

  -- R1 to R3 are as they were saved
  pub seven_other : (saved : Registers) (v : Neutral) → Preserves saved (with_value saved 7 v)
  seven_other saved v r l m = ap (λ b. if b then v else saved r) (ne_eqb r 7 (λ e. absurd (omega (arith, e, m))))

  -- the configuration at the gate
  abbrev at_gate : Config → HostFrame → List Frame → Config
  at_gate a h fs = record a { spot = spot.Gate; frames = Host h ∷ fs; ending = ending.Running }

  -- and once the host frame is left, with these registers
  abbrev after_leaving : Config → HostFrame → Registers → List Frame → List Event → Config
  after_leaving a h regs fs t = record a {
    trace = t;
    registers = regs;
    c = h.c;
    spot = h.spot;
    frames = fs;
    ending = ending.Running;
  }

  same_left : (a : Config) (h : HostFrame) (regs : Registers) (fs : List Frame) (t : List Event)
      → SameMemory (live_memory world (at_gate a h fs)) (live_memory world (after_leaving a h regs fs t))
  same_left a h regs fs t = live_same world.notes (memory_of world (at_gate a h fs)) (memory_of world (after_leaving a h regs fs t))
      (record { objects = refl; locals = λ e. refl; cells = λ p. refl })

  left_sound : (a : Config) (h : HostFrame) (regs : Registers) (fs : List Frame) (t : List Event) → SoundBelow world (at_gate a h fs)
      → SoundBelow world (after_leaving a h regs fs t)
  left_sound a h regs fs t s =
      let same = same_left a h regs fs t in
      record {
        cells = cells_same world.notes (live_memory world (at_gate a h fs)) (live_memory world (after_leaving a h regs fs t)) same s.cells;
        frames = frames_later world (live_memory world (at_gate a h fs)) (live_memory world (after_leaving a h regs fs t)) a.made fs
            (same_later _ _ same) s.frames.1;
        few = let y = s.few in omega (arith, y);
      }

  -- the registers once a callback is left
  abbrev given_back : Config → HostFrame → Registers
  given_back a h = with_value h.saved 7 (a.registers 7)

  -- below a callback what waits goes on to wait
  left_well : (a : Config) (h : HostFrame) (fs : List Frame) (t : List Event) → is_empty (hosts fs) ≡ false → h.notified ≡ false
      → BelowHost world states (live_memory world (at_gate a h fs)) a.made h fs
      → Chain world states (live_memory world (at_gate a h fs)) a.made fs
      → GoesOnWell world states (after_leaving a h (given_back a h) fs t)
  left_well a h [] t e n b c = absurd (cc)
  left_well a h (Host g ∷ fs) t e n b c = absurd b
  left_well a h (Function f ∷ fs) t e n b c = record {
    top = go (call_under_way fs) refl h.spot (subst (λ m. BelowMarked m world states U a.made h f fs) n b);
    waiting = chain_later world states U V a.made (Function f ∷ fs) (λ d l. later d) c;
  }
    where
      U : Memory
      U = live_memory world (at_gate a h (Function f ∷ fs))

      V : Memory
      V = live_memory world (after_leaving a h (given_back a h) (Function f ∷ fs) t)

      later : (d : ℕ) → Later d (live_memory world (at_gate a h (Function f ∷ fs)))
          (live_memory world (after_leaving a h (given_back a h) (Function f ∷ fs) t))
      later d = same_later _ _ (same_left a h (given_back a h) (Function f ∷ fs) t) d

      native : (entry next : ℕ) (args : List Neutral) → WaitsNative world states (live_memory world (at_gate a h (Function f ∷ fs))) a.made
          (depth fs) f entry next args h.saved
          → WaitsNative world states (live_memory world (after_leaving a h (given_back a h) (Function f ∷ fs) t)) a.made (depth fs) f
          entry next args (given_back a h)
      native entry next args w =
          let y = native_later world states _ (live_memory world (after_leaving a h (given_back a h) (Function f ∷ fs) t)) a.made
          (depth fs) f entry next args h.saved (later (depth fs)) w in
          record {
            call = y.call;
            entry_is = y.entry_is;
            signature = y.signature;
            there = y.there;
            args_fit = y.args_fit;
            waits = record {
              state = y.waits.state;
              here = y.waits.here;
              fresh = y.waits.fresh;
              thunks = y.waits.thunks;
              will = will_kept world.notes _ a.made (depth fs) f y.waits.state h.saved (given_back a h)
                  (GivenByNative world.notes y.signature args) (GivenByNative world.notes y.signature args)
                  (seven_other h.saved (a.registers 7)) (λ V v l g. g) y.waits.will;
            };
          }

      go : (call : NativeCall Neutral) → call_under_way fs ≡ call → (s : Spot)
          → WaitsBelow world states (live_memory world (at_gate a h (Function f ∷ fs))) a.made (depth fs) f call s h.saved
          → SpotHolds world states (record (after_leaving a h (given_back a h) (Function f ∷ fs) t) { spot = s }) s
      go (Accepted entry callbacks args) is (spot.Place next) w =
          subst (λ c. TopHolds world states (record (after_leaving a h (given_back a h) (Function f ∷ fs) t) { spot = spot.Place next }) c
          next (Function f ∷ fs)) (sym is) (native entry next args w)
      go k is s w = absurd w

  -- below a notification the function that was interrupted goes on
  resumed_well : (a : Config) (h : HostFrame) (fs : List Frame) (t : List Event) → h.notified ≡ true
      → BelowHost world states (live_memory world (at_gate a h fs)) a.made h fs
      → Chain world states (live_memory world (at_gate a h fs)) a.made fs → GoesOnWell world states (after_leaving a h h.saved fs t)
  resumed_well a h [] t n b c = absurd (true≢false (sym n ∙ b))
  resumed_well a h (Host g ∷ fs) t n b c = absurd b
  resumed_well a h (Function f ∷ fs) t n b c = record {
    top = go (call_under_way fs) refl h.spot (subst (λ m. BelowMarked m world states U a.made h f fs) n b);
    waiting = chain_later world states U V a.made (Function f ∷ fs) (λ d l. later d) c;
  }
    where
      U : Memory
      U = live_memory world (at_gate a h (Function f ∷ fs))

      V : Memory
      V = live_memory world (after_leaving a h h.saved (Function f ∷ fs) t)

      later : (d : ℕ) → Later d (live_memory world (at_gate a h (Function f ∷ fs)))
          (live_memory world (after_leaving a h h.saved (Function f ∷ fs) t))
      later d = same_later _ _ (same_left a h h.saved (Function f ∷ fs) t) d

      go : (call : NativeCall Neutral) → call_under_way fs ≡ call → (s : Spot)
          → InterruptedBelow world.notes states (live_memory world (at_gate a h (Function f ∷ fs))) a.made (depth fs) f call s h.saved h.c
          → SpotHolds world states (record (after_leaving a h h.saved (Function f ∷ fs) t) { spot = s }) s
      go NoCall is (spot.Place p) w =
          subst (λ c. TopHolds world states (record (after_leaving a h h.saved (Function f ∷ fs) t) { spot = spot.Place p }) c p
          (Function f ∷ fs)) (sym is) (record {
            state = w.state;
            here = w.here;
            fits = w.fits (live_memory world (after_leaving a h h.saved (Function f ∷ fs) t)) (later (depth fs));
          })
      go k is s w = absurd w

  -- the step at the gate
  pub gate_step : (a : Config) (h : HostFrame) (fs : List Frame) → Holds world states (at_gate a h fs)
      → HostGoesOn world states (at_gate a h fs)
  unfolding neutral.host_view neutral.performed host_plan
  gate_step a h fs x =
      let w = x.well refl in
      let r = result_is (at_gate a h fs) h x.sound.frames.0 w.top.1 in
      host_goes_on world states (at_gate a h fs) (return_view h.notified (is_empty (hosts fs)) h.func r.0)
      (ap (option_map (return_view h.notified (is_empty (hosts fs)) h.func)) r.1) (by_mark h.notified refl r.0)
    where
      go : (t : Bool) → is_empty (hosts fs) ≡ t → h.notified ≡ false → (v : Value) → Holds world states
          (neutral.performed world (at_gate a h fs) (host_plan world (at_gate a h fs).script (return_view false t h.func v)))
      go true e n v = record {
        served = x.served;
        thunks = x.thunks;
        sound = let s = left_sound a h (given_back a h) fs a.trace x.sound in
            record { cells = s.cells; frames = s.frames; few = s.few };
        well = λ on. absurd (cc);
        raised = tt;
      }
      go false e n v = record {
        served = x.served;
        thunks = x.thunks;
        sound = let s = left_sound a h (given_back a h) fs (a.trace ++ event.Returned h.func v ∷ []) x.sound in
            record { cells = s.cells; frames = s.frames; few = s.few };
        well = λ on.
            let w = (x.well refl).waiting in
            let g = left_well a h fs (a.trace ++ event.Returned h.func v ∷ []) e n w.0 w.1 in
            record { top = g.top; waiting = g.waiting };
        raised = tt;
      }

      by_mark : (n : Bool) → h.notified ≡ n → (v : Value) → Holds world states (neutral.performed world (at_gate a h fs)
          (host_plan world (at_gate a h fs).script (return_view n (is_empty (hosts fs)) h.func v)))
      by_mark true n v = record {
        served = x.served;
        thunks = x.thunks;
        sound = let s = left_sound a h h.saved fs (a.trace ++ event.Resumed h.func v ∷ []) x.sound in
            record { cells = s.cells; frames = s.frames; few = s.few };
        well = λ on.
            let w = (x.well refl).waiting in
            let g = resumed_well a h fs (a.trace ++ event.Resumed h.func v ∷ []) n w.0 w.1 in
            record { top = g.top; waiting = g.waiting };
        raised = tt;
      }
      by_mark false n v = go (is_empty (hosts fs)) refl n v
