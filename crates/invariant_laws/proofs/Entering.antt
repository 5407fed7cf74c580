-- The host enters a function: the configuration inside it is sound with the state at its start.
use Rattle.invariant_laws.proofs.Common.{AllZip, list_all, option_map_or, ◌≡◌, ◌⊎◌, ℕ, zero, suc, ◌%◌, ◌<◌, ◌≤◌, ◌^◌, Bool, true, false}
use Rattle.invariant_laws.proofs.Common.{not, if◌then◌else◌, nat_eq, List, [], ◌∷◌, take, length, Option, Some, None, refl, sym, ap, ◌∙◌}
use Rattle.invariant_laws.proofs.Common.{subst, arith, inl, inr, ⊎_elim, slice_get, and_parts, eqb-true, false≢true, none-some, same_Some}
use Rattle.invariant_laws.proofs.Common.{IsNotes, Each, type_of, FnNote, Notes, Param, State, Ty, Value, TypedObject, Registers, StackItem}
use Rattle.invariant_laws.proofs.Common.{FunctionFrame, HostFrame, Function, Host, Config, depth, hosts, locals_at, Fits, FitsPlain}
use Rattle.invariant_laws.proofs.Common.{FitsState, Memory, memory_of, within_some, function_params, may_enter, frame_limit, NoCall, fits}
use Rattle.invariant_laws.proofs.Common.{fits_each, Neutral, World, value_as, written_fits, live_memory, ParamFits, IsEntered, FramesKeep}
use Rattle.invariant_laws.proofs.Common.{SoundBelow, States, BelowHost, Chain, RaisesOnlyDivideError, RunsAt, Holds, StatesFitBelow}
use Rattle.std.specs.List.{zip}
use Rattle.std.proofs.{Math.Nat.zero-div, Common.subst₂}
use Rattle.note_types.specs.{Notes.entry_state, Passing.IsHandedIn, Passing.IsPassed, FieldSets.HasField}
use Rattle.neutral_machine.specs.NeutralHost.{entered, param_slots}
use Rattle.host_model.specs.Placements.{place_of}
use Rattle.invariant_laws.specs.{Sound.ParamKind, Sound.ThunksFor, Hosted.EntersAs, Hosted.as_entry, Hosted.as_point, Hosted.HasStarts}
use Rattle.invariant_laws.proofs.Same.{SameMemory, same_later, live_same, frames_later, cells_same}
use Rattle.invariant_laws.proofs.{Chains.chain_later, Chains.below_later, Leaving.can_be_entered}
use Rattle.neutral_machine.proofs.Frames.{no_locals}
use Rattle.note_types.specs.declared.ending.Ending.TheVariants as ending
use Rattle.note_types.specs.declared.types.Ty.TheVariants as ty

-- ---- parameters

-- a written value that the firmware hands in
handed_fits : (notes : Notes) (m : Memory) (d : ℕ) (saved : Registers) (t : Ty) (v : Neutral) → IsHandedIn t → IsPassed t
    → FitsPlain notes m.objects t v → Fits notes m d saved t v
handed_fits notes m d saved ty.Any v h p x = tt
handed_fits notes m d saved (ty.Int lo hi div) v h p x = x
handed_fits notes m d saved (ty.Ptr s k n c may) v h p x = x
handed_fits notes m d saved ty.Handle v h p x = x
handed_fits notes m d saved (ty.Status g) v h p x = ⊎_elim (λ e. inl e)
    (λ s. inr (s, λ f has. absurd (no_field f (subst (λ z. HasField z f) p has)))) x
  where
    no_field : (f : ℕ) → HasField 0 f → ⊥
    no_field f h = let z = ap (λ x. x % 2) (zero-div (2 ^ f)) in absurd (omega (arith, h, z))
handed_fits notes m d saved t v h p x = absurd h

-- values that are written for parameters
pub record ValuesFit (made : List TypedObject) (ps : List Param) (vs : List Value) : Type 0 where
  pub long : length ps ≡ length vs
  pub each : (k : ℕ) (p : Param) (v : Value) → slice_get ps k ≡ Some p → slice_get vs k ≡ Some v → fits made p.ty v ≡ true

pub values_fit : (made : List TypedObject) (ps : List Param) (vs : List Value) → fits_each made ps vs ≡ true → ValuesFit made ps vs
unfolding fits_each
values_fit made ps vs e =
    let a = and_parts (nat_eq (length ps) (length vs)) _ e in
    record { long = eqb-true (length ps) (length vs) a.0; each = go ps vs a.1 }
  where
    go : (ps : List Param) (vs : List Value) → list_all (λ (p : Param × Value). fits made p.0.ty p.1) (zip ps vs) ≡ true
        → (k : ℕ) (p : Param) (v : Value) → slice_get ps k ≡ Some p → slice_get vs k ≡ Some v → fits made p.ty v ≡ true
    go [] vs e k p v g h = absurd (none-some p g)
    go (q ∷ ps) [] e k p v g h = absurd (none-some v h)
    go (q ∷ ps) (u ∷ vs) e zero p v g h = let a = and_parts (fits made q.ty u) _ e in
        subst₂ (λ (x : Param) y. fits made x.ty y ≡ true) (same_Some q p g) (same_Some u v h) a.0
    go (q ∷ ps) (u ∷ vs) e (suc k) p v g h = let a = and_parts (fits made q.ty u) _ e in go ps vs a.1 k p v g h

-- the slots of parameters have their kinds
slots_kinds : (notes : Notes) (made : List TypedObject) (ps : List Param) (vs : List Value) → length ps ≡ length vs
    → AllZip ParamKind (param_slots notes made ps vs) ps
unfolding param_slots
slots_kinds notes made [] [] e = tt
slots_kinds notes made [] (v ∷ vs) e = absurd (omega (arith, e))
slots_kinds notes made (p ∷ ps) [] e = absurd (omega (arith, e))
slots_kinds notes made (p ∷ ps) (v ∷ vs) e = (refl, slots_kinds notes made ps vs (omega (arith, e)))

-- and fit them
slots_fit : (notes : Notes) (m : Memory) (d : ℕ) (f : FunctionFrame) (ps : List Param) (vs : List Value)
    → Each (λ (p : Param). IsHandedIn p.ty × IsPassed p.ty) ps
    → ValuesFit m.objects ps vs → AllZip (ParamFits notes m d f) (take (length ps) (param_slots notes m.objects ps vs)) ps
unfolding param_slots
slots_fit notes m d f [] vs h x = tt
slots_fit notes m d f (p ∷ ps) [] h x = absurd (let e = x.long in omega (arith, e))
slots_fit notes m d f (p ∷ ps) (v ∷ vs) h x =
    let a = h 0 p refl in (
      (
        refl,
        handed_fits notes m d f.saved p.ty (value_as notes m.objects p.ty v) a.0 a.1
            (written_fits notes m.objects p.ty v (x.each 0 p v refl refl)),
      ),
      slots_fit notes m d f ps vs (λ k q e. h (suc k) q e) (record {
        long = let e = x.long in
            omega (arith, e);
        each = λ k q u g e. x.each (suc k) q u g e;
      }),
    )

-- ---- functions that the firmware enters later

-- a function that isn't the entry function may be entered with these values
pub record MayBeEntered (notes : Notes) (made : List TypedObject) (func : ℕ) (vs : List Value) : Type 0 where
  pub note : FnNote
  pub there : slice_get notes.function func ≡ Some note
  pub may : IsEntered notes func
  pub other : nat_eq func notes.entry ≡ false
  pub values : ValuesFit made note.params vs

pub may_be_entered : (notes : Notes) (made : List TypedObject) (func : ℕ) (vs : List Value) → func < length notes.function
    → may_enter notes func ≡ true → fits_each made (function_params notes func) vs ≡ true → MayBeEntered notes made func vs
may_be_entered notes made func vs l enter fit =
    let note = within_some notes.function func l in
    let test = and_parts (not (nat_eq func notes.entry)) _ enter in
    let marked : note.0.enter ≡ true = sym (ap (λ (o : Option FnNote). option_map_or (λ (g : FnNote). g.enter) o false) note.1) ∙ test.1 in
    record {
      note = note.0;
      there = note.1;
      may = inr (note.0, note.1, marked);
      other = not_true (nat_eq func notes.entry) test.0;
      values = values_fit made note.0.params vs
          (sym (ap (λ (o : Option FnNote). fits_each made (option_map_or (λ (g : FnNote). g.params) o []) vs) note.1) ∙ fit);
    }
  where
    not_true : (e : Bool) → not e ≡ true → e ≡ false
    not_true true h = absurd (false≢true h)
    not_true false h = refl

-- ---- the state at a function's start

-- a frame that was just made fits the entry state
pub entry_fits : (notes : Notes) (m : Memory) (d : ℕ) (func ret : ℕ) (regs : Registers) (c : Bool) (made : ℕ)
    → made ≡ (if nat_eq func notes.entry then 0 else length notes.thunk)
    → FitsState notes m d (record { func = func; ret = ret; saved = regs; items = [] }) (entry_state notes func) regs c made
entry_fits notes m d func ret regs c made e = record {
  registers = by_register;
  items = tt;
  written = λ f h. absurd (no_field f h);
  made_are = e;
  fact = λ x h. absurd (none-some x h);
}
  where
    no_field : (f : ℕ) → HasField 0 f → ⊥
    no_field f h = let z = ap (λ x. x % 2) (zero-div (2 ^ f)) in absurd (omega (arith, h, z))

    by_register : (r : ℕ) → 0 < r → r < 8 → Fits notes m d regs (type_of (entry_state notes func) r) (regs r)
    by_register zero l h = absurd (omega arith)
    by_register (suc zero) l h = refl
    by_register (suc (suc zero)) l h = refl
    by_register (suc (suc (suc zero))) l h = refl
    by_register (suc (suc (suc (suc (suc (suc (suc (suc r)))))))) l h = absurd (omega arith)
    by_register n l h = tt

-- ---- entering

-- What holds of a configuration in which the host enters a function, as a notification or not: its cells fit, its frames keep and
-- wait, the values fit the parameters, and as many thunks are made as the function's entry state says.
pub record CanEnter (world : World) (states : States) (mark : Bool) (y : Config) (func : ℕ) (vs : List Value) : Type 0 where
  pub served : y.script.thunks ≡ y.made
  pub thunks : y.made ≤ length world.notes.thunk
  pub sound : SoundBelow world y
  pub few : length (hosts y.frames) < frame_limit
  pub waiting : Chain world states (live_memory world y) y.made y.frames
  pub running : y.ending ≡ ending.Running
  pub note : FnNote
  pub there : slice_get world.notes.function func ≡ Some note
  pub may : IsEntered world.notes func
  pub made : y.made ≡ (if nat_eq func world.notes.entry then 0 else length world.notes.thunk)
  pub values : ValuesFit (memory_of world y).objects note.params vs
  -- what is below waits, with the configuration's registers, C and spot in the host frame upon it
  pub below : (h : HostFrame) → h.notified ≡ mark → h.saved ≡ y.registers → h.c ≡ y.c → h.spot ≡ y.spot
      → BelowHost world states (live_memory world y) y.made h y.frames

module _ (world : World) (states : States) (notes : IsNotes world.notes) (starts : HasStarts world states)
    (fits_below : StatesFitBelow) (mark : Bool) where
  params_passed : (func : ℕ) (note : FnNote) → slice_get world.notes.function func ≡ Some note → IsEntered world.notes func
      → Each (λ (p : Param). IsHandedIn p.ty × IsPassed p.ty) note.params
  params_passed func note there may k p e = (
    (can_be_entered world.notes func note notes there may).takes k p e,
    ((notes.functions func note there).params k p e).passed,
  )

  -- the frames inside
  abbrev inner : Config → ℕ → FunctionFrame
  inner y func = record { func = func; ret = 0; saved = y.registers; items = [] }

  abbrev outer : Config → ℕ → List StackItem → HostFrame
  outer y func slots = record { func = func; notified = mark; saved = y.registers; c = y.c; spot = y.spot; params = slots; call = NoCall }

  entered_same : (y : Config) (func : ℕ) (slots : List StackItem)
      → SameMemory (live_memory world y) (live_memory world (entered mark world y func slots))
  entered_same y func slots = live_same world.notes (memory_of world y) (memory_of world (entered mark world y func slots))
      (record { objects = refl; locals = λ e. go e; cells = λ p. refl })
    where
      go : (e : ℕ) → locals_at (Function (inner y func) ∷ Host (outer y func slots) ∷ y.frames) e ≡ locals_at y.frames e
      go e = by (nat_eq e (depth y.frames)) refl
        where
          by : (t : Bool) → nat_eq e (depth y.frames) ≡ t → (if t then None else locals_at y.frames e) ≡ locals_at y.frames e
          by true t = sym (no_locals y.frames e (let q = eqb-true e (depth y.frames) t in omega (arith, q)))
          by false t = refl

  thunks_for : (func made : ℕ) → made ≡ (if nat_eq func world.notes.entry then 0 else length world.notes.thunk)
      → ThunksFor world.notes made func
  thunks_for func made e = go (nat_eq func world.notes.entry) refl e
    where
      go : (t : Bool) → nat_eq func world.notes.entry ≡ t → made ≡ (if t then 0 else length world.notes.thunk) → (func ≡ world.notes.entry)
          ⊎ (made ≡ length world.notes.thunk)
      go true t e = inl (eqb-true func world.notes.entry t)
      go false t e = inr e

  abbrev slots_of : Config → FnNote → List Value → List StackItem
  slots_of y note vs = param_slots world.notes (memory_of world y).objects note.params vs

  entered_frames : (y : Config) (func : ℕ) (vs : List Value) → (x : CanEnter world states mark y func vs)
      → FramesKeep world (live_memory world (entered mark world y func (slots_of y x.note vs))) y.made
      (Function (inner y func) ∷ Host (outer y func (slots_of y x.note vs)) ∷ y.frames)
  entered_frames y func vs x = (
    (
      x.note,
      record {
        there = x.there;
        within = record { at4 = omega arith; at8 = omega arith };
        slots = tt;
        thunks = thunks_for func y.made x.made;
      },
      (
        refl,
        slots_fit world.notes (live_memory world (entered mark world y func (slots_of y x.note vs))) (depth y.frames)
            (inner y func) x.note.params vs (params_passed func x.note x.there x.may) x.values,
      ),
    ),
    (
      record {
        entered = x.may;
        note = x.note;
        there = x.there;
        kinds = slots_kinds world.notes (memory_of world y).objects x.note.params vs x.values.long;
      },
      frames_later world (live_memory world y) (live_memory world (entered mark world y func (slots_of y x.note vs))) y.made y.frames
          (same_later _ _ (entered_same y func (slots_of y x.note vs))) x.sound.frames,
    ),
  )

  entered_top : (y : Config) (func : ℕ) (vs : List Value) → (x : CanEnter world states mark y func vs)
      → RunsAt world states (entered mark world y func (slots_of y x.note vs)) (place_of world.notes func) (inner y func)
      (Host (outer y func (slots_of y x.note vs)) ∷ y.frames)
  entered_top y func vs x =
      let s = starts.starts func x.note x.there in
      let at : x.note.place ≡ place_of world.notes func = sym (ap
      (λ (o : Option FnNote). option_map_or (λ (g : FnNote). g.place) o 0) x.there) in
      record {
        state = s.0;
        here = subst (λ p. states func p s.0) at s.1;
        fits = by s.0 s.2;
      }
    where
      entry : FitsState world.notes (live_memory world (entered mark world y func (slots_of y x.note vs))) (depth y.frames) (inner y func)
          (entry_state world.notes func) y.registers false y.made
      entry = entry_fits world.notes (live_memory world (entered mark world y func (slots_of y x.note vs)))
          (depth y.frames) func 0 y.registers false y.made x.made

      by : (s : State) → EntersAs (entry_state world.notes func) s
          → FitsState world.notes (live_memory world (entered mark world y func (slots_of y x.note vs))) (depth y.frames)
          (inner y func) s y.registers false y.made
      by s (as_entry e) = subst (λ t. FitsState world.notes (live_memory world (entered mark world y func (slots_of y x.note vs)))
          (depth y.frames) (inner y func) t y.registers false y.made) (sym e) entry
      by s (as_point l) = fits_below world.notes (live_memory world (entered mark world y func (slots_of y x.note vs))) (depth y.frames)
          (inner y func) (entry_state world.notes func) s y.registers false y.made l entry

  pub entered_holds : (y : Config) (func : ℕ) (vs : List Value) → (x : CanEnter world states mark y func vs)
      → Holds world states (entered mark world y func (param_slots world.notes (memory_of world y).objects x.note.params vs))
  entered_holds y func vs x =
      let same = entered_same y func (slots_of y x.note vs) in
      record {
        served = x.served;
        thunks = x.thunks;
        sound = record {
          cells = cells_same world.notes (live_memory world y)
              (live_memory world (entered mark world y func (slots_of y x.note vs))) same x.sound.cells;
          frames = entered_frames y func vs x;
          few = let z = x.few in omega (arith, z);
        };
        well = λ on. record {
          top = entered_top y func vs x;
          waiting = (
            tt,
            (
              below_later world states (live_memory world y) (live_memory world (entered mark world y func (slots_of y x.note vs))) y.made
                  (Host (outer y func (slots_of y x.note vs))) y.frames (λ d l. same_later _ _ same d)
                  (x.below (outer y func (slots_of y x.note vs)) refl refl refl refl),
              chain_later world states (live_memory world y) (live_memory world
                  (entered mark world y func (slots_of y x.note vs))) y.made y.frames (λ d l. same_later _ _ same d) x.waiting,
            ),
          );
        };
        raised = subst RaisesOnlyDivideError (sym x.running) tt;
      }
