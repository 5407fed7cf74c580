-- What holds of a side goes on to hold over the steps that a pair alone has: a bound call is told, and gets its reply; B is entered
-- from its rest, and left to rest.
use Rattle.pair_laws.proofs.Common.{◌≡◌, ℕ, suc, ◌≤◌, true, false, if◌then◌else◌, nat_eq, List, [], ◌∷◌, length, Option, Some, refl, sym}
use Rattle.pair_laws.proofs.Common.{ap, ◌∙◌, subst, arith, inr, slice_get, IfSome, IsResultNote, Event, FnNote, WantParam, Ty, Value}
use Rattle.pair_laws.proofs.Common.{FunctionFrame, Frame, Function, Config, depth, call_under_way, with_call, Memory, NativeCall, NoCall}
use Rattle.pair_laws.proofs.Common.{Asked, fits_result, Neutral, World, result_value, GivenByNative, TopHolds, Holds, live_memory}
use Rattle.pair_laws.proofs.Common.{SoundBelow, States, RunWorld, at_place, ValuesFit, neutral_bound_reply}
use Rattle.neutral_machine.specs.{Config.with_value, Config.locals_at, FitsState.FitsState, Memory.memory_of}
use Rattle.invariant_laws.specs.{Asked.ArgumentsFit, Asked.OutsWritten, Holds.RunsAt, Later.Later}
use Rattle.invariant_laws.proofs.Marks.{depth_call, locals_call, hosts_call, call_is, frames_call, chain_call}
use Rattle.invariant_laws.proofs.{Same.SameMemory, Same.same_later, Same.live_same, Same.frames_later, Same.cells_same, Chains.chain_later}
use Rattle.invariant_laws.proofs.{Calling.asks, Entering.CanEnter, Leaving.seven_other, Replying.result_given}
use Rattle.note_types.specs.declared.ending.Ending.TheVariants as ending
use Rattle.note_types.specs.declared.notes.Want.TheVariants as want
use Rattle.neutral_machine.specs.NeutralHost as neutral

-- ---- rest

-- B rests: its own run is over, no frame is there, and what it keeps is sound.
pub record Rests (world : World) (b : Config) : Type 0 where
  pub frames : b.frames ≡ []
  pub running : b.ending ≡ ending.Running
  pub served : b.script.thunks ≡ b.made
  pub thunks : b.made ≤ length world.notes.thunk
  pub sound : SoundBelow world b

-- ---- arguments that lend no cell

-- no parameter lends a cell to be written
abbrev pub LendsNone : List WantParam → Type 0
LendsNone ps = (k : ℕ) (p : WantParam) → slice_get ps k ≡ Some p → (c : _) → p.want ≡ want.Out c → ⊥

outs_none : (V : Memory) (notes : _) (m : Memory) (d : ℕ) (ps : List WantParam) (vs : List Neutral) → LendsNone ps
    → ArgumentsFit notes m d ps vs → OutsWritten V ps vs
outs_none V notes m d [] [] n x = tt
outs_none V notes m d [] (v ∷ vs) n x = absurd x
outs_none V notes m d (p ∷ ps) [] n x = absurd x
outs_none V notes m d (p ∷ ps) (v ∷ vs) n x = ((λ c e. absurd (n 0 p refl c e)), outs_none V notes m d ps vs (λ k q. n (suc k) q) x.1)

module _ (world : World) (states : States) (ok : RunWorld world states) where
  -- ---- 3. a bound call is told

  pub told_holds : (a : Config) (p q : ℕ) (v : Neutral) (f : FunctionFrame) (fs : List Frame) (t : List Event)
      → call_under_way fs ≡ Asked q v → Holds world states (at_place a p f fs) → asks world states ok a p q v f fs
      → Holds world states (record (at_place a p f fs) { trace = t })
  told_holds a p q v f fs t under x w = record {
    served = x.served;
    thunks = x.thunks;
    sound = record { cells = x.sound.cells; frames = x.sound.frames; few = x.sound.few };
    well = λ on. record {
      top = subst (λ (c : NativeCall Neutral). TopHolds world states (record (at_place a p f fs) { trace = t }) c p (Function f ∷ fs))
          (sym under) w;
      waiting = (x.well refl).waiting;
    };
    raised = tt;
  }

  -- ---- 6. the reply

  abbrev pub replied : Config → ℕ → FunctionFrame → List Frame → Option Ty → Value → Config
  replied a p f fs kind v = neutral_bound_reply world (at_place a p f fs) kind v

  pub bound_reply_holds : (a : Config) (p q : ℕ) (t : Neutral) (f : FunctionFrame) (fs : List Frame) (v : Value)
      → call_under_way fs ≡ Asked q t → Holds world states (at_place a p f fs) → (w : asks world states ok a p q t f fs)
      → LendsNone w.signature.params → GivenByNative world.notes w.signature w.args
      (live_memory world (replied a p f fs w.signature.result v))
      (result_value world.notes (neutral.objects_at world a) w.signature.result v)
      → Holds world states (replied a p f fs w.signature.result v)
  unfolding neutral_bound_reply
  bound_reply_holds a p q t f fs v under x w none given = record {
    served = x.served;
    thunks = x.thunks;
    sound = record {
      cells = cells_same world.notes (live_memory world (at_place a p f fs)) V same x.sound.cells;
      frames = frames_call world V a.made NoCall (Function f ∷ fs)
          (frames_later world (live_memory world (at_place a p f fs)) V a.made (Function f ∷ fs) later x.sound.frames);
      few = let y = x.sound.few in let h = hosts_call NoCall (Function f ∷ fs) in omega (arith, y, h);
    };
    well = λ on. record {
      top = subst (λ (c : NativeCall Neutral). TopHolds world states b c p (Function f ∷ with_call NoCall fs))
          (sym (call_is NoCall (Asked q t) fs under (λ e. absurd (cc)))) runs;
      waiting = chain_call world states V a.made NoCall (Function f ∷ fs)
          (chain_later world states (live_memory world (at_place a p f fs)) V a.made (Function f ∷ fs) (λ d l. later d)
          (x.well refl).waiting);
    };
    raised = tt;
  }
    where
      b : Config
      b = record (at_place a p f fs) {
        registers = with_value a.registers 7
            (result_value world.notes (neutral.objects_at world a) w.signature.result v);
        frames = with_call NoCall (Function f ∷ fs);
      }

      V : Memory
      V = live_memory world b

      same : SameMemory (live_memory world (at_place a p f fs)) V
      same = live_same world.notes (memory_of world (at_place a p f fs)) (memory_of world b)
          (record { objects = refl; locals = λ e. locals_call NoCall (Function f ∷ fs) e; cells = λ c. refl })

      later : (d : ℕ) → Later d (live_memory world (at_place a p f fs)) V
      later d = same_later _ _ same d

      runs : RunsAt world states b p f (with_call NoCall fs)
      runs = record {
        state = w.waits.state;
        here = w.waits.here;
        fits = subst (λ d. FitsState world.notes V d f w.waits.state b.registers a.c a.made) (sym (depth_call NoCall fs))
            (w.waits.will.fits V b.registers a.c (later (depth fs)) (seven_other world states ok.notes a.registers _) given);
      }

  -- what the reply gives is what the call waits for, where the value fits the result and no cell is lent
  pub reply_given : (a : Config) (p q : ℕ) (t : Neutral) (f : FunctionFrame) (fs : List Frame) (v : Value)
      → (w : asks world states ok a p q t f fs) → LendsNone w.signature.params
      → (V : Memory) → V.objects ≡ neutral.objects_at world a → (u : Value)
      → fits_result (neutral.objects_at world a) w.signature.result u ≡ true
      → GivenByNative world.notes w.signature w.args V (result_value world.notes (neutral.objects_at world a) w.signature.result u)
  reply_given a p q t f fs v w none V same u fit =
      result_given world.notes (neutral.objects_at world a) w.signature.result u V w.signature.params w.args same
      (λ k e. (of_some k e (ok.notes.signatures w.number w.signature w.there).result).given) fit
      (λ e. outs_none V world.notes (live_memory world (at_place a p f fs)) (depth fs) w.signature.params w.args none w.args_fit)
    where
      of_some : (u : Ty) → w.signature.result ≡ Some u → IfSome w.signature.result (IsResultNote world.notes) → IsResultNote world.notes u
      of_some u e h = subst (λ o. IfSome o (IsResultNote world.notes)) e h

  -- ---- 4. the entering

  -- B can be entered from its rest, where all thunks are made and the values fit
  unfoldable pub rest_enters : (b : Config) (f : ℕ) (note : FnNote) (vs : List Value) (t : List Event) → Rests world b
      → b.made ≡ length world.notes.thunk → nat_eq f world.notes.entry ≡ false
      → slice_get world.notes.function f ≡ Some note → note.enter ≡ true → ValuesFit (neutral.objects_at world b) note.params vs
      → CanEnter world states false (record b { frames = []; trace = t; ending = ending.Running }) f vs
  rest_enters b f note vs t r made other there enter values = record {
    served = r.served;
    thunks = r.thunks;
    sound = resting;
    few = omega arith;
    waiting = tt;
    running = refl;
    note = note;
    there = there;
    may = inr (note, there, enter);
    made = made ∙ sym (ap (λ e. if e then 0 else length world.notes.thunk) other);
    values = values;
    below = λ h mark s c e. mark;
  }
    where
      same : SameMemory (live_memory world b) (live_memory world (record b { frames = []; trace = t; ending = ending.Running }))
      same = live_same world.notes (memory_of world b) (memory_of world (record b { frames = []; trace = t; ending = ending.Running }))
          (record { objects = refl; locals = λ e. ap (λ fs. locals_at fs e) (sym r.frames); cells = λ p. refl })

      resting : SoundBelow world (record b { frames = []; trace = t; ending = ending.Running })
      resting = record { cells = cells_same world.notes (live_memory world b) _ same r.sound.cells; frames = tt; few = omega arith }
