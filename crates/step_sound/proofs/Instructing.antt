-- An instruction that its rule accepts: what holds of a configuration holds of the one after it.
use Rattle.step_sound.proofs.Common.{◌≡◌, ℕ, suc, ◌+◌, ◌<◌, ◌≤◌, Bool, true, false, if◌then◌else◌, nat_eq, ◌&&◌, List, [], ◌∷◌, map, length}
use Rattle.step_sound.proofs.Common.{Some, None, option_and_then, refl, sym, ap, ◌∙◌, subst, subst₂, arith, ⊎_elim, eq-eqb, true≢false}
use Rattle.step_sound.proofs.Common.{Insn, type_of, Notes, State, Successors, FunctionFrame, Frame, Function, Host, Config, call_under_way}
use Rattle.step_sound.proofs.Common.{with_call, Memory, memory_of, thunk_made, thunk_function, next_thunk, Outcome, Gives, Raises, Stuck}
use Rattle.step_sound.proofs.Common.{NativeCall, NoCall, Asked, one_thunk, Neutral, World, Site, NeutralEnd, Next, Native, MakeThunk}
use Rattle.step_sound.proofs.Common.{executed, Accepts, live_memory, EndsSound, FramesKeep, States, RunsAt, TopHolds, GateHolds, SpotHolds}
use Rattle.step_sound.proofs.Common.{Holds, StatesFitBelow, RunWorld}
use Rattle.std.specs.Option.{option_map}
use Rattle.note_types.specs.Below.{Below, below_any, below_equal, below_range, below_pointer, below_null}
use Rattle.note_types.specs.{Below.below_status, Below.below_grants, Notes.entry_state}
use Rattle.note_types.specs.declared.{exception.Exception.Exception, types.Ty.Ty}
use Rattle.neutral_machine.specs.{Config.Registers, Config.depth, Config.hosts, Config.locals_at, FitsState.FitsState, Rows.frame_without}
use Rattle.neutral_machine.specs.Rows.{call_without}
use Rattle.host_model.specs.{Placements.frame_limit, Progress.ScriptPlace}
use Rattle.invariant_laws.specs.{Asked.GivenByCall, Later.Later, Later.IsFresh, Later.WillFit, Sound.SoundBelow, Sound.TopFits}
use Rattle.invariant_laws.specs.{Waiting.Waits, Waiting.AsksWell, Waiting.BelowFunction, Waiting.Chain, Endings.RaisesOnlyDivideError}
use Rattle.invariant_laws.specs.{Holds.GoesOnWell, Hosted.EntersAs, Hosted.as_entry, Hosted.as_point}
use Rattle.typing_laws.specs.OneRule.{GoesOn, Enters, Returns, GoesBack, Asks, Makes}
use Rattle.neutral_machine.proofs.Keeping.{moves_between}
use Rattle.invariant_laws.proofs.Chains.{arguments_later, below_later, chain_later, below_without, chain_without, without, call_map}
use Rattle.invariant_laws.proofs.After.{FramesAfter, stays, drops, enters, leaves, Left}
use Rattle.invariant_laws.proofs.{After.instruction_leaves, Later.live_later, Later.will_later, Chains.chain_all, Marks.depth_call}
use Rattle.invariant_laws.proofs.{Marks.locals_call, Marks.hosts_call, Marks.frames_call, Marks.chain_call, Same.SameMemory}
use Rattle.invariant_laws.proofs.Same.{same_later, live_same, frames_later, cells_same}
use Rattle.step_sound.specs.PlaceStates.{Reached, LeadsTo}
use Rattle.ebc_insn.specs.declared.Insn.TheVariants as insns
use Rattle.note_types.specs.declared.ending.Ending.TheVariants as ending
use Rattle.note_types.specs.declared.exception.Exception.TheVariants as raises
use Rattle.note_types.specs.declared.spot.Spot.TheVariants as spot
use Rattle.note_types.specs.declared.types.Ty.TheVariants as ty

-- ---- what a state is below

-- each thunk cell is one of a function that the firmware may enter
abbrev pub ThunksEnter : Notes → Type 0
ThunksEnter notes = (i : ℕ) → i < length notes.thunk → (g : ℕ) × (thunk_function notes i ≡ Some g)

-- what is below a saved value is one
below_saved : (a : Ty) (i : ℕ) → Below a (ty.Saved i) → a ≡ ty.Saved i
below_saved a i (below_any e) = absurd (cc)
below_saved a i (below_equal e) = e
below_saved (ty.Int lo hi div) i (below_range r) = absurd r
below_saved _ i (below_range r) = absurd r
below_saved (ty.Ptr s k n c may) i (below_pointer r) = absurd r
below_saved _ i (below_pointer r) = absurd r
below_saved (ty.Int lo hi div) i (below_null r) = absurd r.2
below_saved _ i (below_null r) = absurd r
below_saved (ty.Int lo hi div) i (below_status r) = absurd r
below_saved _ i (below_status r) = absurd r
below_saved (ty.Status g) i (below_grants r) = absurd r
below_saved (ty.SignedStatus g) i (below_grants r) = absurd r
below_saved _ i (below_grants r) = absurd r

fresh_below : (s t : State) → EntersAs s t → IsFresh s → IsFresh t
fresh_below s t (as_entry e) f = subst IsFresh (sym e) f
fresh_below s t (as_point b) f = record {
  unsaved = λ r l h i e. f.unsaved r l h i (below_saved (type_of s r) i
      (subst (Below (type_of s r)) e (b.registers r (omega (arith, l)) h)));
  no_fact = b.fact;
}

-- ---- before an instruction

-- What holds of a configuration before an instruction of function f: no native call is under way.
pub record Before (world : World) (states : States) (c : Config) (f : FunctionFrame) (fs : List Frame) : Type 0 where
  pub frames : c.frames ≡ Function f ∷ fs
  pub under : call_under_way fs ≡ NoCall
  pub running : c.ending ≡ ending.Running
  pub served : c.script.thunks ≡ c.made
  pub thunks : c.made ≤ length world.notes.thunk
  pub sound : SoundBelow world c
  pub waiting : Chain world states (live_memory world c) c.made (Function f ∷ fs)

-- what holds after it
abbrev pub HoldsAfter : World → States → Config → ℕ → Outcome (NeutralEnd × Config) → Type 0
HoldsAfter world states c p Stuck = ⊥
HoldsAfter world states c p (Raises e) = Holds world states (record c { ending = ending.Raised e })
HoldsAfter world states c p (Gives (Next, b)) = Holds world states b
HoldsAfter world states c p (Gives (Native v, b)) = Holds world states (record b { frames = with_call (Asked p v) b.frames })
HoldsAfter world states c p (Gives (MakeThunk i, b)) = (i ≡ b.made) × (d : Config) × (thunk_made world b ≡ Some d) × Holds world states d

module _ (world : World) (states : States) (ok : RunWorld world states) (fits_below : StatesFitBelow)
    (thunks : ThunksEnter world.notes) where
  -- a frame that fits a state fits the one at the place
  reached_fits : (m : Memory) (d : ℕ) (f : FunctionFrame) (s t : State) (regs : Registers) (c : Bool) (made : ℕ) → EntersAs s t
      → FitsState world.notes m d f s regs c made → FitsState world.notes m d f t regs c made
  reached_fits m d f s t regs c made (as_entry e) x = subst (λ z. FitsState world.notes m d f z regs c made) (sym e) x
  reached_fits m d f s t regs c made (as_point b) x = fits_below world.notes m d f s t regs c made b x

  reached_will : (U : Memory) (made d : ℕ) (f : FunctionFrame) (s t : State) (kept : Registers) (Given : Memory → Neutral → Type 0)
      → EntersAs s t → WillFit world.notes U made d f s kept Given → WillFit world.notes U made d f t kept Given
  reached_will U made d f s t kept Given e x = record {
    fits = λ V regs c l p g. reached_fits V d f s t regs c made e
        (x.fits V regs c l p g);
  }

  -- a frame of the same function that goes back to the same place has the same below it
  below_same : (U : Memory) (made : ℕ) (f g : FunctionFrame) (fs : List Frame) → g.func ≡ f.func → g.ret ≡ f.ret → g.saved ≡ f.saved
      → BelowFunction world states U made f fs → BelowFunction world states U made g fs
  below_same U made f g [] a b s x = x
  below_same U made f g (Host h ∷ fs) a b s x = tt
  below_same U made f g (Function k ∷ fs) a b s x =
      subst (λ n. Waits world.notes states U made (depth fs) k g.ret g.saved (GivenByCall world.notes n)) (sym a)
      (subst (λ r. Waits world.notes states U made (depth fs) k g.ret r (GivenByCall world.notes f.func)) (sym s)
      (subst (λ p. Waits world.notes states U made (depth fs) k p f.saved (GivenByCall world.notes f.func)) (sym b) x))

  -- what runs at a place
  at_top : (b : Config) (g : FunctionFrame) (gs : List Frame) (p : ℕ) → b.frames ≡ Function g ∷ gs → call_under_way gs ≡ NoCall
      → b.spot ≡ spot.Place p → RunsAt world states b p g gs → Chain world states (live_memory world b) b.made (Function g ∷ gs)
      → GoesOnWell world states b
  at_top b g gs p fr under at runs chain = record {
    top = subst (SpotHolds world states b) (sym at)
        (subst (λ fs. TopHolds world states b (call_under_way fs) p fs) (sym fr)
        (subst (λ (c : NativeCall Neutral). TopHolds world states b c p (Function g ∷ gs)) (sym under) runs));
    waiting = subst (Chain world states (live_memory world b) b.made) (sym fr) chain;
  }

  module _ (c : Config) (f : FunctionFrame) (fs : List Frame) (before : Before world states c f fs) (here : Site) where
    -- the frames below wait after it too
    later_live : (may : Bool) (b : Config) → Left world may f fs c b → (d : ℕ) → d < depth fs
        → Later d (live_memory world c) (live_memory world b)
    later_live may b l d h = live_later world.notes d (memory_of world c) (memory_of world b) (l.later d h)

    below_after : (may : Bool) (b : Config) → Left world may f fs c b → BelowFunction world states (live_memory world b) b.made f fs
    below_after may b l = subst (λ n. BelowFunction world states (live_memory world b) n f fs) (sym l.made)
        (below_later world states (live_memory world c) (live_memory world b) c.made (Function f) fs (later_live may b l) before.waiting.0)

    chain_after : (may : Bool) (b : Config) → Left world may f fs c b → Chain world states (live_memory world b) b.made fs
    chain_after may b l = subst (λ n. Chain world states (live_memory world b) n fs) (sym l.made)
        (chain_later world states (live_memory world c) (live_memory world b) c.made fs (later_live may b l) before.waiting.1)

    served_after : (may : Bool) (b : Config) → Left world may f fs c b → b.script.thunks ≡ b.made
    served_after may b l = ap (λ (p : ScriptPlace). p.thunks) l.script ∙ before.served ∙ sym l.made

    thunks_after : (may : Bool) (b : Config) → Left world may f fs c b → b.made ≤ length world.notes.thunk
    thunks_after may b l = subst (λ n. n ≤ length world.notes.thunk) (sym l.made) before.thunks

    running_after : (may : Bool) (b : Config) → Left world may f fs c b → RaisesOnlyDivideError b.ending
    running_after may b l = subst RaisesOnlyDivideError (sym (l.ending ∙ before.running)) tt

    -- ---- an instruction that goes on in the function

    goes_on_holds : (x : Successors) (b : Config) → LeadsTo states f.func here.next x → Left world false f fs c b → GoesOn world here x b
        → Holds world states b
    goes_on_holds x b leads l g = record {
      served = served_after false b l;
      thunks = thunks_after false b l;
      sound = g.sound.below;
      well = λ on. well l.frames;
      raised = running_after false b l;
    }
      where
        reached : Reached states f.func g.place g.state
        reached = ⊎_elim (λ (e : (g.place ≡ here.next) × (x.fall ≡ Some g.state)). subst (λ p. Reached states f.func p g.state) (sym e.0)
            (leads.fall g.state e.1)) (λ e. leads.jump g.place g.state e) g.taken

        runs : (k : FunctionFrame) (gs : List Frame) → k.func ≡ f.func → b.frames ≡ Function k ∷ gs → RunsAt world states b g.place k gs
        runs k gs same fr =
            let top : TopFits world b (Function k ∷ gs) g.state = subst (λ z. TopFits world b z g.state) fr g.sound.top in
            record {
              state = reached.state;
              here = subst (λ n. states n g.place reached.state) (sym same) reached.here;
              fits = reached_fits (live_memory world b) (depth gs) k g.state reached.state b.registers b.c b.made reached.from top;
            }

        well : FramesAfter false f fs b.frames → GoesOnWell world states b
        well (stays k fu re sa fr) = at_top b k fs g.place fr before.under g.spot (runs k fs fu fr)
            (below_same (live_memory world b) b.made f k fs fu re sa (below_after false b l), chain_after false b l)
        well (drops k fu re sa fr) =
            let e = depth fs in
            at_top b k (map (frame_without e) fs) g.place fr (call_map e fs ∙ ap (call_without (depth fs)) before.under) g.spot
            (runs k (map (frame_without e) fs) fu fr) (
              below_same (live_memory world b) b.made (without e f) k (map (frame_without e) fs) fu re sa
                  (below_without world states (live_memory world b) b.made e (Function f) fs (omega arith) (below_after false b l)),
              chain_without world states (live_memory world b) b.made e fs (omega arith) (chain_after false b l),
            )
        well (enters m k fr) = absurd (true≢false (sym m))
        well (leaves m fr) = absurd (true≢false (sym m))

    -- ---- a call

    enters_holds : (x : Successors) (b : Config) → LeadsTo states f.func here.next x → Left world true f fs c b
        → Enters world here x c f fs b → Holds world states b
    enters_holds x b leads l g =
        let s = ok.starts.starts g.callee.func g.note g.there in
        let r = leads.fall g.state g.falls in
        let top : TopFits world b (Function g.callee ∷ Function f ∷ fs) (entry_state world.notes g.callee.func) =
        subst (λ z. TopFits world b z (entry_state world.notes g.callee.func)) g.frames g.sound.top in
        let waits : Waits world.notes states (live_memory world b) b.made (depth fs) f here.next c.registers
        (GivenByCall world.notes g.callee.func) = record {
          state = r.state;
          here = r.here;
          fresh = fresh_below g.state r.state r.from g.fresh;
          thunks = g.thunks;
          will = reached_will (live_memory world b) b.made (depth fs) f g.state r.state c.registers _ r.from g.waits;
        } in
        record {
          served = served_after true b l;
          thunks = thunks_after true b l;
          sound = g.sound.below;
          well = λ on. at_top b g.callee (Function f ∷ fs) g.note.place g.frames before.under g.spot
              (record {
                state = s.0;
                here = s.1;
                fits = reached_fits (live_memory world b) (suc (depth fs)) g.callee
                    (entry_state world.notes g.callee.func) s.0 b.registers b.c b.made s.2 top;
              }) (
                subst₂ (λ p k. Waits world.notes states (live_memory world b) b.made (depth fs) f p k
                    (GivenByCall world.notes g.callee.func)) (sym g.ret) (sym g.saved) waits,
                (below_after true b l, chain_after true b l),
              );
          raised = running_after true b l;
        }

    -- ---- a return

    returns_holds : (b : Config) → Left world true f fs c b → Returns world c f fs b → Holds world states b
    returns_holds b l g = record {
      served = served_after true b l;
      thunks = thunks_after true b l;
      sound = g.sound;
      well = λ on. well fs refl;
      raised = running_after true b l;
    }
      where
        well : (gs : List Frame) → fs ≡ gs → GoesOnWell world states b
        well [] e = absurd (subst (λ gs. GoesBack f gs b) e g.back)
        well (Function k ∷ gs) e =
            let waits : Waits world.notes states (live_memory world c) c.made (depth gs) k f.ret f.saved (GivenByCall world.notes f.func) =
            subst (BelowFunction world states (live_memory world c) c.made f) e before.waiting.0 in
            let at : b.spot ≡ spot.Place f.ret = subst (λ gs. GoesBack f gs b) e g.back in
            let later : Later (depth gs) (live_memory world c) (live_memory world b) =
            later_live true b l (depth gs) (subst (λ z. depth gs < depth z) (sym e) (omega arith)) in
            let fits = waits.will.fits (live_memory world b) b.registers b.c later g.kept g.given in
            at_top b k gs f.ret (g.frames ∙ e) (ap call_under_way (sym e) ∙ before.under) at
            (record {
              state = waits.state;
              here = waits.here;
              fits = subst (λ n. FitsState world.notes (live_memory world b) (depth gs) k waits.state b.registers b.c n) (sym l.made) fits;
            })
            (subst (Chain world states (live_memory world b) b.made) e (chain_after true b l))
        well (Host h ∷ gs) e =
            let at : b.spot ≡ spot.Gate = subst (λ gs. GoesBack f gs b) e g.back in
            let keeps : FramesKeep world (live_memory world c) c.made (Function f ∷ Host h ∷ gs) =
            subst (λ z. FramesKeep world (live_memory world c) c.made (Function f ∷ z)) e
            (subst (FramesKeep world (live_memory world c) c.made) before.frames before.sound.frames) in
            let func : f.func ≡ h.func = keeps.0.2.0 in
            record {
              top = subst (SpotHolds world states b) (sym at)
                  (subst (GateHolds world b) (sym (g.frames ∙ e)) (
                    ap call_under_way (sym e) ∙ before.under,
                    subst (λ n. GivenByCall world.notes n (live_memory world b) (b.registers 7)) func g.given,
                  ));
              waiting = subst (Chain world states (live_memory world b) b.made) (sym g.frames) (chain_after true b l);
            }

    -- ---- a native call

    -- there is a host frame below
    marked_is : (U : Memory) (made : ℕ) (m : NativeCall Neutral) (k : FunctionFrame) (gs : List Frame)
        → Chain world states U made (Function k ∷ gs) → call_under_way (with_call m (Function k ∷ gs)) ≡ m
    marked_is U made m k [] x = absurd x.0
    marked_is U made m k (Host h ∷ gs) x = refl
    marked_is U made m k (Function j ∷ gs) x = marked_is U made m j gs x.1

    asks_holds : (x : Successors) (b : Config) (v : Neutral) → LeadsTo states f.func here.next x → Left world false f fs c b
        → Asks world here x c f fs v b → Holds world states (record b { frames = with_call (Asked here.place v) b.frames })
    asks_holds x b v leads l g = subst (λ gs. Holds world states (record b { frames = with_call (Asked here.place v) gs }))
        (sym g.frames) marked
      where
        r : Reached states f.func here.next g.state
        r = leads.fall g.state g.falls

        d : Config
        d = record b { frames = Function f ∷ with_call (Asked here.place v) fs }

        same : SameMemory (live_memory world b) (live_memory world (record b { frames = Function f ∷ with_call (Asked here.place v) fs }))
        same = live_same world.notes (memory_of world b) (memory_of world
            (record b { frames = Function f ∷ with_call (Asked here.place v) fs }))
            (record {
              objects = refl;
              locals = λ e. locals_call (Asked here.place v) (Function f ∷ fs) e
                  ∙ ap (λ gs. locals_at gs e) (sym g.frames);
              cells = λ q. refl;
            })

        asks : AsksWell world states (live_memory world (record b { frames = Function f ∷ with_call (Asked here.place v) fs })) b.made
            (depth fs) f here.place here.next v b.registers
        asks = record {
          number = g.number;
          site = g.site;
          signature = g.signature;
          there = g.there;
          method = g.method;
          args = g.args;
          args_are = g.args_are;
          args_fit = arguments_later world.notes (depth fs) (live_memory world b) _ g.signature.params g.args
              (same_later _ _ same (depth fs)) g.args_fit;
          waits = record {
            state = r.state;
            here = r.here;
            fresh = fresh_below g.state r.state r.from g.fresh;
            thunks = g.thunks;
            will = will_later world.notes (live_memory world b) _ b.made (depth fs) f r.state b.registers _ (same_later _ _ same (depth fs))
                (reached_will (live_memory world b) b.made (depth fs) f g.state r.state b.registers _ r.from g.waits);
          };
        }

        marked : Holds world states (record b { frames = Function f ∷ with_call (Asked here.place v) fs })
        marked = let mark = Asked here.place v in
            let V = live_memory world (record b { frames = Function f ∷ with_call (Asked here.place v) fs }) in
            let hosts_same = hosts_call mark (Function f ∷ fs) in
            let frames = subst (FramesKeep world (live_memory world b) b.made) g.frames g.sound.frames in
            let few = subst (λ gs. length (hosts gs) ≤ frame_limit) g.frames g.sound.few in
            let chain : Chain world states (live_memory world b) b.made (Function f ∷ fs) =
            (below_after false b l, chain_after false b l) in
            record {
              served = served_after false b l;
              thunks = thunks_after false b l;
              sound = record {
                cells = cells_same world.notes (live_memory world b) V same g.sound.cells;
                frames = frames_call world V b.made mark (Function f ∷ fs)
                    (frames_later world (live_memory world b) V b.made (Function f ∷ fs) (same_later _ _ same) frames);
                few = omega (arith, few, hosts_same);
              };
              well = λ on. record {
                top = subst (SpotHolds world states (record b { frames = Function f ∷ with_call (Asked here.place v) fs })) (sym g.spot)
                    (subst (λ (m : NativeCall Neutral). TopHolds world states
                    (record b { frames = Function f ∷ with_call (Asked here.place v) fs }) m here.next
                    (Function f ∷ with_call (Asked here.place v) fs)) (sym (marked_is (live_memory world b) b.made mark f fs chain))
                    (subst (λ n. AsksWell world states V b.made n f here.place here.next v b.registers) (sym (depth_call mark fs)) asks));
                waiting = chain_call world states V b.made mark (Function f ∷ fs)
                    (chain_later world states (live_memory world b) V b.made (Function f ∷ fs) (λ k h. same_later _ _ same k) chain);
              };
              raised = running_after false b l;
            }

    -- ---- a thunk

    makes_holds : (x : Successors) (b : Config) (i : ℕ) → LeadsTo states f.func here.next x → Left world false f fs c b
        → Makes world here x c f fs i b → (i ≡ b.made) × (d : Config) × (thunk_made world b ≡ Some d) × Holds world states d
    unfolding thunk_made
    makes_holds x b i leads l g = (g.next, made_of t.0, made_is, holds)
      where
        t : (n : ℕ) × (thunk_function world.notes i ≡ Some n)
        t = thunks i g.there

        made_of : ℕ → Config
        made_of n = record b { made = b.made + 1; script = one_thunk b.script }

        next_is : next_thunk b (b.registers 7) ≡ Some i
        next_is = ap (next_thunk b) g.named
            ∙ ap (λ z. if z && (nat_eq 0 0 && nat_eq 0 0) then Some i else None) (eq-eqb i b.made g.next)

        made_is : option_map (λ n. record b { made = b.made + 1; script = one_thunk b.script })
            (option_and_then (thunk_function world.notes) (next_thunk b (b.registers 7))) ≡ Some
            (record b { made = b.made + 1; script = one_thunk b.script })
        made_is = ap (λ o. option_map (λ n. record b { made = b.made + 1; script = one_thunk b.script })
            (option_and_then (thunk_function world.notes) o)) next_is
            ∙ ap (option_map (λ (n : ℕ). record b { made = b.made + 1; script = one_thunk b.script })) t.1

        r : Reached states f.func here.next g.state
        r = leads.fall g.state g.falls

        one_more : suc b.made ≡ b.made + 1
        one_more = omega arith

        -- fewer thunks were made than there are, so nothing waited
        few : b.made ≡ length world.notes.thunk → ⊥
        few e = let n = g.next in let h = g.there in absurd (omega (arith, n, h, e))

        top : FitsState world.notes (live_memory world b) (depth fs) f r.state b.registers b.c (b.made + 1)
        top = subst (FitsState world.notes (live_memory world b) (depth fs) f r.state b.registers b.c) one_more
            (reached_fits (live_memory world b) (depth fs) f g.state r.state b.registers b.c (suc b.made) r.from
            (subst (λ gs. TopFits world (record b { made = suc b.made }) gs g.state) g.frames g.sound.top))

        holds : Holds world states (record b { made = b.made + 1; script = one_thunk b.script })
        holds = let D = record b { made = b.made + 1; script = one_thunk b.script } in
            let s = served_after false b l in
            let chain : Chain world states (live_memory world b) b.made (Function f ∷ fs) =
            (below_after false b l, chain_after false b l) in
            record {
              served = ap (λ n. n + 1) s;
              thunks = let n = g.next in let h = g.there in omega (arith, n, h);
              sound = record {
                cells = g.sound.below.cells;
                frames = subst (λ n. FramesKeep world (live_memory world b) n b.frames) one_more g.sound.below.frames;
                few = g.sound.below.few;
              };
              well = λ on. at_top (record b { made = b.made + 1; script = one_thunk b.script }) f fs here.next g.frames before.under g.spot
                  (record { state = r.state; here = r.here; fits = top })
                  (chain_all world states (live_memory world b) b.made (b.made + 1) (Function f ∷ fs) few chain);
              raised = running_after false b l;
            }

    -- ---- an instruction

    raised_holds : (e : Exception) → e ≡ raises.DivideError → Holds world states (record c { ending = ending.Raised e })
    raised_holds e is = record {
      served = before.served;
      thunks = before.thunks;
      sound = record { cells = before.sound.cells; frames = before.sound.frames; few = before.sound.few };
      well = λ on. absurd (cc);
      raised = is;
    }

    gives_holds : (i : Insn) (x : Successors) (e : NeutralEnd) (b : Config) → LeadsTo states f.func here.next x
        → executed world c here i ≡ Gives (e, b) → EndsSound world here x i c f fs (e, b)
        → HoldsAfter world states c here.place (Gives (e, b))
    gives_holds i x (Native v) b leads is g = asks_holds x b v leads
        (unmoved (instruction_leaves world c f fs here i (Native v) b before.frames is)) g
      where
        unmoved : Left world (moves_between i) f fs c b → Left world false f fs c b
        unmoved l = record {
          later = l.later;
          script = l.script;
          trace = l.trace;
          ending = l.ending;
          made = l.made;
          frames = stays f refl refl refl g.frames;
        }
    gives_holds i x (MakeThunk n) b leads is g = makes_holds x b n leads
        (unmoved (instruction_leaves world c f fs here i (MakeThunk n) b before.frames is)) g
      where
        unmoved : Left world (moves_between i) f fs c b → Left world false f fs c b
        unmoved l = record {
          later = l.later;
          script = l.script;
          trace = l.trace;
          ending = l.ending;
          made = l.made;
          frames = stays f refl refl refl g.frames;
        }
    gives_holds insns.Ret x Next b leads is g = returns_holds b (instruction_leaves world c f fs here insns.Ret Next b before.frames is) g
    gives_holds (insns.Call far false relative op extra) x Next b leads is g =
        enters_holds x b leads (instruction_leaves world c f fs here (insns.Call far false relative op extra) Next b before.frames is) g
    gives_holds (insns.Call far true relative op extra) x Next b leads is g =
        goes_on_holds x b leads (instruction_leaves world c f fs here (insns.Call far true relative op extra) Next b before.frames is) g
    gives_holds (insns.Break code) x Next b leads is g = goes_on_holds x b leads
        (instruction_leaves world c f fs here (insns.Break code) Next b before.frames is) g
    gives_holds (insns.Jump cond far relative op extra) x Next b leads is g =
        goes_on_holds x b leads (instruction_leaves world c f fs here (insns.Jump cond far relative op extra) Next b before.frames is) g
    gives_holds (insns.Jump8 cond words) x Next b leads is g = goes_on_holds x b leads
        (instruction_leaves world c f fs here (insns.Jump8 cond words) Next b before.frames is) g
    gives_holds (insns.Compare op wide left right extra) x Next b leads is g =
        goes_on_holds x b leads (instruction_leaves world c f fs here (insns.Compare op wide left right extra) Next b before.frames is) g
    gives_holds (insns.CompareImm op wide left idx long imm) x Next b leads is g =
        goes_on_holds x b leads (instruction_leaves world c f fs here
        (insns.CompareImm op wide left idx long imm) Next b before.frames is) g
    gives_holds (insns.Arith op wide left right extra) x Next b leads is g =
        goes_on_holds x b leads (instruction_leaves world c f fs here (insns.Arith op wide left right extra) Next b before.frames is) g
    gives_holds (insns.Move size bits left right lidx ridx) x Next b leads is g =
        goes_on_holds x b leads (instruction_leaves world c f fs here (insns.Move size bits left right lidx ridx) Next b before.frames is) g
    gives_holds (insns.MoveSigned bits left right lidx extra) x Next b leads is g =
        goes_on_holds x b leads (instruction_leaves world c f fs here
        (insns.MoveSigned bits left right lidx extra) Next b before.frames is) g
    gives_holds (insns.MoveImm size bits left lidx imm) x Next b leads is g =
        goes_on_holds x b leads (instruction_leaves world c f fs here (insns.MoveImm size bits left lidx imm) Next b before.frames is) g
    gives_holds (insns.MoveImmNatural bits left lidx idx) x Next b leads is g =
        goes_on_holds x b leads (instruction_leaves world c f fs here (insns.MoveImmNatural bits left lidx idx) Next b before.frames is) g
    gives_holds (insns.MoveRelative bits left lidx imm) x Next b leads is g =
        goes_on_holds x b leads (instruction_leaves world c f fs here (insns.MoveRelative bits left lidx imm) Next b before.frames is) g
    gives_holds (insns.LoadSpecial from) x Next b leads is g = goes_on_holds x b leads
        (instruction_leaves world c f fs here (insns.LoadSpecial from) Next b before.frames is) g
    gives_holds (insns.StoreSpecial to special) x Next b leads is g =
        goes_on_holds x b leads (instruction_leaves world c f fs here (insns.StoreSpecial to special) Next b before.frames is) g
    gives_holds (insns.Push wide op extra) x Next b leads is g =
        goes_on_holds x b leads (instruction_leaves world c f fs here (insns.Push wide op extra) Next b before.frames is) g
    gives_holds (insns.Pop wide op extra) x Next b leads is g =
        goes_on_holds x b leads (instruction_leaves world c f fs here (insns.Pop wide op extra) Next b before.frames is) g
    gives_holds (insns.PushNatural op extra) x Next b leads is g =
        goes_on_holds x b leads (instruction_leaves world c f fs here (insns.PushNatural op extra) Next b before.frames is) g
    gives_holds (insns.PopNatural op extra) x Next b leads is g =
        goes_on_holds x b leads (instruction_leaves world c f fs here (insns.PopNatural op extra) Next b before.frames is) g

    -- an instruction that goes on soundly leaves what holds
    pub instruction_holds : (i : Insn) (x : Successors) → LeadsTo states f.func here.next x
        → Accepts (EndsSound world here x i c f fs) (executed world c here i)
        → HoldsAfter world states c here.place (executed world c here i)
    instruction_holds i x leads a = go (executed world c here i) refl a
      where
        go : (o : Outcome (NeutralEnd × Config)) → executed world c here i ≡ o → Accepts (EndsSound world here x i c f fs) o
            → HoldsAfter world states c here.place o
        go Stuck is a = absurd a
        go (Raises e) is a = raised_holds e a
        go (Gives (e, b)) is a = gives_holds i x e b leads is a
