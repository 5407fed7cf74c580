-- B comes to rest: as its own run finishes, and as a function of it returns that a bound call entered. And what A asks for where
-- its host sees a call.
use Rattle.pair_laws.proofs.Common.{◌≡◌, ℕ, Bool, true, false, if◌then◌else◌, List, [], ◌∷◌, length, Some, None, option_map, refl, sym, ap}
use Rattle.pair_laws.proofs.Common.{◌∙◌, subst, none-some, same_Some, some_of_map, Asking, View, Returns, Calls, GoesOn, IsDue, Leaves}
use Rattle.pair_laws.proofs.Common.{host_plan, is_due, return_view, NativeCall, NoCall, Asked, Accepted, is_empty, Neutral, World}
use Rattle.pair_laws.proofs.Common.{turn_holds, RunWorld, Turn, of_host, of_code, FunctionFrame, Frame, Function, Host, Config, depth}
use Rattle.pair_laws.proofs.Common.{hosts, call_under_way, Event, Spot, Value, Image, TopHolds, Holds, StatesFitBelow, live_memory, States}
use Rattle.pair_laws.proofs.Common.{AsksWell}
use Rattle.invariant_laws.specs.Holds.{SpotHolds}
use Rattle.host_laws.proofs.Leaving.{neutral_ending_left}
use Rattle.pair_laws.proofs.{Finishing.left_none, Holding.Rests, SideSteps.SideSteps}
use Rattle.neutral_machine.specs.NeutralHost as neutral
use Rattle.note_types.specs.declared.ending.Ending.TheVariants as ending
use Rattle.note_types.specs.declared.spot.Spot.TheVariants as spot

-- B's own run is over
pub own_rests : (image : Image) (world : World) (states : States) (b : Config) (s : SideSteps image world states b) (v : Value)
    → s.after.ending ≡ ending.Finished v → Rests world (record s.after { ending = ending.Running })
own_rests image world states b s v e = record {
  frames = s.finished v e;
  running = refl;
  served = s.holds.served;
  thunks = s.holds.thunks;
  sound = record { cells = s.holds.sound.cells; frames = s.holds.sound.frames; few = s.holds.sound.few };
}

module _ (world : World) (states : States) (ok : RunWorld world states) (fits_below : StatesFitBelow) where
  -- what the plan of the first function's return leaves is sound
  after_first : (b : Config) (f : ℕ) (v : Value) → Holds world states b → b.ending ≡ ending.Running
      → neutral.host_view world b b.spot ≡ Some (Returns true f v)
      → Holds world states (neutral.performed world b (host_plan world b.script (Returns true f v)))
  unfolding neutral.neutral_host_step neutral.host_view
  after_first b f v h on e = go (turn_holds world states ok fits_below b h on)
    where
      go : Turn world states b → Holds world states (neutral.performed world b (host_plan world b.script (Returns true f v)))
      go (of_host turn g) = subst (Holds world states) (same_Some g.after _
          (sym g.is ∙ ap (option_map (λ u. neutral.performed world b (host_plan world b.script u))) e)) g.holds
      go (of_code p k fs es ef en ed x) =
          let due : neutral.call_seen world b NoCall ≡ None = ap (λ d. if d then Some (IsDue (length (hosts b.frames))) else None) ed in
          absurd (none-some _ (sym (ap (neutral.call_seen world b) (ap call_under_way ef ∙ en) ∙ due)
          ∙ sym (ap (neutral.host_view world b) es) ∙ e))

  -- a function of B returns
  pub leave_rests : (b : Config) (f : ℕ) (v : Value) (t : Event) → Holds world states b → b.ending ≡ ending.Running
      → neutral.host_view world b b.spot ≡ Some (Returns true f v)
      → Rests world (neutral.performed world b (Leaves t))
  unfolding neutral.performed host_plan
  leave_rests b f v t h on e =
      let x = after_first b f v h on e in
      record {
        frames = left_none world b f v h.sound e;
        running = neutral_ending_left b b.frames ∙ on;
        served = x.served;
        thunks = x.thunks;
        sound = record { cells = x.sound.cells; frames = x.sound.frames; few = x.sound.few };
      }

module _ (world : World) (states : States) where
  -- ---- A asks

  -- A configuration asks for a native call at a place, of a function on top.
  pub record AsksAt (a : Config) (q : ℕ) : Type 0 where
    pub place : ℕ
    pub target : Neutral
    pub f : FunctionFrame
    pub fs : List Frame
    pub spot : a.spot ≡ spot.Place place
    pub frames : a.frames ≡ Function f ∷ fs
    pub under : call_under_way fs ≡ Asked q target
    pub well : AsksWell world states (live_memory world a) a.made (depth fs) f q place target a.registers

  call_of : (a : Config) (c : NativeCall Neutral) (q : ℕ) (asking : Asking) → neutral.call_seen world a c ≡ Some (Calls q asking)
      → (t : Neutral) × (c ≡ Asked q t)
  call_of a NoCall q asking e = absurd (not_due (is_due world.script a.script) e)
    where
      not_due : (t : Bool) → (if t then Some (IsDue (length (hosts a.frames))) else None) ≡ Some (Calls q asking) → ⊥
      not_due true e = cc
      not_due false e = none-some _ e
  call_of a (Asked p t) q asking e =
      let x = some_of_map (Calls p) (neutral.asking_at world a p t) (Calls q asking) e in
      (t, ap (λ z. Asked z t) (place_is p q x.0 asking x.2))
    where
      place_of : View → ℕ
      place_of (Calls p k) = p
      place_of _ = 0

      place_is : (p q : ℕ) (k l : Asking) → Calls p k ≡ Calls q l → p ≡ q
      place_is p q k l e = ap place_of e
  call_of a (Accepted n k vs) q asking e = absurd (not_calls (neutral.lent_there world a.frames n vs) e)
    where
      not_calls : (b : Bool) → (if b then Some (GoesOn n k (length (hosts a.frames)) (neutral.writes_there world a n)) else None) ≡ Some
          (Calls q asking) → ⊥
      not_calls true e = cc
      not_calls false e = none-some _ e

  pub asks_at : (a : Config) (q : ℕ) (asking : Asking) → Holds world states a → a.ending ≡ ending.Running
      → neutral.host_view world a a.spot ≡ Some (Calls q asking) → AsksAt a q
  unfolding neutral.host_view
  asks_at a q asking h on e = by_spot a.spot refl (h.well on).top e
    where
      no_call : (n b : Bool) (g : ℕ) (u : Value) → return_view n b g u ≡ Calls q asking → ⊥
      no_call true b g u e = cc
      no_call false b g u e = cc

      at_gate : (gs : List Frame) → neutral.return_seen world a gs ≡ Some (Calls q asking) → AsksAt a q
      at_gate [] e = absurd (none-some _ e)
      at_gate (Function f ∷ gs) e = absurd (none-some _ e)
      at_gate (Host k ∷ gs) e =
          let x = some_of_map (return_view k.notified (is_empty (hosts gs)) k.func) (neutral.result_of world a k.func) (Calls q asking) e in
          absurd (no_call k.notified (is_empty (hosts gs)) k.func x.0 x.2)

      by_frames : (p : ℕ) (gs : List Frame) (t : Neutral) → a.spot ≡ spot.Place p → a.frames ≡ gs → call_under_way gs ≡ Asked q t
          → TopHolds world states a (Asked q t) p gs → AsksAt a q
      by_frames p [] t es ef en x = absurd x
      by_frames p (Host k ∷ gs) t es ef en x = absurd x
      by_frames p (Function f ∷ gs) t es ef en x = record {
        place = p;
        target = t;
        f = f;
        fs = gs;
        spot = es;
        frames = ef;
        under = en;
        well = x;
      }

      by_spot : (s : Spot) → a.spot ≡ s → SpotHolds world states a s → neutral.host_view world a s ≡ Some (Calls q asking) → AsksAt a q
      by_spot spot.Gate es x e = at_gate a.frames e
      by_spot (spot.Wild y) es x e = absurd x
      by_spot (spot.Place p) es x e =
          let c = call_of a (call_under_way a.frames) q asking e in
          by_frames p a.frames c.0 es refl c.1 (subst (λ n. TopHolds world states a n p a.frames) c.1 x)
