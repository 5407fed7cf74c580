-- The host's notify step: the function of a notification is entered, and the function on top is interrupted; or the run ends with a
-- script that asks what can't be done.
use Rattle.invariant_laws.proofs.Common.{option_map_or, ◌≡◌, ℕ, ◌<◌, Bool, true, false, not, if◌then◌else◌, nat_le, List, [], ◌∷◌, ◌++◌}
use Rattle.invariant_laws.proofs.Common.{map, length, Option, Some, None, refl, sym, ap, ◌∙◌, subst, arith, slice_get, and_parts, leb-false}
use Rattle.invariant_laws.proofs.Common.{Ending, Event, FnNote, TypedObject, Ends, host_plan, may_enter, function_params, is_due}
use Rattle.invariant_laws.proofs.Common.{made_objects, frame_limit, NativeCall, NoCall, given, fits_each, Neutral, World, FunctionFrame}
use Rattle.invariant_laws.proofs.Common.{HostFrame, Frame, Function, Config, depth, hosts, call_under_way, RunsAt, Holds, StatesFitBelow}
use Rattle.invariant_laws.proofs.Common.{live_memory, States, Interrupted, InterruptedBelow, BelowMarked, BelowHost, RunWorld, HostGoesOn}
use Rattle.std.proofs.lemmas.Bool.{leb-true}
use Rattle.note_types.specs.declared.script.Notify.{Notify}
use Rattle.host_model.specs.HostPlans.{IsDue, Notifies, notify_plan, notification_fits}
use Rattle.host_model.specs.Progress.{one_notification}
use Rattle.invariant_laws.proofs.{StatesLater.state_later, Calling.IsQuiet, Calling.quiet_ends, Calling.at_place, Entering.CanEnter}
use Rattle.invariant_laws.proofs.{Entering.may_be_entered, Entering.entered_holds, Leaving.host_goes_on, Leaving.ended_holds}
use Rattle.note_types.specs.declared.ending.Ending.TheVariants as ending
use Rattle.note_types.specs.declared.event.Event.TheVariants as event
use Rattle.note_types.specs.declared.reason.Reason.TheVariants as reason
use Rattle.note_types.specs.declared.spot.Spot.TheVariants as spot
use Rattle.neutral_machine.specs.NeutralHost as neutral

module _ (world : World) (states : States) (ok : RunWorld world states) (fits_below : StatesFitBelow) where
  -- once the notification is taken, before its function is entered
  abbrev taken : Config → ℕ → FunctionFrame → List Frame → List Event → Config
  taken a p f fs t = record (at_place a p f fs) { script = one_notification a.script; trace = t }

  -- what was tried: the script has served as many thunks as there are, so all are made
  thunks_made : (a : Config) (p : ℕ) (f : FunctionFrame) (fs : List Frame) → Holds world states (at_place a p f fs)
      → nat_le (length world.notes.thunk) a.script.thunks ≡ true → a.made ≡ length world.notes.thunk
  thunks_made a p f fs x served =
      let l = leb-true (length world.notes.thunk) a.script.thunks served in
      let s = x.served in
      let m = x.thunks in
      omega (arith, l, s, m)

  -- the function on top waits, as it was interrupted
  interrupted : (a : Config) (p : ℕ) (f : FunctionFrame) (fs : List Frame) (t : List Event)
      → RunsAt world states (at_place a p f fs) p f fs → a.made ≡ length world.notes.thunk
      → Interrupted world.notes states (live_memory world (taken a p f fs t)) a.made (depth fs) f p a.registers a.c
  interrupted a p f fs t x made = record {
    state = x.state;
    here = x.here;
    thunks = made;
    fits = λ V l. state_later world.notes (depth fs) (live_memory world (at_place a p f fs)) V f x.state a.registers a.c a.made l x.fits;
  }

  waits_below : (a : Config) (p : ℕ) (f : FunctionFrame) (fs : List Frame) (t : List Event) → call_under_way fs ≡ NoCall
      → RunsAt world states (at_place a p f fs) p f fs → a.made ≡ length world.notes.thunk
      → (h : HostFrame) → h.notified ≡ true → h.saved ≡ a.registers → h.c ≡ a.c → h.spot ≡ spot.Place p
      → BelowHost world states (live_memory world (taken a p f fs t)) a.made h (Function f ∷ fs)
  waits_below a p f fs t under x made h mark saved flag at =
      let U = live_memory world (taken a p f fs t) in
      subst (λ m. BelowMarked m world states U a.made h f fs) (sym mark)
      (subst (λ (c : NativeCall Neutral). InterruptedBelow world.notes states U a.made (depth fs) f c h.spot h.saved h.c) (sym under)
      (subst (λ s. InterruptedBelow world.notes states U a.made (depth fs) f NoCall s h.saved h.c) (sym at)
      (subst (λ r. Interrupted world.notes states U a.made (depth fs) f p r h.c) (sym saved)
      (subst (λ b. Interrupted world.notes states U a.made (depth fs) f p a.registers b) (sym flag) (interrupted a p f fs t x made)))))

  -- its function may be entered
  notification_enters : (a : Config) (p : ℕ) (f : FunctionFrame) (fs : List Frame) (n : Notify) (t : List Event)
      → call_under_way fs ≡ NoCall → Holds world states (at_place a p f fs) → RunsAt world states (at_place a p f fs) p f fs
      → notification_fits world (made_objects world.notes world.script a.script.entries) a.script n ≡ true
      → length (hosts fs) < frame_limit → n.function < length world.notes.function
      → CanEnter world states true (taken a p f fs t) n.function n.args
  notification_enters a p f fs n t under x runs fit few there =
      let objects = made_objects world.notes world.script a.script.entries in
      let test = and_parts (may_enter world.notes n.function) _ fit in
      let rest = and_parts (fits_each objects (function_params world.notes n.function) n.args) _ test.1 in
      let e = may_be_entered world.notes objects n.function n.args there test.0 rest.0 in
      let made = thunks_made a p f fs x rest.1 in
      record {
        served = x.served;
        thunks = x.thunks;
        sound = record { cells = x.sound.cells; frames = x.sound.frames; few = x.sound.few };
        few = few;
        waiting = (x.well refl).waiting;
        running = refl;
        note = e.note;
        there = e.there;
        may = e.may;
        made = made ∙ sym (ap (λ b. if b then 0 else length world.notes.thunk) e.other);
        values = e.values;
        below = λ h mark saved flag at. waits_below a p f fs t under runs made h mark saved flag at;
      }

  -- the step at a place where a notification is due
  pub notify_step : (a : Config) (p : ℕ) (f : FunctionFrame) (fs : List Frame) → call_under_way fs ≡ NoCall
      → is_due world.script a.script ≡ true → Holds world states (at_place a p f fs) → RunsAt world states (at_place a p f fs) p f fs
      → HostGoesOn world states (at_place a p f fs)
  unfolding neutral.host_view neutral.performed host_plan notify_plan
  notify_step a p f fs under due x runs =
      host_goes_on world states (at_place a p f fs) (IsDue (length (hosts fs)))
      (ap (neutral.call_seen world (at_place a p f fs)) under ∙ ap (λ t. if t then Some (IsDue (length (hosts fs))) else None) due)
      (go (slice_get world.script.notify a.script.notifications) refl)
    where
      objects : List TypedObject
      objects = made_objects world.notes world.script a.script.entries

      y : Config
      y = at_place a p f fs

      ends : (e : Ending) (es : List Event) → IsQuiet e → Holds world states (record y { trace = a.trace ++ es; ending = e })
      ends e es q = let z = quiet_ends e q in ended_holds world states y e (a.trace ++ es) z.0 z.1 x

      entering : (n : Notify) → slice_get world.script.notify a.script.notifications ≡ Some n
          → notification_fits world objects a.script n ≡ true → length (hosts fs) < frame_limit
          → Holds world states (neutral.performed world y
          (Notifies (event.Notified n.function (map given n.args)) n.function n.args))
      entering n at fit few =
          let there = (ok.script.notify.each a.script.notifications n at).function in
          let t = a.trace ++ event.Notified n.function (map given n.args) ∷ [] in
          let c = notification_enters a p f fs n t under x runs fit few there in
          subst (λ (o : Option FnNote). Holds world states (neutral.entered true world (taken a p f fs t) n.function
          (neutral.param_slots world.notes objects (option_map_or (λ (g : FnNote). g.params) o []) n.args))) (sym c.there)
          (entered_holds world states ok.notes ok.starts fits_below true (taken a p f fs t) n.function n.args c)

      by_depth : (n : Notify) → slice_get world.script.notify a.script.notifications ≡ Some n
          → notification_fits world objects a.script n ≡ true → (t : Bool) → nat_le frame_limit (length (hosts fs)) ≡ t
          → Holds world states (neutral.performed world y (if t then Ends [] (ending.Mismatch reason.Depth)
          else Notifies (event.Notified n.function (map given n.args)) n.function n.args))
      by_depth n at fit true e = ends (ending.Mismatch reason.Depth) [] tt
      by_depth n at fit false e = let l = leb-false frame_limit (length (hosts fs)) e in entering n at fit (omega (arith, l))

      by_fit : (n : Notify) → slice_get world.script.notify a.script.notifications ≡ Some n → (t : Bool)
          → notification_fits world objects a.script n ≡ t
          → Holds world states (neutral.performed world y
          (if not t then Ends [] (ending.Mismatch (reason.Notify a.script.notifications))
          else if nat_le frame_limit (length (hosts fs)) then Ends [] (ending.Mismatch reason.Depth)
          else Notifies (event.Notified n.function (map given n.args)) n.function n.args))
      by_fit n at false e = ends (ending.Mismatch (reason.Notify a.script.notifications)) [] tt
      by_fit n at true e = by_depth n at e (nat_le frame_limit (length (hosts fs))) refl

      go : (o : Option Notify) → slice_get world.script.notify a.script.notifications ≡ o
          → Holds world states (neutral.performed world y
          (option_map_or (notify_plan world objects a.script (length (hosts fs))) o (Ends [] ending.ScriptEnd)))
      go (Some n) at = by_fit n at (notification_fits world objects a.script n) refl
      go None at = ends ending.ScriptEnd [] tt
