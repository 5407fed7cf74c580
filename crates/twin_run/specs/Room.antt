-- For proofs: how many events may still come in a run, and for how many there is room. docs/HOST.md, "Steps".
use Rattle.std.specs.Prelude.{◌≡◌, ℕ, ◌+◌, ◌-◌, ◌*◌, ◌≤◌, false, List, [], ◌∷◌, drop, length, slice_get}
use Rattle.std.specs.List.{sum_by}
use Rattle.std.specs.Option.{option_map_or}
use Rattle.note_types.specs.declared.ending.Ending.TheVariants.{Running}
use Rattle.note_types.specs.declared.script.Script.{Script}
use Rattle.note_types.specs.declared.script.ScriptCall.{ScriptCall}
use Rattle.host_model.specs.Progress.{NativeCall, Accepted}
use Rattle.host_model.specs.RunState.{RunState, SavedFrame}
use Rattle.native_host.specs.Starting.{rest_events}

-- how many callbacks of the script's call of that number are left, where so many were entered
abbrev pub callbacks_left : Script → (entry callbacks : ℕ) → ℕ
callbacks_left script entry callbacks = option_map_or (λ (c : ScriptCall). length c.enter - callbacks) (slice_get script.call entry) 0

-- the most events that a native call which is under way may still give: each callback that is left and its return, and its reply
abbrev pub call_events : Script → NativeCall ℕ → ℕ
call_events script (Accepted entry callbacks slots) = 1 + 2 * callbacks_left script entry callbacks
call_events script _ = 0

-- the most that may come in the function of a frame, and with its return
abbrev pub frame_events : Script → SavedFrame → ℕ
frame_events script f = 1 + call_events script f.call

-- the most that may come in a run: in the functions that the host entered, of the calls that weren't accepted yet, and of the
-- notifications that weren't entered yet, with their returns
unfoldable pub events_left : Script → RunState → ℕ
events_left script r =
    sum_by (frame_events script) r.hosts
    + (rest_events (drop r.script.entries script.call) + 2 * (length script.notify - r.script.notifications))

-- These are the frames of a run inside a function that the host entered; the first one isn't that of a notification.
abbrev pub AreInside : List SavedFrame → Type 0
AreInside [] = ⊥
AreInside (f ∷ []) = f.notified ≡ false
AreInside (f ∷ (g ∷ fs)) = AreInside (g ∷ fs)

-- While a run goes on, it is inside a function that the host entered, and what its trace has and what may still come are at most so
-- many events.
pub record HasEvents (script : Script) (most : ℕ) (r : RunState) : Type 0 where
  pub inside : r.ending ≡ Running → AreInside r.hosts
  pub room : r.ending ≡ Running → length r.trace + events_left script r ≤ most
