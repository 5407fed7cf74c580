-- Meaning: the state of a run at one width, in numbers: the machine and its memory, the frames of the host, how far the
-- script has come, the events and the ending. docs/HOST.md, "The state".
use Rattle.std.specs.Prelude.{ℕ, Bool, List}
use Rattle.note_types.specs.Concrete.{Concrete}
use Rattle.host_model.specs.Progress.{NativeCall, ScriptPlace}
use Rattle.note_types.specs.declared.ending.Ending.{Ending}
use Rattle.note_types.specs.declared.event.Event.{Event}

-- The frame of the host: the function that it entered, whether as a notification, the registers R0 to R7, ip and flags as
-- they were, and the native call that is under way in the functions above it.
pub record SavedFrame : Type 0 where
  pub func : ℕ
  pub notified : Bool
  pub registers : List ℕ
  pub ip : ℕ
  pub flags : ℕ
  pub call : NativeCall ℕ

-- The state of a run; the top frame of the host comes first, and the first event first.
pub record RunState : Type 0 where
  pub machine : Concrete
  pub hosts : List SavedFrame
  pub script : ScriptPlace
  pub trace : List Event
  pub ending : Ending
