-- For proofs: the configuration of the neutral machine: a run's state at both widths at once. It has no addresses, no bytes
-- and no types. docs/HOST.md, "The neutral machine".
use Rattle.std.specs.Prelude.{ℕ, suc, Bool, List, [], ◌∷◌, Option, Some, None, nat_eq, if◌then◌else◌}
use Rattle.note_types.specs.declared.cell.SlotKind.{SlotKind}
use Rattle.note_types.specs.declared.shape.Shape.{Shape}
use Rattle.host_model.specs.Values.{Neutral, Cells}
use Rattle.host_model.specs.Progress.{NativeCall, NoCall, ScriptPlace}
use Rattle.note_types.specs.declared.ending.Ending.{Ending}
use Rattle.note_types.specs.declared.event.Event.{Event}
use Rattle.note_types.specs.declared.spot.Spot.{Spot}

-- ---- the stack

-- An item of a function's stack: a pushed slot, or the function's locals, whose fields are cells.
pub data StackItem : Type 0 where
  Pushed : (kind : SlotKind) (value : Neutral) → StackItem
  LocalsOf : (shape : Shape) → StackItem

-- The values of the registers by their numbers; that of R0 is never looked at.
abbrev pub Registers : Type 0
Registers = ℕ → Neutral

-- The frame of a function: its number, the place at which its caller goes on (not looked at where the host entered it), the
-- registers at its entry, of which R1 to R3 are looked at, and its items from the top. Its parameters lie below it: they
-- are the top slots of its caller, or the slots of the host frame that entered it.
pub record FunctionFrame : Type 0 where
  pub func : ℕ
  pub ret : ℕ
  pub saved : Registers
  pub items : List StackItem

-- The frame of the host, made where it enters a function: the function, whether it was entered as a notification, the
-- registers, C and the spot as they were, the function's parameters as slots from the top, and the native call that is under
-- way in the function frames above it.
pub record HostFrame : Type 0 where
  pub func : ℕ
  pub notified : Bool
  pub saved : Registers
  pub c : Bool
  pub spot : Spot
  pub params : List StackItem
  pub call : NativeCall Neutral

-- A frame. In the list of frames, the top first, a host frame stands below the function frames that belong to it.
pub data Frame : Type 0 where
  Function : (frame : FunctionFrame) → Frame
  Host : (frame : HostFrame) → Frame

-- ---- the configuration

-- A configuration: the registers R1 to R7; the flag C; where the run stands; what the cells hold; how many thunks are made;
-- the frames, the top first; the script place; the events so far, the first one first; how the run ended.
pub record Config : Type 0 where
  pub registers : Registers
  pub c : Bool
  pub spot : Spot
  pub cells : Cells
  pub made : ℕ
  pub frames : List Frame
  pub script : ScriptPlace
  pub trace : List Event
  pub ending : Ending

-- ---- parts of it

-- how many function frames there are
abbrev pub depth : List Frame → ℕ
depth [] = 0
depth (Function f ∷ fs) = suc (depth fs)
depth (Host h ∷ fs) = depth fs

-- the host frames, the top first
abbrev pub hosts : List Frame → List HostFrame
hosts [] = []
hosts (Function f ∷ fs) = hosts fs
hosts (Host h ∷ fs) = h ∷ hosts fs

-- the function frame on top, where it is there
abbrev pub top_function : List Frame → Option FunctionFrame
top_function [] = None
top_function (Function f ∷ fs) = Some f
top_function (Host h ∷ fs) = None

-- the native call under way in the top host frame
abbrev pub call_under_way : List Frame → NativeCall Neutral
call_under_way [] = NoCall
call_under_way (Function f ∷ fs) = call_under_way fs
call_under_way (Host h ∷ fs) = h.call

-- the frames with another native call under way in the top host frame
abbrev pub with_call : NativeCall Neutral → List Frame → List Frame
with_call call [] = []
with_call call (Function f ∷ fs) = Function f ∷ with_call call fs
with_call call (Host h ∷ fs) = Host (record h { call = call }) ∷ fs

-- the shape of the locals among these items
abbrev pub locals_among : List StackItem → Option Shape
locals_among [] = None
locals_among (Pushed kind v ∷ is) = locals_among is
locals_among (LocalsOf s ∷ is) = Some s

-- the shape of the locals of the function frame at a depth, where they are there
abbrev pub locals_at : List Frame → ℕ → Option Shape
locals_at [] d = None
locals_at (Function f ∷ fs) d = if nat_eq d (depth fs) then locals_among f.items else locals_at fs d
locals_at (Host h ∷ fs) d = locals_at fs d

-- the registers with another value in one of them
abbrev pub with_value : Registers → ℕ → Neutral → Registers
with_value regs r v q = if nat_eq q r then v else regs q
