-- For proofs: what waits: frames that will go on once a call gives its result or a notification is left, and the chain of
-- frames. docs/SIMULATION.md, "The second half".
use Rattle.std.specs.Prelude.{◌≡◌, ℕ, Bool, true, false, List, [], ◌∷◌, length, Some, slice_get}
use Rattle.std.specs.Bool.{⊤}
use Rattle.note_types.specs.declared.notes.Notes.{Notes}
use Rattle.note_types.specs.declared.notes.Signature.{Signature}
use Rattle.note_types.specs.declared.script.ScriptCall.{ScriptCall}
use Rattle.note_types.specs.declared.spot.Spot.{Spot}
use Rattle.note_types.specs.declared.spot.Spot.TheVariants as spot
use Rattle.note_types.specs.declared.state.State.{State}
use Rattle.neutral_machine.specs.Config.{Registers, FunctionFrame, HostFrame, Frame, Function, Host, depth, call_under_way}
use Rattle.host_model.specs.HostPlans.{site_of}
use Rattle.neutral_machine.specs.FitsState.{FitsState}
use Rattle.neutral_machine.specs.Memory.{Memory}
use Rattle.neutral_machine.specs.NeutralReadings.{neutral_slots}
use Rattle.host_model.specs.Progress.{NativeCall, NoCall, Accepted}
use Rattle.host_model.specs.Values.{Neutral, Method}
use Rattle.host_model.specs.World.{World}
use Rattle.invariant_laws.specs.Asked.{ArgumentsFit, GivenByCall, GivenByNative}
use Rattle.invariant_laws.specs.Later.{Later, IsFresh, WillFit}

-- The states before the instructions of functions: whether at a place of the function of that number a state stands.
abbrev pub States : Type 1
States = (func place : ℕ) → State → Type 0

-- The function frame f at depth d waits: it will fit the state at a place once this is given, and all thunks are made.
pub record Waits (notes : Notes) (states : States) (U : Memory) (made d : ℕ) (f : FunctionFrame) (next : ℕ) (kept : Registers)
    (Given : Memory → Neutral → Type 0) : Type 0 where
  pub state : State
  pub here : states f.func next state
  pub fresh : IsFresh state
  pub thunks : made ≡ length notes.thunk
  pub will : WillFit notes U made d f state kept Given

-- ---- native calls

-- The frame on top asks for a native call at a place: the place has a site, the target is its method, the slots on top are
-- what it wants, and the frame waits for the result.
pub record AsksWell (world : World) (states : States) (U : Memory) (made d : ℕ) (f : FunctionFrame) (place next : ℕ) (target : Neutral)
    (regs : Registers) : Type 0 where
  pub number : ℕ
  pub site : site_of world.notes place ≡ Some number
  pub signature : Signature
  pub there : slice_get world.notes.signature number ≡ Some signature
  pub method : target ≡ Method signature.method
  pub args : List Neutral
  pub args_are : neutral_slots world.notes U.objects signature.params f.items ≡ Some args
  pub args_fit : ArgumentsFit world.notes U d signature.params args
  pub waits : Waits world.notes states U made d f next regs (GivenByNative world.notes signature args)

-- The frame waits within a native call that the script's call of that number answers.
pub record WaitsNative (world : World) (states : States) (U : Memory) (made d : ℕ) (f : FunctionFrame) (entry next : ℕ)
    (args : List Neutral) (kept : Registers) : Type 0 where
  pub call : ScriptCall
  pub entry_is : slice_get world.script.call entry ≡ Some call
  pub signature : Signature
  pub there : slice_get world.notes.signature call.signature ≡ Some signature
  pub args_fit : ArgumentsFit world.notes U d signature.params args
  pub waits : Waits world.notes states U made d f next kept (GivenByNative world.notes signature args)

-- ---- notifications

-- The function frame f at depth d was interrupted before the instruction at a place: with all registers and C as they were, it
-- fits the state there in each later memory, and all thunks are made.
pub record Interrupted (notes : Notes) (states : States) (U : Memory) (made d : ℕ) (f : FunctionFrame) (place : ℕ) (kept : Registers)
    (c : Bool) : Type 0 where
  pub state : State
  pub here : states f.func place state
  pub thunks : made ≡ length notes.thunk
  pub fits : (V : Memory) → Later d U V → FitsState notes V d f state kept c made

-- ---- the chain of frames

-- a function frame waits at a spot below a host frame, while a native call is under way
abbrev pub WaitsBelow : World → States → Memory → ℕ → ℕ → FunctionFrame → NativeCall Neutral → Spot → Registers → Type 0
WaitsBelow world states U made d f (Accepted entry callbacks args) (spot.Place next) kept =
    WaitsNative world states U made d f entry next args kept
WaitsBelow world states U made d f _ _ kept = ⊥

-- a function frame was interrupted at a spot below a host frame, while no native call is under way
abbrev pub InterruptedBelow : Notes → States → Memory → ℕ → ℕ → FunctionFrame → NativeCall Neutral → Spot → Registers → Bool → Type 0
InterruptedBelow notes states U made d f NoCall (spot.Place place) kept c = Interrupted notes states U made d f place kept c
InterruptedBelow notes states U made d f _ _ kept c = ⊥

-- what waits right below a host frame: a function that was interrupted, where this is one of a notification, or one within a native call
abbrev pub BelowMarked : (notified : Bool) → World → States → Memory → ℕ → HostFrame → FunctionFrame → List Frame → Type 0
BelowMarked true world states U made h f fs = InterruptedBelow world.notes states U made (depth fs) f (call_under_way fs) h.spot h.saved h.c
BelowMarked false world states U made h f fs = WaitsBelow world states U made (depth fs) f (call_under_way fs) h.spot h.saved

-- what waits below a host frame: the first one has nothing below it, and is none of a notification
abbrev pub BelowHost : World → States → Memory → ℕ → HostFrame → List Frame → Type 0
BelowHost world states U made h [] = h.notified ≡ false
BelowHost world states U made h (Host g ∷ fs) = ⊥
BelowHost world states U made h (Function f ∷ fs) = BelowMarked h.notified world states U made h f fs

-- what waits below a function frame, if anything does: its caller
abbrev pub BelowFunction : World → States → Memory → ℕ → FunctionFrame → List Frame → Type 0
BelowFunction world states U made g [] = ⊥
BelowFunction world states U made g (Host h ∷ fs) = ⊤
BelowFunction world states U made g (Function f ∷ fs) = Waits world.notes states U made (depth fs) f g.ret g.saved
    (GivenByCall world.notes g.func)

-- what waits below a frame
abbrev pub BelowFrame : World → States → Memory → ℕ → Frame → List Frame → Type 0
BelowFrame world states U made (Host h) fs = BelowHost world states U made h fs
BelowFrame world states U made (Function g) fs = BelowFunction world states U made g fs

-- each frame below the top one waits
abbrev pub Chain : World → States → Memory → ℕ → List Frame → Type 0
Chain world states U made [] = ⊤
Chain world states U made (f ∷ fs) = BelowFrame world states U made f fs × Chain world states U made fs
