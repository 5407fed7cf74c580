-- For proofs: One instruction that its rule accepts: what the neutral machine then does from a sound configuration. Widths,
-- placements and bytes don't come into it.
use Rattle.std.specs.Prelude.{◌≡◌, ◌⊎◌, ℕ, suc, ◌%◌, ◌^◌, ◌<◌, false, List, [], ◌∷◌, Some, None, Ok, slice_get, length}
use Rattle.ebc_insn.specs.Spelling.{WellFormed}
use Rattle.ebc_insn.specs.declared.Insn.{Insn}
use Rattle.ebc_insn.specs.declared.Insn.TheVariants as insns
use Rattle.neutral_machine.specs.Rows.{Site, NeutralEnd, Next, Native, MakeThunk, executed}
use Rattle.neutral_machine.specs.WorldFits.{WorldFits}
use Rattle.note_types.specs.Known.{IsState}
use Rattle.note_types.specs.Notes.{entry_state}
use Rattle.note_types.specs.Records.{Each, IsNotes}
use Rattle.note_types.specs.declared.notes.FnNote.{FnNote}
use Rattle.note_types.specs.declared.notes.Notes.{Notes}
use Rattle.note_types.specs.declared.notes.Point.{Point}
use Rattle.note_types.specs.declared.notes.Signature.{Signature}
use Rattle.note_types.specs.declared.spot.Spot.TheVariants.{Place, Gate}
use Rattle.note_types.specs.declared.state.State.{State}
use Rattle.rules_base.specs.declared.here.Here.{Here}
use Rattle.rules_data.specs.Data.{after_data}
use Rattle.rules_flow.specs.declared.successors.Successors.{Successors}
use Rattle.rules_flow.specs.Flow.{after_flow}
use Rattle.rules_flow.specs.Successors.{falls}
use Rattle.neutral_machine.specs.Config.{FunctionFrame, Frame, Function, Host, Config, depth}
use Rattle.host_model.specs.HostPlans.{site_of}
use Rattle.neutral_machine.specs.NeutralReadings.{neutral_slots}
use Rattle.host_model.specs.Objects.{made_objects}
use Rattle.host_model.specs.declared.object.TypedObject.{TypedObject}
use Rattle.host_model.specs.Placements.{object_bytes}
use Rattle.host_model.specs.Values.{Neutral, At, Method, ThunkOf}
use Rattle.host_model.specs.World.{World}
use Rattle.invariant_laws.specs.Accepts.{Accepts}
use Rattle.invariant_laws.specs.Asked.{ArgumentsFit, GivenByCall, GivenByNative}
use Rattle.invariant_laws.specs.Later.{IsFresh, Preserves, WillFit}
use Rattle.invariant_laws.specs.Live.{live_memory}
use Rattle.invariant_laws.specs.Sound.{Sound, SoundBelow}

-- ---- the rules

-- where an instruction of a function stands, as the rules have it
abbrev pub here_of : Site → ℕ → Here
here_of here func = record { place = here.place; next = here.next; func = func; reloc = here.reloc }

-- the rules accept an instruction with these successors: as one on data, or as one of control or of the stack
abbrev pub Accepted : Notes → Here → State → Insn → Successors → Type 0
Accepted notes here s i x = ((t : State) × (after_data notes here s i ≡ Ok t) × (x ≡ falls t)) ⊎ (after_flow notes here s i ≡ Ok x)

-- ---- what holds before

-- What holds of the world of a run of a typed image, beside what the laws of numbers ask: the notes are as a reader gives them,
-- each point stands at an even place, as instructions do, typed objects are small, and places of the image are numbers of 64
-- bits.
pub record WorldTyped (world : World) : Type 0 where
  pub fits : WorldFits world
  pub notes : IsNotes world.notes
  pub points : Each (λ (p : Point). p.place % 2 ≡ 0) world.notes.point
  pub small : (n k : ℕ) (o : TypedObject) → slice_get (made_objects world.notes world.script n) k ≡ Some o
      → object_bytes 8 world.notes o < 2 ^ 32
  pub size : world.image_size < 2 ^ 64

-- An instruction of the function on top stands at the configuration's spot, and its rule accepts it in a state with which the
-- configuration is sound: the next place is even, and inside the image where control may go on there.
pub record StandsTyped (world : World) (a : Config) (f : FunctionFrame) (fs : List Frame) (note : FnNote) (here : Site) (s : State)
    (i : Insn) (x : Successors) : Type 0 where
  pub frames : a.frames ≡ Function f ∷ fs
  pub spot : a.spot ≡ Place here.place
  pub there : slice_get world.notes.function f.func ≡ Some note
  pub well_formed : WellFormed i
  pub even : here.next % 2 ≡ 0
  pub inside : (x.fall ≡ None) ⊎ (here.next < world.image_size)
  pub sound : Sound world a s
  pub state : IsState world.notes note s
  pub accepted : Accepted world.notes (here_of here f.func) s i x

-- ---- what holds after

-- the state of the successor that was taken
abbrev pub IsTaken : Site → Successors → ℕ → State → Type 0
IsTaken here x p s = ((p ≡ here.next) × (x.fall ≡ Some s)) ⊎ (x.jump ≡ Some (p, s))

-- The run goes on in the function, at a successor, and the configuration is sound with its state.
pub record GoesOn (world : World) (here : Site) (x : Successors) (b : Config) : Type 0 where
  pub place : ℕ
  pub state : State
  pub spot : b.spot ≡ Place place
  pub taken : IsTaken here x place state
  pub sound : Sound world b state

-- A function is entered: the configuration is sound with its entry state, and the caller will fit the state where it goes on.
pub record Enters (world : World) (here : Site) (x : Successors) (a : Config) (f : FunctionFrame) (fs : List Frame)
    (b : Config) : Type 0 where
  pub callee : FunctionFrame
  pub note : FnNote
  pub there : slice_get world.notes.function callee.func ≡ Some note
  pub spot : b.spot ≡ Place note.place
  pub frames : b.frames ≡ Function callee ∷ Function f ∷ fs
  pub ret : callee.ret ≡ here.next
  pub saved : callee.saved ≡ a.registers
  pub thunks : b.made ≡ length world.notes.thunk
  pub sound : Sound world b (entry_state world.notes callee.func)
  pub state : State
  pub falls : x.fall ≡ Some state
  pub fresh : IsFresh state
  pub waits : WillFit world.notes (live_memory world b) b.made (depth fs) f state a.registers (GivenByCall world.notes callee.func)

-- where a function that returns goes: back to its caller's place, or to the gate where the host entered it
abbrev pub GoesBack : FunctionFrame → List Frame → Config → Type 0
GoesBack f [] b = ⊥
GoesBack f (Function g ∷ fs) b = b.spot ≡ Place f.ret
GoesBack f (Host h ∷ fs) b = b.spot ≡ Gate

-- The function returns: its frame is gone, R1 to R3 are what they were at its entry, and R7 is its result.
pub record Returns (world : World) (a : Config) (f : FunctionFrame) (fs : List Frame) (b : Config) : Type 0 where
  pub frames : b.frames ≡ fs
  pub back : GoesBack f fs b
  pub kept : Preserves f.saved b.registers
  pub given : GivenByCall world.notes f.func (live_memory world b) (b.registers 7)
  pub sound : SoundBelow world b

-- A native method is called: the place has a site of a signature of it, the slots on top are what that wants, all thunks are
-- made, and the function will fit the state where it goes on. Nothing but the spot has changed.
pub record Asks (world : World) (here : Site) (x : Successors) (a : Config) (f : FunctionFrame) (fs : List Frame) (target : Neutral)
    (b : Config) : Type 0 where
  pub spot : b.spot ≡ Place here.next
  pub frames : b.frames ≡ Function f ∷ fs
  pub number : ℕ
  pub site : site_of world.notes here.place ≡ Some number
  pub signature : Signature
  pub there : slice_get world.notes.signature number ≡ Some signature
  pub method : target ≡ Method signature.method
  pub args : List Neutral
  pub args_are : neutral_slots world.notes (live_memory world b).objects signature.params f.items ≡ Some args
  pub args_fit : ArgumentsFit world.notes (live_memory world b) (depth fs) signature.params args
  pub thunks : b.made ≡ length world.notes.thunk
  pub sound : SoundBelow world b
  pub state : State
  pub falls : x.fall ≡ Some state
  pub fresh : IsFresh state
  pub waits : WillFit world.notes (live_memory world b) b.made (depth fs) f state b.registers (GivenByNative world.notes signature args)

-- A thunk is made: it is the next one, the function is the entry function, and with it made the configuration is sound with
-- the state where the function goes on.
pub record Makes (world : World) (here : Site) (x : Successors) (a : Config) (f : FunctionFrame) (fs : List Frame) (thunk : ℕ)
    (b : Config) : Type 0 where
  pub spot : b.spot ≡ Place here.next
  pub frames : b.frames ≡ Function f ∷ fs
  pub named : b.registers 7 ≡ At (ThunkOf thunk) 0 0
  pub next : thunk ≡ b.made
  pub there : thunk < length world.notes.thunk
  pub state : State
  pub falls : x.fall ≡ Some state
  pub sound : Sound world (record b { made = suc b.made }) state

-- what holds once an instruction has ended so
abbrev pub GoesOnSound : World → Site → Successors → Insn → Config → FunctionFrame → List Frame → Config → Type 0
GoesOnSound world here x insns.Ret a f fs b = Returns world a f fs b
GoesOnSound world here x (insns.Call far false relative op extra) a f fs b = Enters world here x a f fs b
GoesOnSound world here x i a f fs b = GoesOn world here x b

abbrev pub EndsSound : World → Site → Successors → Insn → Config → FunctionFrame → List Frame → NeutralEnd × Config → Type 0
EndsSound world here x i a f fs (Next, b) = GoesOnSound world here x i a f fs b
EndsSound world here x i a f fs (Native v, b) = Asks world here x a f fs v b
EndsSound world here x i a f fs (MakeThunk n, b) = Makes world here x a f fs n b

-- From a sound configuration, an instruction that its rule accepts isn't stuck, raises nothing but a division by zero, and
-- goes on soundly.
abbrev pub OneRule : Type 0
OneRule =
    (world : World) (a : Config) (f : FunctionFrame) (fs : List Frame) (note : FnNote) (here : Site) (s : State) (i : Insn) (x : Successors)
    → WorldTyped world → StandsTyped world a f fs note here s i x → Accepts (EndsSound world here x i a f fs) (executed world a here i)
