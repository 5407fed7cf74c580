-- For proofs: when a configuration is sound with a state of the typing rules: its top frame fits the state, its cells and
-- parameters fit their types, and its frames keep within the stack.
use Rattle.std.specs.Prelude.{◌≡◌, ◌⊎◌, ℕ, ◌+◌, ◌%◌, ◌<◌, ◌≤◌, true, List, [], ◌∷◌, length, take, Some, slice_get, ⊤}
use Rattle.std.specs.List.{AllZip}
use Rattle.note_types.specs.Cells.{content_type}
use Rattle.note_types.specs.declared.cell.SlotKind.TheVariants.{N}
use Rattle.note_types.specs.declared.notes.FnNote.{FnNote}
use Rattle.note_types.specs.declared.notes.Notes.{Notes}
use Rattle.note_types.specs.declared.notes.Param.{Param}
use Rattle.note_types.specs.declared.shape.Field.{Field}
use Rattle.note_types.specs.declared.state.State.{State}
use Rattle.neutral_machine.specs.Config.{StackItem, Pushed, LocalsOf, FunctionFrame, HostFrame, Frame, Function, Host, Config, depth, hosts}
use Rattle.neutral_machine.specs.Fits.{Fits, FitsPlain}
use Rattle.neutral_machine.specs.FitsState.{FitsState}
use Rattle.neutral_machine.specs.Layout.{height}
use Rattle.neutral_machine.specs.Memory.{Memory, cell_field}
use Rattle.host_model.specs.declared.object.TypedObject.{TypedObject}
use Rattle.neutral_machine.specs.Operations.{kept_natural}
use Rattle.host_model.specs.Placements.{pair_at, return_cell, frame_limit}
use Rattle.host_model.specs.Values.{Neutral, CellPlace, FieldOf}
use Rattle.host_model.specs.World.{World}
use Rattle.invariant_laws.specs.Live.{live_memory}

-- ---- cells

-- A cell holds a value that fits its content type, and each field of an object holds one. It names no frame: no cell's type does.
pub record CellsFit (notes : Notes) (m : Memory) : Type 0 where
  pub fit : (p : CellPlace) (z : Field) (v : Neutral) → cell_field notes m p ≡ Some z → m.cells p ≡ Some v
      → FitsPlain notes m.objects (content_type z.cell) v
  pub all : (k i f : ℕ) (z : Field) → cell_field notes m (FieldOf k i f) ≡ Some z → (v : Neutral) × (m.cells (FieldOf k i f) ≡ Some v)

-- ---- parameters

-- a slot has a parameter's kind and fits its type
abbrev pub ParamFits : Notes → Memory → ℕ → FunctionFrame → StackItem → Param → Type 0
ParamFits notes m d f (Pushed kind v) p = (kind ≡ p.kind) × Fits notes m d f.saved p.ty v
ParamFits notes m d f (LocalsOf s) p = ⊥

-- the slots on top of these items are a function's parameters
abbrev pub ParamsFit : Notes → Memory → ℕ → FunctionFrame → FnNote → List StackItem → Type 0
ParamsFit notes m d f note is = AllZip (ParamFits notes m d f) (take (length note.params) is) note.params

-- ---- frames

-- so many bytes keep within a function's need at both widths
pub record KeepsWithin (bytes : ℕ → ℕ) (note : FnNote) : Type 0 where
  pub at4 : bytes 4 ≤ pair_at 4 note.need
  pub at8 : bytes 8 ≤ pair_at 8 note.need

-- a function stands with all thunks made, unless it is the entry function
abbrev pub ThunksFor : Notes → ℕ → ℕ → Type 0
ThunksFor notes made func = (func ≡ notes.entry) ⊎ (made ≡ length notes.thunk)

-- each natural slot holds what natural size keeps
abbrev pub SlotsKept : Notes → List TypedObject → List StackItem → Type 0
SlotsKept notes objects [] = ⊤
SlotsKept notes objects (Pushed N v ∷ is) = (kept_natural notes objects v ≡ v) × SlotsKept notes objects is
SlotsKept notes objects (i ∷ is) = SlotsKept notes objects is

-- What holds of a function frame by itself: its function is there, its items keep within its need, and its natural slots hold
-- what natural size keeps.
pub record FrameKeeps (notes : Notes) (objects : List TypedObject) (made : ℕ) (f : FunctionFrame) (note : FnNote) : Type 0 where
  pub there : slice_get notes.function f.func ≡ Some note
  pub within : KeepsWithin (λ w. height w f.items) note
  pub slots : SlotsKept notes objects f.items
  pub thunks : ThunksFor notes made f.func

-- the host may enter the function: it is the entry function, or marked
abbrev pub IsEntered : Notes → ℕ → Type 0
IsEntered notes func = (func ≡ notes.entry) ⊎ ((note : FnNote) × (slice_get notes.function func ≡ Some note) × (note.enter ≡ true))

-- control may go on at a place: it is even and inside the image
abbrev pub GoesWell : World → ℕ → Type 0
GoesWell world p = (p % 2 ≡ 0) × (p < world.image_size)

-- What a function frame finds below it: the host frame that entered it, or its caller, which goes on at a place of the image,
-- and whose items, return cell and need of the called function keep within its own need; and its parameters there.
abbrev pub FrameBelow : World → Memory → FunctionFrame → FnNote → List Frame → Type 0
FrameBelow world m g note [] = ⊥
FrameBelow world m g note (Host h ∷ fs) = (g.func ≡ h.func) × ParamsFit world.notes m (depth fs) g note h.params
FrameBelow world m g note (Function f ∷ fs) =
    ((caller : FnNote) × (slice_get world.notes.function f.func ≡ Some caller)
    × KeepsWithin (λ w. height w f.items + (return_cell + pair_at w note.need)) caller)
    × ParamsFit world.notes m (depth (Function f ∷ fs)) g note f.items
    × GoesWell world g.ret

-- a slot has a parameter's kind
abbrev pub ParamKind : StackItem → Param → Type 0
ParamKind (Pushed kind v) p = kind ≡ p.kind
ParamKind (LocalsOf s) p = ⊥

-- What holds of a host frame by itself: its function may be entered, and its slots are that function's parameters.
pub record HostKeeps (notes : Notes) (h : HostFrame) : Type 0 where
  pub entered : IsEntered notes h.func
  pub note : FnNote
  pub there : slice_get notes.function h.func ≡ Some note
  pub kinds : AllZip ParamKind h.params note.params

-- what holds of each frame
abbrev pub FramesKeep : World → Memory → ℕ → List Frame → Type 0
FramesKeep world m made [] = ⊤
FramesKeep world m made (Host h ∷ fs) = HostKeeps world.notes h × FramesKeep world m made fs
FramesKeep world m made (Function f ∷ fs) =
    ((note : FnNote) × FrameKeeps world.notes m.objects made f note × FrameBelow world m f note fs) × FramesKeep world m made fs

-- ---- the whole

-- What is sound of a configuration beside its top frame's state.
pub record SoundBelow (world : World) (a : Config) : Type 0 where
  pub cells : CellsFit world.notes (live_memory world a)
  pub frames : FramesKeep world (live_memory world a) a.made a.frames
  pub few : length (hosts a.frames) ≤ frame_limit

-- the function frame on top fits a state
abbrev pub TopFits : World → Config → List Frame → State → Type 0
TopFits world a [] s = ⊥
TopFits world a (Host h ∷ fs) s = ⊥
TopFits world a (Function f ∷ fs) s = FitsState world.notes (live_memory world a) (depth fs) f s a.registers a.c a.made

-- A configuration is sound with a state.
pub record Sound (world : World) (a : Config) (s : State) : Type 0 where
  pub top : TopFits world a a.frames s
  pub below : SoundBelow world a
