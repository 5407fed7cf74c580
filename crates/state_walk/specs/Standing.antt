-- For proofs: what stands before an instruction: its function, the instruction and the state there. docs/RULES.md, "Places and states".
use Rattle.std.specs.Prelude.{◌≡◌, ℕ, ◌<◌, ◌≤◌, ◌^◌, Option, None, Ok, Some, slice_get}
use Rattle.ebc_insn.specs.declared.Insn.{Insn}
use Rattle.ebc_insn.specs.Spelling.{WellFormed}
use Rattle.note_types.specs.Records.{IsNotes}
use Rattle.note_types.specs.declared.notes.FnNote.{FnNote}
use Rattle.note_types.specs.declared.notes.Notes.{Notes}
use Rattle.note_types.specs.declared.state.State.{State}
use Rattle.pe_image.specs.Images.{IsImage}
use Rattle.pe_image.specs.declared.image.Image.{Image}
use Rattle.rules_base.specs.declared.here.Here.{Here}
use Rattle.rules_flow.specs.declared.successors.Successors.{Successors}
use Rattle.rules_image.specs.Images.{IsDecoded, IsFunction, RelocationHolds, reloc_at}
use Rattle.state_walk.specs.declared.preceding.Before.{Before}
use Rattle.width_checker.specs.Rows.{here_at, row_of}
use Rattle.width_checker.specs.StatesAt.{StateAt}
use Rattle.width_checker.specs.Typed.{MeetsRules}
use Rattle.width_checker.specs.Walks.{Arrives, ComesTo}

-- an instruction decodes at a place of a function, where it is there
abbrev pub DecodesIfAny : Image → FnNote → ℕ → Option (Insn × ℕ) → Type 0
DecodesIfAny image f place insn = (i : Insn) (next : ℕ) → insn ≡ Some (i, next) → IsDecoded image f place i next

-- an instruction of function `func` stands here, where the rule `relocation` holds of it
abbrev pub StandsHere : Image → ℕ → ℕ → Option (Insn × ℕ) → Option Here → Type 0
StandsHere image func place insn here =
    (h : Here) (i : Insn) (next : ℕ) → here ≡ Some h → insn ≡ Some (i, next) → h ≡ here_at image func place next

-- the instruction that decodes at a place of a function is there
abbrev pub HasDecoded : Image → FnNote → ℕ → Option (Insn × ℕ) → Type 0
HasDecoded image f place insn = (i : Insn) (next : ℕ) → IsDecoded image f place i next → insn ≡ Some (i, next)

-- where an instruction stands is told, if the rule `relocation` holds of it
abbrev pub HasHere : Image → Notes → ℕ → ℕ → Option (Insn × ℕ) → Option Here → Type 0
HasHere image notes func place insn here = (i : Insn) (next : ℕ) → insn ≡ Some (i, next)
    → RelocationHolds image notes place i next (reloc_at image next) → here ≡ Some (here_at image func place next)

-- all that there is of the instruction at a place of function `func` is told
pub record IsWholeOf (image : Image) (notes : Notes) (func : ℕ) (f : FnNote) (place : ℕ) (b : Before) : Type 0 where
  pub insn : HasDecoded image f place b.insn
  pub here : HasHere image notes func place b.insn b.here

-- it stands before the instruction at a place of function `func`
pub record IsBeforeInsn (image : Image) (func : ℕ) (f : FnNote) (place : ℕ) (b : Before) : Type 0 where
  pub func_is : b.func ≡ func
  pub place_is : b.place ≡ place
  pub from : f.place ≤ place
  pub within : place < f.end
  pub insn : DecodesIfAny image f place b.insn
  pub here : StandsHere image func place b.insn b.here

-- it stands before the instruction at a place of a function of the notes
abbrev pub HasInsnOf : Image → Notes → ℕ → Before → Type 0
HasInsnOf image notes place b = (f : FnNote) × (slice_get notes.function b.func ≡ Some f) × IsBeforeInsn image b.func f place b

-- its state is the state before the instruction at a place of a function of the notes
abbrev pub HasStateOf : Image → Notes → ℕ → Before → Type 0
HasStateOf image notes place b = (f : FnNote) (s : State) → slice_get notes.function b.func ≡ Some f → b.state ≡ Some s
    → StateAt image notes b.func f place s

-- the instruction leads to these states
pub record LeadsToStates (notes : Notes) (b : Before) (x : Successors) : Type 0 where
  pub here : Here
  pub insn : Insn
  pub next : ℕ
  pub state : State
  pub here_is : b.here ≡ Some here
  pub insn_is : b.insn ≡ Some (insn, next)
  pub state_is : b.state ≡ Some state
  pub row : row_of notes here state insn ≡ Ok x

-- where an instruction meets its rule, what it leads to is told
abbrev pub HasSuccessors : Notes → Before → Option Successors → Type 0
HasSuccessors notes b leads = (here : Here) (i : Insn) (next : ℕ) (s : State) (x : Successors) → b.here ≡ Some here
    → b.insn ≡ Some (i, next) → b.state ≡ Some s → WellFormed i → row_of notes here s i ≡ Ok x → leads ≡ Some x

-- a function of an image under notes, of which the rule `function` holds
pub record IsWalkedFunction (image : Image) (notes : Notes) (func : ℕ) (f : FnNote) : Type 0 where
  pub sound : IsImage image
  pub read : IsNotes notes
  pub there : slice_get notes.function func ≡ Some f
  pub holds : IsFunction image notes func f
  pub end : f.end ≤ 2 ^ 22

-- the walk through a function has come to a place, with what arrives there
pub record StandsBefore (image : Image) (notes : Notes) (func : ℕ) (f : FnNote) (b : Before) : Type 0 where
  pub insn : IsBeforeInsn image func f b.place b
  pub whole : IsWholeOf image notes func f b.place b
  pub comes : ComesTo image notes func f b.place b.arrived
  pub state : Arrives notes b.place b.arrived b.state

-- the walk goes on from an instruction that meets its rules: to the next one, if the function has it
abbrev pub GoesToNext : Image → Notes → ℕ → FnNote → ℕ → Option Before → Type 0
GoesToNext image notes func f place (Some next) = (m : MeetsRules image notes func f place) → next.place ≡ m.next
GoesToNext image notes func f place None = (m : MeetsRules image notes func f place) → f.end ≤ m.next
