-- Meaning: typed images: every instruction meets every rule under the notes. docs/RULES.md, "The verdict", has the words.
use Rattle.std.specs.Prelude.{◌≡◌, ℕ, Ok, Some, slice_get}
use Rattle.ebc_insn.specs.declared.Insn.{Insn}
use Rattle.note_types.specs.Notes.{entry_state}
use Rattle.note_types.specs.States.{StateBelow}
use Rattle.note_types.specs.declared.notes.FnNote.{FnNote}
use Rattle.note_types.specs.declared.notes.Notes.{Notes}
use Rattle.note_types.specs.declared.notes.Point.{Point}
use Rattle.note_types.specs.declared.state.State.{State}
use Rattle.pe_image.specs.declared.image.Image.{Image}
use Rattle.rules_image.specs.Images.{EndHolds, FunctionHolds, IsDecoded, PointHolds, RelocationHolds, ShapeHolds, StaticHolds, ThunkHolds}
use Rattle.rules_image.specs.Images.{reloc_at}
use Rattle.rules_flow.specs.declared.successors.Successors.{Successors}
use Rattle.rules_image.specs.Places.{IsPlaceOf}
use Rattle.width_checker.specs.StatesAt.{IsPointAt, StateAt}
use Rattle.width_checker.specs.Rows.{here_at, row_of}

-- ---- shapes, functions, static objects and thunk cells

-- the rules `shape`, `function` and `static` hold of all things of the notes
pub record TablesHold (image : Image) (notes : Notes) : Type 0 where
  pub shapes : (k : ℕ) → ShapeHolds notes k
  pub functions : (k : ℕ) → FunctionHolds image notes k
  pub statics : (k : ℕ) → StaticHolds image notes k
  pub thunks : (k : ℕ) → ThunkHolds image notes k

-- ---- instructions

-- a state that leads to a place is below the state of a point there
abbrev pub IsBelowPoint : Notes → ℕ → State → Type 0
IsBelowPoint notes place s = (p : Point) → IsPointAt notes place p → StateBelow s p.state

-- the rule `below` holds of the entry state, where the instruction is the function's first
abbrev pub EntryBelow : Notes → ℕ → FnNote → ℕ → Type 0
EntryBelow notes func f place = place ≡ f.place → IsBelowPoint notes place (entry_state notes func)

-- it holds of the states to which an instruction leads
pub record LeadsBelow (notes : Notes) (next : ℕ) (x : Successors) : Type 0 where
  pub fall : (s : State) → x.fall ≡ Some s → IsBelowPoint notes next s
  pub jump : (p : ℕ) (s : State) → x.jump ≡ Some (p, s) → IsBelowPoint notes p s

-- it holds at an instruction
pub record BelowHolds (notes : Notes) (func : ℕ) (f : FnNote) (place next : ℕ) (x : Successors) : Type 0 where
  pub entry : EntryBelow notes func f place
  pub leads : LeadsBelow notes next x

-- the instruction at a place of function `func` meets every rule
pub record MeetsRules (image : Image) (notes : Notes) (func : ℕ) (f : FnNote) (place : ℕ) : Type 0 where
  pub insn : Insn
  pub next : ℕ
  pub decode : IsDecoded image f place insn next
  pub state : State
  pub has_state : StateAt image notes func f place state
  pub point : PointHolds notes place next
  pub relocation : RelocationHolds image notes place insn next (reloc_at image next)
  pub successors : Successors
  pub row : row_of notes (here_at image func place next) state insn ≡ Ok successors
  pub below : BelowHolds notes func f place next successors
  pub ends : EndHolds f insn next

-- ---- typed images

-- The image is typed under the notes: the rules of shapes, functions, static objects and thunk cells hold, and the
-- instruction at each place of each function meets its rules.
pub record Typed (image : Image) (notes : Notes) : Type 0 where
  pub tables : TablesHold image notes
  pub code : (k : ℕ) (f : FnNote) → slice_get notes.function k ≡ Some f → (place : ℕ) → IsPlaceOf image f place
      → MeetsRules image notes k f place
