-- For proofs: what the rules keep of a state besides its types: the written fields are fields of the function's locals, and no
-- more thunks are made than there are. docs/RULES.md, "What the rules keep", has the words.
use Rattle.std.specs.Prelude.{◌≡◌, ◌^◌, ◌<◌, ◌≤◌, IfOk, IfSome, Some, length, slice_get}
use Rattle.ebc_insn.specs.declared.Insn.{Insn}
use Rattle.note_types.specs.Known.{AreFields, IsState}
use Rattle.note_types.specs.Records.{IsNotes}
use Rattle.note_types.specs.declared.notes.FnNote.{FnNote}
use Rattle.note_types.specs.declared.notes.Notes.{Notes}
use Rattle.note_types.specs.declared.state.State.{State}
use Rattle.rules_base.specs.declared.here.Here.{Here}
use Rattle.rules_data.specs.Data.{after_data}
use Rattle.rules_flow.specs.Flow.{after_flow}
use Rattle.rules_flow.specs.declared.successors.Successors.{Successors}

-- the written fields are fields of the function's locals, and no more thunks are made than there are
pub record HasFields (notes : Notes) (f : FnNote) (s : State) : Type 0 where
  pub written : AreFields notes f s.written
  pub set : s.written < 2 ^ 64
  pub made : s.made ≤ length notes.thunk

-- both successors have such fields
abbrev pub HaveFields : Notes → FnNote → Successors → Type 0
HaveFields notes f x = IfSome x.fall (HasFields notes f) × IfSome x.jump (λ j. HasFields notes f j.1)

-- under notes that were read, an instruction on data leads from a state of a function with such fields to one
abbrev pub DataKeepsFields : Type 0
DataKeepsFields =
    (notes : Notes) (here : Here) (s : State) (i : Insn) (f : FnNote) → slice_get notes.function here.func ≡ Some f → IsNotes notes
    → IsState notes f s → HasFields notes f s → IfOk (after_data notes here s i) (HasFields notes f)

-- the same of an instruction of control or of the stack
abbrev pub FlowKeepsFields : Type 0
FlowKeepsFields =
    (notes : Notes) (here : Here) (s : State) (i : Insn) (f : FnNote) → slice_get notes.function here.func ≡ Some f → IsNotes notes
    → IsState notes f s → HasFields notes f s → IfOk (after_flow notes here s i) (HaveFields notes f)
