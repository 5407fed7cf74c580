-- For proofs: what the rules keep of a state: a state of a function leads only to states of that function. docs/RULES.md,
-- "What the rules keep", has the words.
use Rattle.std.specs.Prelude.{◌≡◌, IfOk, IfSome, Some, slice_get}
use Rattle.note_types.specs.Known.{IsState}
use Rattle.note_types.specs.Records.{IsNotes}
use Rattle.note_types.specs.declared.notes.FnNote.{FnNote}
use Rattle.note_types.specs.declared.notes.Notes.{Notes}
use Rattle.note_types.specs.declared.state.State.{State}
use Rattle.rules_base.specs.declared.here.Here.{Here}
use Rattle.rules_flow.specs.declared.successors.Successors.{Successors}
use Rattle.rules_base.specs.Outcomes.{OrRule}

-- under notes that were read, the state that an instruction of a function leads to from a state of it is one
abbrev pub DataKeeps : Notes → Here → State → OrRule State → Type 0
DataKeeps notes here s result =
    (f : FnNote) → slice_get notes.function here.func ≡ Some f → IsNotes notes → IsState notes f s → IfOk result (IsState notes f)

-- both successors are states of the function
abbrev pub AreStates : Notes → FnNote → Successors → Type 0
AreStates notes f x = IfSome x.fall (IsState notes f) × IfSome x.jump (λ j. IsState notes f j.1)

-- the same of an instruction of control or of the stack
abbrev pub FlowKeeps : Notes → Here → State → OrRule Successors → Type 0
FlowKeeps notes here s result =
    (f : FnNote) → slice_get notes.function here.func ≡ Some f → IsNotes notes → IsState notes f s → IfOk result (AreStates notes f)
