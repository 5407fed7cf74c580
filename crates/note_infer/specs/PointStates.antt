-- For proofs: what every state that is found meets: it is a state of its function, as the conditions on a point ask.
use Rattle.std.specs.Prelude.{◌≡◌, ℕ, List, Some, slice_get}
use Rattle.std.specs.List.{Contains}
use Rattle.note_types.specs.Known.{IsState}
use Rattle.note_types.specs.declared.notes.FnNote.{FnNote}
use Rattle.note_types.specs.declared.notes.Notes.{Notes}
use Rattle.note_types.specs.declared.state.State.{State}
use Rattle.rules_laws.specs.Fields.{HasFields}
use Rattle.note_infer.specs.Rounds.{IsWithin, States}

-- a state that may stand at a point of the function, but for its fact
pub record IsFound (notes : Notes) (f : FnNote) (s : State) : Type 0 where
  pub state : IsState notes f s
  pub fields : HasFields notes f s

-- the state of each leader of a function is such a state
abbrev pub AreFound : Notes → List ℕ → States → Type 0
AreFound notes leaders states =
    (k : ℕ) (f : FnNote) → slice_get notes.function k ≡ Some f → (leader : ℕ) (s : State) → Contains leaders leader → IsWithin f leader
    → states leader ≡ Some s → IsFound notes f s
