-- For proofs: the law of printed values: what reports print of a value that scripts can write is read as that value, and so
-- it is with arguments. docs/SCRIPTS.md, "Texts".
use Rattle.std.specs.Prelude.{◌≡◌, ℕ, List, Option, Some, option_and_then, slice_get}
use Rattle.note_texts.specs.Grammar.{IsName}
use Rattle.note_types.specs.Records.{Each, IsNotes}
use Rattle.note_types.specs.declared.notes.FnNote.{FnNote}
use Rattle.note_types.specs.declared.notes.Notes.{Notes}
use Rattle.note_types.specs.declared.seen.Seen.{Seen}
use Rattle.note_types.specs.declared.value.Value.{Value}
use Rattle.host_model.specs.Scripts.{IsArgument, IsWritten}
use Rattle.script_draft.specs.Printed.{seen_text, value_text}
use Rattle.script_draft.specs.ValueTexts.{argument_of, value_of}
use Rattle.protocol_script.specs.Resolved.{resolved_argument, resolved_value}

-- The functions and the methods of notes have names that texts can have, each a name of its own.
pub record HasNames (notes : Notes) : Type 0 where
  pub functions : Each (λ (f : FnNote). IsName f.name) notes.function
  pub methods : Each IsName notes.methods
  pub functions_once : (j k : ℕ) (f g : FnNote) → slice_get notes.function j ≡ Some f → slice_get notes.function k ≡ Some g
      → f.name ≡ g.name → j ≡ k
  pub methods_once : (j k : ℕ) (m n : List ℕ) → slice_get notes.methods j ≡ Some m → slice_get notes.methods k ≡ Some n → m ≡ n → j ≡ k

-- the value, the argument that a text stands for under notes
abbrev pub value_in : Notes → List ℕ → Option Value
value_in notes text = option_and_then (resolved_value notes) (value_of text)

abbrev pub argument_in : Notes → List ℕ → Option Seen
argument_in notes text = option_and_then (resolved_argument notes) (argument_of text)

abbrev pub PrintedValuesAreRead : Type 0
PrintedValuesAreRead = (notes : Notes) → IsNotes notes → HasNames notes → (v : Value) → IsWritten notes v
    → value_in notes (value_text notes v) ≡ Some v

abbrev pub PrintedArgumentsAreRead : Type 0
PrintedArgumentsAreRead = (notes : Notes) → IsNotes notes → HasNames notes → (s : Seen) → IsArgument notes s
    → argument_in notes (seen_text notes s) ≡ Some s
