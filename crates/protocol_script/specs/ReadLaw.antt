-- For proofs: the laws of notes that were read: their names are given, each once, and so printed values are read, with no
-- premise but that a text stands for the notes. docs/SCRIPTS.md, "Texts".
use Rattle.std.specs.Prelude.{◌≡◌, ℕ, List, Some, Ok}
use Rattle.note_types.specs.declared.notes.Notes.{Notes}
use Rattle.note_types.specs.declared.seen.Seen.{Seen}
use Rattle.note_types.specs.declared.value.Value.{Value}
use Rattle.host_model.specs.Scripts.{IsArgument, IsWritten}
use Rattle.script_draft.specs.Printed.{seen_text, value_text}
use Rattle.type_notes.specs.Notes.{notes_of}
use Rattle.protocol_script.specs.PrintedLaw.{HasNames, argument_in, value_in}

-- notes that a text stands for have names that texts can have, each a name of its own
abbrev pub ReadNamesAreGiven : Type 0
ReadNamesAreGiven = (text : List ℕ) (notes : Notes) → notes_of text ≡ Ok notes → HasNames notes

-- under such notes what is printed of a value that scripts can write is read as that value
abbrev pub ReadValuesAreRead : Type 0
ReadValuesAreRead = (text : List ℕ) (notes : Notes) → notes_of text ≡ Ok notes → (v : Value) → IsWritten notes v
    → value_in notes (value_text notes v) ≡ Some v

-- and what is printed of an argument is read as that argument
abbrev pub ReadArgumentsAreRead : Type 0
ReadArgumentsAreRead = (text : List ℕ) (notes : Notes) → notes_of text ≡ Ok notes → (s : Seen) → IsArgument notes s
    → argument_in notes (seen_text notes s) ≡ Some s
