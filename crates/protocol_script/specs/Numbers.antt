-- Meaning: the numbers of things of the notes by their names. docs/SCRIPTS.md, "What the reader refuses".
use Rattle.std.specs.Prelude.{ℕ, ◌^◌, List, Option, Some, None, bytes_eq, nat_lt, if◌then◌else◌, option_and_then}
use Rattle.std.specs.List.{position}
use Rattle.note_types.specs.declared.notes.FnNote.{FnNote}
use Rattle.note_types.specs.declared.notes.Notes.{Notes}
use Rattle.note_types.specs.declared.notes.Signature.{Signature}
use Rattle.note_types.specs.declared.shape.Field.{Field}
use Rattle.note_types.specs.declared.shape.Shape.{Shape}

-- a number, where it has 32 bits as those of records
abbrev pub narrow : ℕ → Option ℕ
narrow n = if nat_lt n (2 ^ 32) then Some n else None

-- the number of the shape, the function, the signature or the method of that name, where it is there
unfoldable pub shape_number : Notes → List ℕ → Option ℕ
shape_number notes name = option_and_then narrow (position (λ (s : Shape). bytes_eq s.name name) notes.shape)

unfoldable pub function_number : Notes → List ℕ → Option ℕ
function_number notes name = option_and_then narrow (position (λ (f : FnNote). bytes_eq f.name name) notes.function)

unfoldable pub signature_number : Notes → List ℕ → Option ℕ
signature_number notes name = option_and_then narrow (position (λ (s : Signature). bytes_eq s.name name) notes.signature)

unfoldable pub method_number : Notes → List ℕ → Option ℕ
method_number notes name = option_and_then narrow (position (λ (m : List ℕ). bytes_eq m name) notes.methods)

-- the number of the field of that name, of these
unfoldable pub field_number : List Field → List ℕ → Option ℕ
field_number fields name = option_and_then narrow (position (λ (x : Field). bytes_eq x.name name) fields)
