-- For proofs: how a place is told. docs/COMMANDS.md, "Standard error".
use Rattle.std.specs.Prelude.{ℕ, ◌-◌, List, ◌++◌, false, codes, Option, Some, None, length, nat_lt, if◌then◌else◌}
use Rattle.std.specs.FinMap.{get}
use Rattle.std.specs.Fmt.{digits}
use Rattle.std.specs.Result.{result_ok}
use Rattle.ebc_outside.specs.Files.{Files}
use Rattle.file_inputs.specs.Inputs.{notes_limit}
use Rattle.note_types.specs.Records.{function_at}
use Rattle.note_types.specs.declared.notes.FnNote.{FnNote}
use Rattle.note_types.specs.declared.notes.Notes.{Notes}
use Rattle.type_notes.specs.Notes.{notes_of}

-- a number in hexadecimal digits, behind `0x`
unfoldable pub number_text : ℕ → List ℕ
number_text n = codes "0x" ++ digits 16 false n

-- a place of a function, as `main+0x12`, or of none, as `0x1012`
abbrev pub function_place_text : Option FnNote → ℕ → List ℕ
function_place_text (Some f) place = f.name ++ (codes "+" ++ number_text (place - f.place))
function_place_text None place = number_text place

-- a place by the function of the notes that it belongs to, and as a number if no notes are known
abbrev pub noted_place_text : Option Notes → ℕ → List ℕ
noted_place_text (Some notes) place = function_place_text (function_at notes place) place
noted_place_text None place = number_text place

-- the notes that a text stands for, if it has at most 1 MiB
abbrev pub notes_within : Option (List ℕ) → Option Notes
notes_within (Some text) = if nat_lt notes_limit (length text) then None else result_ok (notes_of text)
notes_within None = None

-- the notes that the file of a name stands for
abbrev pub notes_named : Files → List ℕ → Option Notes
notes_named files name = notes_within (get files name)
