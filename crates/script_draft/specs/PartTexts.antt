-- Meaning: the texts of what cells hold and get, and of functions that are entered. docs/SCRIPTS.md lists them.
use Rattle.std.specs.Prelude.{ℕ, List, [], Option, Some, None}
use Rattle.note_texts.specs.Numbers.{number_of}
use Rattle.note_texts.specs.Splits.{◌>>=◌, parts_at, split_at}
use Rattle.script_draft.specs.Pieces.{values_of}
use Rattle.script_draft.specs.ValueTexts.{value_of}
use Rattle.script_draft.specs.declared.parts.CallbackText.{CallbackText}
use Rattle.script_draft.specs.declared.parts.CellValueText.{CellValueText}
use Rattle.script_draft.specs.declared.parts.OutText.{OutText}
use Rattle.script_draft.specs.declared.parts.WriteText.{WriteText}
use Rattle.script_draft.specs.declared.value.ValueText.{ValueText}
use Rattle.ebc_base.specs.Names.{name_of}

-- `INSTANCE FIELD VALUE`
unfoldable pub cell_value_of : List ℕ → Option CellValueText
cell_value_of text = do
  first ← split_at 32 text
  second ← split_at 32 first.1
  instance ← number_of first.0
  field ← name_of second.0
  value ← value_of second.1
  Some (record { instance = instance; field = field; value = value })

-- the values of a function's parameters, none where nothing follows its name
abbrev pub values_after : Option (List ℕ) → Option (List ValueText)
values_after None = Some []
values_after (Some text) = values_of text

-- `FUNCTION VALUE, VALUE`
unfoldable pub callback_of : List ℕ → Option CallbackText
callback_of text = do
  function ← name_of (parts_at 32 text).0
  values ← values_after (parts_at 32 text).1
  Some (record { function = function; values = values })

-- `ARGUMENT VALUE`
unfoldable pub out_of : List ℕ → Option OutText
out_of text = do
  parts ← split_at 32 text
  argument ← number_of parts.0
  value ← value_of parts.1
  Some (record { argument = argument; value = value })

-- `OBJECT INSTANCE FIELD VALUE`
unfoldable pub write_of : List ℕ → Option WriteText
write_of text = do
  parts ← split_at 32 text
  object ← number_of parts.0
  cell ← cell_value_of parts.1
  Some (record { object = object; instance = cell.instance; field = cell.field; value = cell.value })
