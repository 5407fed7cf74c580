-- Meaning: the notes that a text stands for, or the first fault in it. docs/NOTES.md has it in words.
use Rattle.std.specs.Prelude.{ℕ, List, Result, Ok}
use Rattle.note_types.specs.declared.fault.TomlFault.{TomlFault}
use Rattle.note_types.specs.declared.notes.Notes.{Notes}
use Rattle.note_texts.specs.Keys.{document}
use Rattle.ebc_base.specs.Steps.{◌>>=◌}
use Rattle.note_draft.specs.declared.draft.NotesDraft.{NotesDraft}
use Rattle.note_draft.specs.declared.tables.NameTables.{NameTables}
use Rattle.type_notes.specs.Conditions.{conditions}
use Rattle.note_draft.specs.Drafts.{draft_of}
use Rattle.note_draft.specs.Known.{known}
use Rattle.note_draft.specs.Once.{once}
use Rattle.type_notes.specs.Resolved.{resolved}

-- the names that a draft gives, or its first fault: a name, place or register twice, then a name that isn't there
unfoldable pub known_names : NotesDraft → Result NameTables TomlFault
known_names d = do
  t ← once d
  _ ← known t d
  Ok t

-- the notes that a draft stands for, or its first fault: of its names, then a condition that isn't met
unfoldable pub notes_in : NotesDraft → Result Notes TomlFault
notes_in d = do
  t ← known_names d
  _ ← conditions t d
  Ok (resolved t d)

-- the notes that a text stands for, or its first fault: of the document, of a table and its keys, then of the draft
unfoldable pub notes_of : List ℕ → Result Notes TomlFault
notes_of text = do
  table ← document text
  d ← draft_of table
  notes_in d
