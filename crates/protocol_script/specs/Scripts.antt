-- Meaning: the script that a text stands for under notes, or the first fault in it. docs/SCRIPTS.md has it in words.
use Rattle.std.specs.Prelude.{ℕ, List, Result, Ok}
use Rattle.note_types.specs.declared.fault.TomlFault.{TomlFault}
use Rattle.note_types.specs.declared.notes.Notes.{Notes}
use Rattle.note_types.specs.declared.script.Script.{Script}
use Rattle.ebc_base.specs.Steps.{◌>>=◌}
use Rattle.note_texts.specs.Keys.{document}
use Rattle.script_draft.specs.declared.draft.ScriptDraft.{ScriptDraft}
use Rattle.script_draft.specs.Drafts.{draft_of}
use Rattle.script_draft.specs.Once.{once}
use Rattle.protocol_script.specs.Conditions.{conditions}
use Rattle.protocol_script.specs.Resolved.{resolved}

-- the script that a draft stands for, or its first fault: a name that isn't there; then a condition that isn't met
unfoldable pub script_in : Notes → ScriptDraft → Result Script TomlFault
script_in notes d = do
  s ← resolved notes d
  _ ← conditions notes s
  Ok s

-- the script that a text stands for, or its first fault: of the document, of a table and its keys; then a cell twice; then of
-- the draft
unfoldable pub script_of : Notes → List ℕ → Result Script TomlFault
script_of notes text = do
  table ← document text
  d ← draft_of table
  _ ← once d
  script_in notes d
