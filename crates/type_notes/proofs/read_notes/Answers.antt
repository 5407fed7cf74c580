use Rattle.toml.specs.View.{table_view}
use Rattle.type_notes.proofs.NotesLaws.{gives-notes}
use Rattle.type_notes.proofs.read_notes.Goals as goal

pub returns-clause-conditions : goal.returns-clause-conditions
returns-clause-conditions c =
    gives-notes (table_view c.in_ok-table.table) c.in_ok-draft.draft c.notes_in.result c.in_ok-draft.ensures.draft c.notes_in.ensures
