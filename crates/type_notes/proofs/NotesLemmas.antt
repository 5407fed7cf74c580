-- A fault of a name that isn't there is the fault of the names, and one of the conditions is the fault of the notes.
use Rattle.std.proofs.Common.{◌≡◌, Ok, refl}
use Rattle.note_types.specs.declared.fault.NotesEnd.{NotesEnd}
use Rattle.note_types.specs.declared.fault.NotesEnd.TheVariants as ends
use Rattle.note_texts.specs.Outcome.{Fails}
use Rattle.note_draft.specs.declared.draft.NotesDraft.{NotesDraft}
use Rattle.note_draft.specs.declared.tables.NameTables.{NameTables}
use Rattle.type_notes.specs.Conditions.{conditions}
use Rattle.note_draft.specs.Known.{known}
use Rattle.type_notes.specs.Notes.{known_names, notes_in}
use Rattle.note_draft.specs.Once.{once}

pub fails-known : (e : NotesEnd) (d : NotesDraft) (t : NameTables) → once d ≡ Ok t → Fails e (known t d) → Fails e (known_names d)
unfolding known_names
fails-known ends.NoMemory d t named fails = tt
fails-known (ends.Fault f) d t named fails = rw (named, fails) refl

pub fails-conditions : (e : NotesEnd) (d : NotesDraft) (t : NameTables) → known_names d ≡ Ok t → Fails e (conditions t d)
    → Fails e (notes_in d)
unfolding notes_in
fails-conditions ends.NoMemory d t named fails = tt
fails-conditions (ends.Fault f) d t named fails = rw (named, fails) refl
