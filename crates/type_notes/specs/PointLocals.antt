-- Meaning: the function that a point belongs to, and its locals. docs/NOTES.md says which function that is.
use Rattle.std.specs.Prelude.{ℕ, List, [], Option, Some, None, Bool, false, is_some, slice_get, option_and_then}
use Rattle.note_texts.specs.declared.cell.FieldText.{FieldText}
use Rattle.note_draft.specs.declared.draft.FunctionDraft.{FunctionDraft}
use Rattle.note_draft.specs.declared.draft.NotesDraft.{NotesDraft}
use Rattle.note_draft.specs.declared.draft.ShapeDraft.{ShapeDraft}
use Rattle.note_draft.specs.declared.tables.NameTables.{NameTables}
use Rattle.ebc_base.specs.Tables.{name_number}
use Rattle.type_notes.specs.Owners.{owner_of}

-- What a point may name: whether its function has locals, and their fields.
pub record PointLocals : Type 0 where
  pub has_locals : Bool
  pub fields : List FieldText

-- the fields of a shape, none where there is no such shape
abbrev pub shape_fields : Option ShapeDraft → List FieldText
shape_fields None = []
shape_fields (Some s) = s.fields

-- the fields of the shape of that name, none where no shape is named
unfoldable pub locals_fields : NameTables → NotesDraft → Option (List ℕ) → List FieldText
locals_fields t d None = []
locals_fields t d (Some name) = shape_fields (slice_get d.shape (name_number name t.shape))

-- what the points of a function may name
abbrev pub locals_in : NameTables → NotesDraft → Option FunctionDraft → PointLocals
locals_in t d None = record { has_locals = false; fields = [] }
locals_in t d (Some f) = record { has_locals = is_some f.locals; fields = locals_fields t d f.locals }

-- what the points of the function of that number may name
unfoldable pub locals_of_function : NameTables → NotesDraft → ℕ → PointLocals
locals_of_function t d number = locals_in t d (slice_get d.function number)

-- what a point at a place may name
unfoldable pub point_locals : NameTables → NotesDraft → ℕ → PointLocals
point_locals t d place = locals_in t d (option_and_then (slice_get d.function) (owner_of d.function place))
