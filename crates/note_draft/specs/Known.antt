-- Meaning: which names notes give, and the first name in notes that isn't one of them. docs/NOTES.md says what names what.
use Rattle.std.specs.Prelude.{ℕ, List, codes, Option, Some, None, Result, Bool, true, not}
use Rattle.std.specs.List.{list_all, position}
use Rattle.note_types.specs.declared.fault.TomlFault.{TomlFault}
use Rattle.note_types.specs.declared.fault.TomlFault.TheVariants.{Name}
use Rattle.ebc_base.specs.Steps.{◌>>=◌, passes}
use Rattle.note_texts.specs.declared.cell.CellText.{CellText}
use Rattle.note_texts.specs.declared.cell.CellText.TheVariants as cell
use Rattle.note_texts.specs.declared.slot.ItemText.{ItemText}
use Rattle.note_texts.specs.declared.slot.ItemText.TheVariants.{Slot, Locals}
use Rattle.note_texts.specs.declared.ty.TypeText.{TypeText}
use Rattle.note_texts.specs.declared.ty.TypeText.TheVariants as ty
use Rattle.note_texts.specs.declared.want.WantText.{WantText}
use Rattle.note_texts.specs.declared.want.WantText.TheVariants as want
use Rattle.note_draft.specs.declared.draft.FunctionDraft.{FunctionDraft}
use Rattle.note_draft.specs.declared.draft.NotesDraft.{NotesDraft}
use Rattle.note_draft.specs.declared.draft.PointDraft.{PointDraft}
use Rattle.note_draft.specs.declared.draft.ShapeDraft.{ShapeDraft}
use Rattle.note_draft.specs.declared.draft.SignatureDraft.{SignatureDraft}
use Rattle.note_draft.specs.declared.finding.Finding.{Finding}
use Rattle.note_draft.specs.declared.finding.Key.TheVariants as key
use Rattle.note_draft.specs.declared.finding.Refusal.TheVariants as refusals
use Rattle.note_draft.specs.declared.finding.TableList.TheVariants as list
use Rattle.note_draft.specs.declared.tables.NameTables.{NameTables}
use Rattle.note_draft.specs.Findings.{at, refused, sooner, ◌otherwise◌}
use Rattle.ebc_base.specs.Tables.{is_named}

-- ---- the names in a text

-- whether the shape or method that a cell names is there
abbrev pub knows_cell : NameTables → CellText → Bool
knows_cell t (cell.Ptr s k null) = is_named s t.shape
knows_cell t (cell.P64 s k null) = is_named s t.shape
knows_cell t (cell.Method m) = is_named m t.method
knows_cell t _ = true

-- the same of a type; the fields that it names are another matter
abbrev pub knows_type : NameTables → TypeText → Bool
knows_type t (ty.Ptr s k n c null) = is_named s t.shape
knows_type t (ty.Lent cell) = knows_cell t cell
knows_type t (ty.Method m) = is_named m t.method
knows_type t _ = true

-- the same of what a native method takes
abbrev pub knows_want : NameTables → WantText → Bool
knows_want t (want.Out cell) = knows_cell t cell
knows_want t (want.Inout cell) = knows_cell t cell
knows_want t _ = true

-- the same of an item of the stack
abbrev pub knows_item : NameTables → ItemText → Bool
knows_item t (Slot kind ty) = knows_type t ty
knows_item t Locals = true

-- the same of the result of a native method, which may have none
abbrev pub knows_result : NameTables → Option TypeText → Bool
knows_result t None = true
knows_result t (Some ty) = knows_type t ty

-- the shape of a function's locals is there, if it has any
abbrev pub knows_locals : NameTables → Option (List ℕ) → Bool
knows_locals t None = true
knows_locals t (Some name) = is_named name t.shape

-- ---- the names in a table

abbrev pub knows_fields : NameTables → ShapeDraft → Bool
knows_fields t s = list_all (λ f. knows_cell t f.cell) s.fields

abbrev pub knows_params : NameTables → FunctionDraft → Bool
knows_params t f = list_all (λ p. knows_type t p.ty) f.params

abbrev pub knows_regs : NameTables → PointDraft → Bool
knows_regs t p = list_all (λ r. knows_type t r.ty) p.regs

abbrev pub knows_stack : NameTables → PointDraft → Bool
knows_stack t p = list_all (knows_item t) p.stack

abbrev pub knows_wants : NameTables → SignatureDraft → Bool
knows_wants t s = list_all (λ p. knows_want t p.want) s.params

-- ---- the first name that isn't there

abbrev pub unknown_in_shapes : NameTables → NotesDraft → Option Finding
unknown_in_shapes t d = at list.Shape key.Fields (position (λ s. not (knows_fields t s)) d.shape)

abbrev pub unknown_in_statics : NameTables → NotesDraft → Option Finding
unknown_in_statics t d = at list.Static key.Shape (position (λ o. not (is_named o.shape t.shape)) d.statics)

abbrev pub unknown_in_thunks : NameTables → NotesDraft → Option Finding
unknown_in_thunks t d = at list.Thunk key.Function (position (λ o. not (is_named o.function t.function)) d.thunk)

abbrev pub unknown_in_functions : NameTables → NotesDraft → Option Finding
unknown_in_functions t d =
    sooner (at list.Function key.Locals (position (λ f. not (knows_locals t f.locals)) d.function))
    (sooner (at list.Function key.Params (position (λ f. not (knows_params t f)) d.function))
    (at list.Function key.Result (position (λ f. not (knows_type t f.result)) d.function)))

abbrev pub unknown_in_points : NameTables → NotesDraft → Option Finding
unknown_in_points t d =
    sooner (at list.Point key.Regs (position (λ p. not (knows_regs t p)) d.point))
    (at list.Point key.Stack (position (λ p. not (knows_stack t p)) d.point))

abbrev pub unknown_in_signatures : NameTables → NotesDraft → Option Finding
unknown_in_signatures t d =
    sooner (at list.Signature key.Params (position (λ s. not (knows_wants t s)) d.signature))
    (at list.Signature key.Result (position (λ s. not (knows_result t s.result.ty)) d.signature))

abbrev pub unknown_in_sites : NameTables → NotesDraft → Option Finding
unknown_in_sites t d = at list.Site key.Signature (position (λ s. not (is_named s.signature t.signature)) d.site)

-- the first name in a list of tables that isn't there
unfoldable pub unknown : NameTables → NotesDraft → Option Finding
unknown t d =
    unknown_in_shapes t d otherwise
    unknown_in_statics t d otherwise
    unknown_in_thunks t d otherwise
    unknown_in_functions t d otherwise
    unknown_in_points t d otherwise
    unknown_in_signatures t d otherwise
    unknown_in_sites t d

-- each name that notes use is there: the entry function's first, then those of the tables
unfoldable pub known : NameTables → NotesDraft → Result (Unit {0}) TomlFault
known t d = do
  _ ← passes (is_named d.entry t.function) (Name (codes "entry"))
  refused refusals.Name (unknown t d)
