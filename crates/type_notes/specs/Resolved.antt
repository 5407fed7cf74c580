-- Meaning: the notes that a draft stands for: each name of a thing of the notes is the thing's number. docs/NOTES.md says
-- how things are numbered.
use Rattle.std.specs.Prelude.{ℕ, List, [], ◌∷◌, map, Option, Some, None, ◌&&◌, nat_eq, nat_le, if◌then◌else◌}
use Rattle.std.specs.List.{find}
use Rattle.note_texts.specs.declared.cell.CellText.{CellText}
use Rattle.note_texts.specs.declared.cell.CellText.TheVariants as cells
use Rattle.note_texts.specs.declared.cell.FieldText.{FieldText}
use Rattle.note_texts.specs.declared.slot.ItemText.{ItemText}
use Rattle.note_texts.specs.declared.slot.ItemText.TheVariants as items
use Rattle.note_texts.specs.declared.slot.ParamText.{ParamText}
use Rattle.note_texts.specs.declared.slot.RegisterText.{RegisterText}
use Rattle.note_texts.specs.declared.ty.TypeText.{TypeText}
use Rattle.note_texts.specs.declared.ty.TypeText.TheVariants as types
use Rattle.note_texts.specs.declared.want.WantParamText.{WantParamText}
use Rattle.note_texts.specs.declared.want.WantText.{WantText}
use Rattle.note_texts.specs.declared.want.WantText.TheVariants as wants
use Rattle.note_types.specs.declared.cell.Cell.{Cell}
use Rattle.note_types.specs.declared.cell.Cell.TheVariants as cell
use Rattle.note_types.specs.declared.items.Item.{Item}
use Rattle.note_types.specs.declared.items.Item.TheVariants as item
use Rattle.note_types.specs.declared.notes.FnNote.{FnNote}
use Rattle.note_types.specs.declared.notes.Notes.{Notes}
use Rattle.note_types.specs.declared.notes.Param.{Param}
use Rattle.note_types.specs.declared.notes.Point.{Point}
use Rattle.note_types.specs.declared.notes.Signature.{Signature}
use Rattle.note_types.specs.declared.notes.Site.{Site}
use Rattle.note_types.specs.declared.notes.Static.{Static}
use Rattle.note_types.specs.declared.notes.Thunk.{Thunk}
use Rattle.note_types.specs.declared.notes.Want.{Want}
use Rattle.note_types.specs.declared.notes.Want.TheVariants as want
use Rattle.note_types.specs.declared.notes.WantParam.{WantParam}
use Rattle.note_types.specs.declared.shape.Field.{Field}
use Rattle.note_types.specs.declared.shape.Shape.{Shape}
use Rattle.note_types.specs.declared.state.State.{State}
use Rattle.note_types.specs.declared.types.Ty.{Ty}
use Rattle.note_types.specs.declared.types.Ty.TheVariants as ty
use Rattle.note_draft.specs.declared.draft.FunctionDraft.{FunctionDraft}
use Rattle.note_draft.specs.declared.draft.NotesDraft.{NotesDraft}
use Rattle.note_draft.specs.declared.draft.PointDraft.{PointDraft}
use Rattle.note_draft.specs.declared.draft.ShapeDraft.{ShapeDraft}
use Rattle.note_draft.specs.declared.draft.SignatureDraft.{SignatureDraft}
use Rattle.note_draft.specs.declared.draft.SiteDraft.{SiteDraft}
use Rattle.note_draft.specs.declared.draft.StaticDraft.{StaticDraft}
use Rattle.note_draft.specs.declared.draft.ThunkDraft.{ThunkDraft}
use Rattle.note_draft.specs.declared.tables.NameTables.{NameTables}
use Rattle.type_notes.specs.PointLocals.{point_locals}
use Rattle.type_notes.specs.Locals.{field_number, field_set}
use Rattle.ebc_base.specs.Tables.{name_number}

-- ---- texts

unfoldable pub resolved_cell : NameTables → CellText → Cell
resolved_cell t cells.I8 = cell.I8
resolved_cell t cells.I16 = cell.I16
resolved_cell t cells.I32 = cell.I32
resolved_cell t cells.I64 = cell.I64
resolved_cell t cells.N = cell.N
resolved_cell t cells.Stat = cell.Stat
resolved_cell t cells.Handle = cell.Handle
resolved_cell t cells.Entry = cell.Entry
resolved_cell t (cells.Ptr s k null) = cell.Ptr (name_number s t.shape) k null
resolved_cell t (cells.P64 s k null) = cell.P64 (name_number s t.shape) k null
resolved_cell t (cells.Method m) = cell.Method (name_number m t.method)

-- a type, where the locals have these fields
unfoldable pub resolved_type : NameTables → List FieldText → TypeText → Ty
resolved_type t fields types.Any = ty.Any
resolved_type t fields (types.Int lo hi div) = ty.Int lo hi div
resolved_type t fields (types.Lin n c) = ty.Lin n c
resolved_type t fields (types.Scaled n c hi) = ty.Scaled n c hi
resolved_type t fields (types.Ptr s k n c null) = ty.Ptr (name_number s t.shape) k n c null
resolved_type t fields (types.Local f) = ty.Local (field_number fields f)
resolved_type t fields (types.Lent cell) = ty.Lent (resolved_cell t cell)
resolved_type t fields (types.Status gs) = ty.Status (field_set fields gs)
resolved_type t fields (types.SignedStatus gs) = ty.SignedStatus (field_set fields gs)
resolved_type t fields types.Mask = ty.Mask
resolved_type t fields types.Handle = ty.Handle
resolved_type t fields types.Entry = ty.Entry
resolved_type t fields (types.Method m) = ty.Method (name_number m t.method)
resolved_type t fields (types.ThunkAt i) = ty.ThunkAt i
resolved_type t fields (types.Saved i) = ty.Saved i

unfoldable pub resolved_want : NameTables → WantText → Want
resolved_want t wants.Any = want.Any
resolved_want t (wants.Int lo hi) = want.Int lo hi
resolved_want t (wants.Size n c) = want.Size n c
resolved_want t wants.Ptr = want.Ptr
resolved_want t wants.Handle = want.Handle
resolved_want t wants.Status = want.Status
resolved_want t wants.Entry = want.Entry
resolved_want t (wants.Out cell) = want.Out (resolved_cell t cell)
resolved_want t (wants.Inout cell) = want.Inout (resolved_cell t cell)

unfoldable pub resolved_item : NameTables → List FieldText → ItemText → Item
resolved_item t fields (items.Slot kind ty) = item.Slot kind (resolved_type t fields ty)
resolved_item t fields items.Locals = item.Locals

unfoldable pub resolved_field : NameTables → FieldText → Field
resolved_field t f = record { name = f.name; n = f.n; c = f.c; cell = resolved_cell t f.cell }

-- no parameter and no result names a field of locals
unfoldable pub resolved_param : NameTables → ParamText → Param
resolved_param t p = record { kind = p.kind; ty = resolved_type t [] p.ty }

unfoldable pub resolved_want_param : NameTables → WantParamText → WantParam
resolved_want_param t p = record { kind = p.kind; want = resolved_want t p.want }

-- ---- tables

unfoldable pub resolved_shape : NameTables → ShapeDraft → Shape
resolved_shape t s = record { name = s.name; n = s.n; c = s.c; fields = map (resolved_field t) s.fields }

unfoldable pub resolved_static : NameTables → StaticDraft → Static
resolved_static t o = record { place = o.place; shape = name_number o.shape t.shape; count = o.count }

unfoldable pub resolved_thunk : NameTables → ThunkDraft → Thunk
resolved_thunk t o = record { place = o.place; function = name_number o.function t.function }

unfoldable pub resolved_locals : NameTables → Option (List ℕ) → Option ℕ
resolved_locals t None = None
resolved_locals t (Some name) = Some (name_number name t.shape)

unfoldable pub resolved_function : NameTables → FunctionDraft → FnNote
resolved_function t f =
    record {
      name = f.name;
      place = f.place;
      end = f.end;
      level = f.level;
      need = f.need;
      locals = resolved_locals t f.locals;
      params = map (resolved_param t) f.params;
      result = resolved_type t [] f.result;
      enter = f.enter;
    }

unfoldable pub resolved_result : NameTables → Option TypeText → Option Ty
resolved_result t None = None
resolved_result t (Some ty) = Some (resolved_type t [] ty)

unfoldable pub resolved_signature : NameTables → SignatureDraft → Signature
resolved_signature t s =
    record {
      name = s.name;
      method = name_number s.method t.method;
      params = map (resolved_want_param t) s.params;
      result = resolved_result t s.result.ty;
    }

unfoldable pub resolved_site : NameTables → SiteDraft → Site
resolved_site t s = record { place = s.place; signature = name_number s.signature t.signature }

-- ---- points

-- what a register holds that a point leaves out: R1 to R3 what they held at the function's entry, others anything
abbrev pub left_out : ℕ → Ty
left_out r = if nat_le 1 r && nat_le r 3 then ty.Saved r else ty.Any

abbrev pub given_or_left_out : NameTables → List FieldText → ℕ → Option RegisterText → Ty
given_or_left_out t fields r None = left_out r
given_or_left_out t fields r (Some x) = resolved_type t fields x.ty

-- what a register holds at a point
unfoldable pub register_type : NameTables → List FieldText → List RegisterText → ℕ → Ty
register_type t fields regs r = given_or_left_out t fields r (find (λ x. nat_eq x.register r) regs)

-- the state at a point of a function whose locals have these fields
unfoldable pub state_of : NameTables → List FieldText → PointDraft → State
state_of t fields p =
    record {
      regs = ty.Any ∷
          register_type t fields p.regs 1 ∷
          register_type t fields p.regs 2 ∷
          register_type t fields p.regs 3 ∷
          register_type t fields p.regs 4 ∷
          register_type t fields p.regs 5 ∷
          register_type t fields p.regs 6 ∷
          register_type t fields p.regs 7 ∷
          [];
      items = map (resolved_item t fields) p.stack;
      written = field_set fields p.written;
      made = p.made;
      fact = None;
    }

unfoldable pub resolved_point : NameTables → NotesDraft → PointDraft → Point
resolved_point t d p = record { place = p.place; state = state_of t (point_locals t d p.place).fields p }

-- ---- the whole

unfoldable pub resolved : NameTables → NotesDraft → Notes
resolved t d =
    record {
      version = d.version;
      entry = name_number d.entry t.function;
      shape = map (resolved_shape t) d.shape;
      statics = map (resolved_static t) d.statics;
      thunk = map (resolved_thunk t) d.thunk;
      function = map (resolved_function t) d.function;
      point = map (resolved_point t d) d.point;
      signature = map (resolved_signature t) d.signature;
      site = map (resolved_site t) d.site;
      methods = t.method;
    }
