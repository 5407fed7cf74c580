-- For proofs: cells and types as their texts have them, things of the notes and fields of locals by their names; and the law that
-- what is printed of them is read so. docs/NOTES.md, "Types".
use Rattle.std.specs.Prelude.{◌≡◌, List, Some}
use Rattle.note_types.specs.Known.{IsKnown, local_fields}
use Rattle.note_types.specs.Records.{Each}
use Rattle.note_types.specs.declared.cell.Cell.{Cell}
use Rattle.note_types.specs.declared.cell.Cell.TheVariants as cell
use Rattle.note_types.specs.declared.notes.FnNote.{FnNote}
use Rattle.note_types.specs.declared.notes.Notes.{Notes}
use Rattle.note_types.specs.declared.shape.Field.{Field}
use Rattle.note_types.specs.declared.shape.Shape.{Shape}
use Rattle.note_types.specs.declared.types.Ty.{Ty}
use Rattle.note_types.specs.declared.types.Ty.TheVariants as ty
use Rattle.note_texts.specs.Grammar.{IsName}
use Rattle.note_texts.specs.TypeTexts.{type_of}
use Rattle.note_texts.specs.declared.cell.CellText.{CellText}
use Rattle.note_texts.specs.declared.cell.CellText.TheVariants as cells
use Rattle.note_texts.specs.declared.ty.TypeText.{TypeText}
use Rattle.note_texts.specs.declared.ty.TypeText.TheVariants as types
use Rattle.printed_texts.specs.PrintedTypes.{field_name, field_names, method_name, shape_name, type_text}

-- CELL
unfoldable pub named_cell : Notes → Cell → CellText
named_cell notes cell.I8 = cells.I8
named_cell notes cell.I16 = cells.I16
named_cell notes cell.I32 = cells.I32
named_cell notes cell.I64 = cells.I64
named_cell notes cell.N = cells.N
named_cell notes cell.Stat = cells.Stat
named_cell notes cell.Handle = cells.Handle
named_cell notes cell.Entry = cells.Entry
named_cell notes (cell.Ptr s k null) = cells.Ptr (shape_name notes s) k null
named_cell notes (cell.P64 s k null) = cells.P64 (shape_name notes s) k null
named_cell notes (cell.Method m) = cells.Method (method_name notes m)

-- TYPE, where the locals have these fields
unfoldable pub named_type : Notes → List Field → Ty → TypeText
named_type notes fields ty.Any = types.Any
named_type notes fields (ty.Int lo hi div) = types.Int lo hi div
named_type notes fields (ty.Lin n c) = types.Lin n c
named_type notes fields (ty.Scaled n c hi) = types.Scaled n c hi
named_type notes fields (ty.Ptr s k n c null) = types.Ptr (shape_name notes s) k n c null
named_type notes fields (ty.Local f) = types.Local (field_name fields f)
named_type notes fields (ty.Lent cell) = types.Lent (named_cell notes cell)
named_type notes fields (ty.Status set) = types.Status (field_names fields set)
named_type notes fields (ty.SignedStatus set) = types.SignedStatus (field_names fields set)
named_type notes fields ty.Mask = types.Mask
named_type notes fields ty.Handle = types.Handle
named_type notes fields ty.Entry = types.Entry
named_type notes fields (ty.Method m) = types.Method (method_name notes m)
named_type notes fields (ty.ThunkAt i) = types.ThunkAt i
named_type notes fields (ty.Saved r) = types.Saved r

-- the shapes and methods of notes, and the fields of locals, have names that texts can have
pub record HaveNames (notes : Notes) (locals : List Field) : Type 0 where
  pub shapes : Each (λ (s : Shape). IsName s.name) notes.shape
  pub methods : Each IsName notes.methods
  pub fields : Each (λ (x : Field). IsName x.name) locals

-- what is printed of a type of a function is read as that type, things and fields by their names
abbrev pub PrintedTypesAreRead : Type 0
PrintedTypesAreRead = (notes : Notes) (f : FnNote) → HaveNames notes (local_fields notes f) → (t : Ty) → IsKnown notes f t
    → type_of (type_text notes (local_fields notes f) t) ≡ Some (named_type notes (local_fields notes f) t)
