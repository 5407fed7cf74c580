-- For proofs: fields of the objects that native calls hand out: docs/FIRMWARE.md, "Warnings", `unwritten`.
use Rattle.std.specs.Prelude.{ℕ, ◌+ℤ◌, Bool, true, false, not, ◌&&◌, ◌||◌, if◌then◌else◌, nat_eq, List, Option, None, Some}
use Rattle.std.specs.Prelude.{bytes_eq, codes, slice_get}
use Rattle.std.proofs.Math.Bool.{beq}
use Rattle.std.specs.Ordering.{int_eq}
use Rattle.std.specs.List.{list_any}
use Rattle.ebc_insn.specs.declared.Insn.{Insn}
use Rattle.ebc_insn.specs.declared.Insn.TheVariants.{Compare, CompareImm, Arith, Move, MoveSigned, MoveImm, MoveImmNatural, MoveRelative}
use Rattle.ebc_insn.specs.declared.Insn.TheVariants.{Push, Pop, PushNatural, PopNatural}
use Rattle.ebc_insn.specs.declared.Operand.{Operand}
use Rattle.note_types.specs.States.{type_of}
use Rattle.note_types.specs.declared.cell.Cell.{Cell}
use Rattle.note_types.specs.declared.cell.Cell.TheVariants as cell
use Rattle.note_types.specs.declared.notes.FnNote.{FnNote}
use Rattle.note_types.specs.declared.notes.Notes.{Notes}
use Rattle.note_types.specs.declared.notes.Signature.{Signature}
use Rattle.note_types.specs.declared.notes.Want.{Want}
use Rattle.note_types.specs.declared.notes.Want.TheVariants.{Out, Inout}
use Rattle.note_types.specs.declared.notes.WantParam.{WantParam}
use Rattle.note_types.specs.declared.state.State.{State}
use Rattle.note_types.specs.declared.types.Ty.{Ty}
use Rattle.note_types.specs.declared.types.Ty.TheVariants.{Ptr}
use Rattle.rules_base.specs.Operands.{extra_distance, index_distance, nowhere}
use Rattle.rules_base.specs.Places.{place_at}
use Rattle.rules_base.specs.declared.operand.Distance.{Distance}
use Rattle.rules_base.specs.declared.place.Place.{Place}
use Rattle.rules_base.specs.declared.place.Place.TheVariants as place
use Rattle.departures.specs.declared.field.ObjectField.{ObjectField}

-- ---- objects that native calls hand out

-- the cell holds the address of an object of the shape
abbrev pub points_to : ℕ → Cell → Bool
points_to shape (cell.Ptr s k null) = nat_eq s shape
points_to shape (cell.P64 s k null) = nat_eq s shape
points_to shape c = false

-- a method leaves such an address where its argument says
abbrev pub leaves : ℕ → Want → Bool
leaves shape (Out c) = points_to shape c
leaves shape (Inout c) = points_to shape c
leaves shape w = false

abbrev pub is_leaver : ℕ → WantParam → Bool
is_leaver shape p = leaves shape p.want

abbrev pub has_leaver : ℕ → List WantParam → Bool
has_leaver shape params = list_any (is_leaver shape) params

-- its result is such an address
abbrev pub gives : ℕ → Option Ty → Bool
gives shape (Some (Ptr s k n c null)) = nat_eq s shape
gives shape t = false

-- a method that is called so hands out an object of the shape
abbrev pub hands_out : ℕ → Signature → Bool
hands_out shape x = has_leaver shape x.params || gives shape x.result

-- some signature of the notes does
unfoldable pub is_handed_out : Notes → ℕ → Bool
is_handed_out notes shape = list_any (hands_out shape) notes.signature

-- a method is AllocatePool or AllocatePages
abbrev pub is_allocator : Option (List ℕ) → Bool
is_allocator None = false
is_allocator (Some name) = bytes_eq name (codes "AllocatePool") || bytes_eq name (codes "AllocatePages")

-- a method that is called so allocates an object of the shape
abbrev pub allocates : Notes → ℕ → Signature → Bool
allocates notes shape x = hands_out shape x && is_allocator (slice_get notes.methods x.method)

-- some signature of the notes does
unfoldable pub is_allocated : Notes → ℕ → Bool
is_allocated notes shape = list_any (allocates notes shape) notes.signature

-- ---- the fields that an instruction reaches

-- whether a cell of an object is a natural number, where it is no method
abbrev pub natural_cell : Option Place → Option Bool
natural_cell (Some (place.Object cell.N null)) = Some true
natural_cell (Some (place.Object (cell.Method m) null)) = None
natural_cell (Some (place.Object c null)) = Some false
natural_cell p = None

-- where a pointer and a distance reach such a cell, in objects of which shape
abbrev pub field_past : Option Bool → Ty → Distance → Option ObjectField
field_past (Some natural) (Ptr s k n c null) d = Some (record { shape = s; n = n +ℤ d.n; c = c +ℤ d.c; natural = natural })
field_past natural t d = None

-- the field of an object that a register and a distance name
unfoldable pub named_field : Notes → FnNote → State → ℕ → Distance → Option ObjectField
named_field notes f s r d = field_past (natural_cell (place_at notes f s r d)) (type_of s r) d

-- the one that an operand in memory names
abbrev pub operand_field : Notes → FnNote → State → Operand → Distance → Option ObjectField
operand_field notes f s op d = if op.indirect then named_field notes f s op.reg d else None

-- the one that an instruction loads, other than one that it also stores into
abbrev pub loaded_field : Notes → FnNote → State → Insn → Option ObjectField
loaded_field notes f s (Move size bits left right lidx ridx) = operand_field notes f s right (index_distance ridx)
loaded_field notes f s (MoveSigned bits left right lidx extra) = operand_field notes f s right (extra_distance extra)
loaded_field notes f s (Compare op wide left right extra) = operand_field notes f s right (extra_distance extra)
loaded_field notes f s (CompareImm op wide left idx long imm) = operand_field notes f s left (index_distance idx)
loaded_field notes f s (Arith op wide left right extra) = operand_field notes f s right (extra_distance extra)
loaded_field notes f s (Push wide op extra) = operand_field notes f s op (extra_distance extra)
loaded_field notes f s (PushNatural op extra) = operand_field notes f s op (extra_distance extra)
loaded_field notes f s i = None

-- the one that it stores into
abbrev pub stored_field : Notes → FnNote → State → Insn → Option ObjectField
stored_field notes f s (Move size bits left right lidx ridx) = operand_field notes f s left (index_distance lidx)
stored_field notes f s (MoveImm size bits left lidx imm) = operand_field notes f s left (index_distance lidx)
stored_field notes f s (MoveImmNatural bits left lidx idx) = operand_field notes f s left (index_distance lidx)
stored_field notes f s (MoveRelative bits left lidx imm) = operand_field notes f s left (index_distance lidx)
stored_field notes f s (Arith op wide left right extra) = operand_field notes f s left nowhere
stored_field notes f s (Pop wide op extra) = operand_field notes f s op (extra_distance extra)
stored_field notes f s (PopNatural op extra) = operand_field notes f s op (extra_distance extra)
stored_field notes f s i = None

-- its value may be none of its cell, unless an instruction of the image stores into it: a natural number of an object that a native call
-- hands out, which may have 64 bits until it is cut, or anything else of one that is allocated
abbrev pub is_foreign : Notes → Option ObjectField → Bool → Bool
is_foreign notes None cut = false
is_foreign notes (Some x) cut = if x.natural then not cut && is_handed_out notes x.shape else is_allocated notes x.shape

-- two fields are one
abbrev pub is_same_field : ObjectField → ObjectField → Bool
is_same_field x y = nat_eq x.shape y.shape && (int_eq x.n y.n && (int_eq x.c y.c && beq x.natural y.natural))
