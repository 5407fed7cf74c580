-- Meaning: how a cell is accessed, and what a load gives and a store needs. docs/RULES.md, "Access", has the table.
use Rattle.std.specs.Prelude.{ℕ, Bool, true, false, nat_lt, if◌then◌else◌, Some, None, Ok, Err}
use Rattle.note_types.specs.BelowTests.{is_below}
use Rattle.note_types.specs.Cells.{content_type}
use Rattle.note_types.specs.declared.cell.Cell.{Cell}
use Rattle.note_types.specs.declared.cell.Cell.TheVariants as cell
use Rattle.note_types.specs.declared.cell.SlotKind.{SlotKind}
use Rattle.note_types.specs.declared.cell.SlotKind.TheVariants.{N, Q}
use Rattle.note_types.specs.declared.notes.FnNote.{FnNote}
use Rattle.note_types.specs.declared.notes.Notes.{Notes}
use Rattle.note_types.specs.declared.rule.RuleName.TheVariants as rule
use Rattle.note_types.specs.declared.state.State.{State}
use Rattle.note_types.specs.declared.types.Ty.{Ty}
use Rattle.note_types.specs.declared.types.Ty.TheVariants as ty
use Rattle.rules_base.specs.declared.access.Access.{Access}
use Rattle.rules_base.specs.declared.access.Access.TheVariants.{Byte, Word, Dword, Qword, Form64, Natural, Signed}
use Rattle.rules_base.specs.declared.access.Loaded.{Loaded}
use Rattle.rules_base.specs.declared.access.Target.{Target}
use Rattle.rules_base.specs.declared.operand.Distance.{Distance}
use Rattle.rules_base.specs.declared.place.Place.{Place}
use Rattle.rules_base.specs.declared.place.Place.TheVariants as place
use Rattle.rules_base.specs.Parts.{is_int}
use Rattle.rules_base.specs.Places.{has_field, place_at}
use Rattle.ebc_base.specs.Steps.{or_else, ◌>>=◌}
use Rattle.rules_base.specs.Outcomes.{OrRule}

-- ---- cells

-- the cell may be loaded so
abbrev pub loads : Access → Cell → Bool
loads Byte cell.I8 = true
loads Word cell.I16 = true
loads Dword cell.I32 = true
loads Qword cell.I64 = true
loads Qword (cell.P64 s k null) = true
loads Form64 cell.I64 = true
loads Form64 (cell.P64 s k null) = true
loads Natural cell.N = true
loads Natural cell.Stat = true
loads Natural cell.Handle = true
loads Natural cell.Entry = true
loads Natural (cell.Ptr s k null) = true
loads Natural (cell.Method m) = true
loads Signed cell.Stat = true
loads _ _ = false

-- what a load of a cell gives
abbrev pub loaded_type : Access → Cell → Ty
loaded_type Signed cell.Stat = ty.SignedStatus 0
loaded_type access cell = content_type cell

-- the cell may be stored to so: as it may be loaded, but no method is, and nothing is by MOVsn
abbrev pub stores : Access → Cell → Bool
stores Signed cell = false
stores access (cell.Method m) = false
stores access cell = loads access cell

-- what a store to a cell needs of a value: a cell of plain bytes takes each number, and the others what is below their
-- content
abbrev pub takes : Cell → Ty → Bool
takes cell.I8 t = is_int t
takes cell.I16 t = is_int t
takes cell.I32 t = is_int t
takes cell.I64 t = is_int t
takes cell t = is_below t (content_type cell)

-- ---- loads

-- what a load gives that fails by no rule
abbrev pub known : Ty → OrRule Loaded
known t = Ok (record { ty = t; made = true })

-- a load of a cell of an object
abbrev pub object_load : Access → Cell → Bool → OrRule Loaded
object_load access cell null = if loads access cell then (if null then Err rule.Null else known (loaded_type access cell))
    else Err rule.Address

-- a load of a local field, under the fields that are written
abbrev pub local_load : Access → Cell → Bool → OrRule Loaded
local_load access cell written = if loads access cell then (if written then known (loaded_type access cell) else Err rule.Unwritten)
    else Err rule.Address

-- a load of a parameter
abbrev pub parameter_load : Access → SlotKind → Ty → OrRule Loaded
parameter_load Natural N t = known t
parameter_load Qword Q t = known t
parameter_load Signed N (ty.Status g) = known (ty.SignedStatus 0)
parameter_load Signed Q (ty.Status g) = known (ty.SignedStatus 0)
parameter_load _ _ _ = Err rule.Address

-- a load of a thunk cell gives its thunk, made or not; the rule `thunk` fails where it isn't
abbrev pub thunk_load : Access → Bool → OrRule Loaded
thunk_load Natural made = Ok (record { ty = ty.Entry; made = made })
thunk_load _ made = Err rule.Address

-- a load of a place
abbrev pub load_place : State → Access → Place → OrRule Loaded
load_place s access (place.Object cell null) = object_load access cell null
load_place s access (place.Local x cell) = local_load access cell (has_field s.written x)
load_place s access (place.Parameter kind t) = parameter_load access kind t
load_place s access (place.ThunkCell i) = thunk_load access (nat_lt i s.made)

-- a load at a register and a distance
unfoldable pub load_at : Notes → FnNote → State → Access → ℕ → Distance → OrRule Loaded
load_at notes f s access r d = or_else rule.Address (place_at notes f s r d) >>= load_place s access

-- ---- stores

-- the cell that a store writes, and the local field that it is
abbrev pub object_target : Access → Cell → Bool → OrRule Target
object_target access cell null = if stores access cell then (if null then Err rule.Null else Ok (record { cell = cell; field = None }))
    else Err rule.Address

abbrev pub local_target : Access → ℕ → Cell → OrRule Target
local_target access x cell = if stores access cell then Ok (record { cell = cell; field = Some x }) else Err rule.Address

abbrev pub target_place : Access → Place → OrRule Target
target_place access (place.Object cell null) = object_target access cell null
target_place access (place.Local x cell) = local_target access x cell
target_place access (place.Parameter kind t) = Err rule.Address
target_place access (place.ThunkCell i) = Err rule.Address

-- what a store at a register and a distance writes
unfoldable pub target_at : Notes → FnNote → State → Access → ℕ → Distance → OrRule Target
target_at notes f s access r d = or_else rule.Address (place_at notes f s r d) >>= target_place access
