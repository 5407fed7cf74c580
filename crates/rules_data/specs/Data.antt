-- Meaning: the rows of the instructions on data, and the state after one. docs/RULES.md, "Data", has the tables.
use Rattle.std.specs.Prelude.{ℕ, Bool, is_none, nat_eq, if◌then◌else◌, Option, Some, None, slice_get, Ok, Err, ℤ}
use Rattle.natural_index.specs.declared.Index.{Index}
use Rattle.ebc_insn.specs.declared.ArithOp.{ArithOp}
use Rattle.ebc_insn.specs.declared.CmpOp.{CmpOp}
use Rattle.ebc_insn.specs.declared.Extra.{Extra}
use Rattle.ebc_insn.specs.declared.Insn.{Insn}
use Rattle.ebc_insn.specs.declared.Insn.TheVariants.{Compare, CompareImm, Arith, Move, MoveSigned, MoveImm, MoveImmNatural, MoveRelative}
use Rattle.ebc_insn.specs.declared.Insn.TheVariants.{StoreSpecial}
use Rattle.ebc_insn.specs.declared.Operand.{Operand}
use Rattle.ebc_insn.specs.declared.Size.{Size}
use Rattle.ebc_insn.specs.declared.Size.TheVariants as size
use Rattle.note_types.specs.States.{type_of}
use Rattle.note_types.specs.declared.notes.FnNote.{FnNote}
use Rattle.note_types.specs.declared.notes.Notes.{Notes}
use Rattle.note_types.specs.declared.rule.RuleName.TheVariants as rule
use Rattle.note_types.specs.declared.state.Fact.{Fact}
use Rattle.note_types.specs.declared.state.State.{State}
use Rattle.note_types.specs.declared.types.Ty.{Ty}
use Rattle.note_types.specs.declared.types.Ty.TheVariants as ty
use Rattle.rules_base.specs.declared.access.Access.{Access}
use Rattle.rules_base.specs.declared.access.Access.TheVariants as access
use Rattle.rules_base.specs.declared.access.Loaded.{Loaded}
use Rattle.rules_base.specs.declared.destination.Destination.{Destination}
use Rattle.rules_base.specs.declared.here.Here.{Here}
use Rattle.rules_base.specs.declared.operand.Distance.{Distance}
use Rattle.rules_base.specs.declared.place.Place.{Place}
use Rattle.rules_base.specs.declared.place.Place.TheVariants as place
use Rattle.rules_base.specs.Access.{known, load_at}
use Rattle.rules_base.specs.Change.{changed}
use Rattle.rules_base.specs.Destinations.{destination, put}
use Rattle.rules_base.specs.Kept.{kept, kept_signed}
use Rattle.rules_base.specs.Operands.{counted, index_distance, nowhere, with_immediate, with_index}
use Rattle.rules_base.specs.Outcomes.{also, beside, gives_map, needs, OrRule}
use Rattle.rules_base.specs.Parts.{constant}
use Rattle.rules_base.specs.Places.{place_at}
use Rattle.rules_base.specs.Values.{form_access, operand_value, register_type}
use Rattle.rules_base.specs.declared.change.Change.{Change}
use Rattle.rules_base.specs.declared.change.Change.TheVariants as change
use Rattle.rules_data.specs.declared.rows.Held.{Held}
use Rattle.rules_data.specs.Arithmetic.{computed_type, divisor_known}
use Rattle.rules_data.specs.Compares.{compares}
use Rattle.rules_data.specs.Moves.{immediate, immediate_index, relative}
use Rattle.ebc_base.specs.Steps.{or_else, ◌>>=◌}
use Rattle.ebc_width.specs.Width.{wrap64}

-- ---- arithmetic

-- the value of operand 1: a register other than R0, or what the memory there holds
abbrev pub left_value : Notes → FnNote → State → Access → Operand → Distance → OrRule Ty
left_value notes f s access op d =
    if op.indirect then gives_map (λ l. l.ty) (load_at notes f s access op.reg d) else register_type s op.reg

-- operand 1: its value, and where the result goes
abbrev pub held : Ty × Destination → Held
held p = record { ty = p.0; to = p.1 }

unfoldable pub left_operand : Notes → FnNote → State → Access → Operand → OrRule Held
left_operand notes f s access op =
    gives_map held (beside (left_value notes f s access op nowhere) (destination notes f s access op nowhere))

-- NOT to EXTNDD
unfoldable pub arith_row : Notes → FnNote → State → ArithOp → Bool → Operand → Operand → Extra → OrRule Change
arith_row notes f s op wide left right extra = do
  p ← beside (left_operand notes f s (form_access wide) left) (operand_value notes f s (form_access wide) right extra)
  also (put p.0.to (computed_type notes.shape op wide p.0.ty p.1.ty)) (needs rule.Divide (divisor_known op p.1.ty))

-- ---- comparisons

-- the flag, where the types may be compared
abbrev pub flag : Option Fact → Bool → OrRule Change
flag fact holds = if holds then Ok (change.Compared fact) else Err rule.Compare

-- CMP
unfoldable pub compare_row : Notes → FnNote → State → CmpOp → Bool → ℕ → Operand → Extra → OrRule Change
compare_row notes f s op wide left right extra = do
  p ← beside (register_type s left) (operand_value notes f s (form_access wide) right extra)
  flag None (compares op wide p.0 p.1.ty)

-- what CMPI says of a register in 64 bits
abbrev pub fact_of : CmpOp → Bool → Operand → ℤ → Option Fact
fact_of op wide left imm =
    if wide then (if left.indirect then None else Some (record { reg = left.reg; op = op; k = wrap64 imm })) else None

-- CMPI
unfoldable pub compare_imm_row : Notes → FnNote → State → CmpOp → Bool → Operand → Option Index → ℤ → OrRule Change
compare_imm_row notes f s op wide left idx imm = do
  t ← left_value notes f s (form_access wide) left (index_distance idx)
  flag (fact_of op wide left imm) (compares op wide t (constant (wrap64 imm)))

-- ---- moves

-- how a move of this size reaches memory
abbrev pub move_access : Size → Access
move_access size.Byte = access.Byte
move_access size.Word = access.Word
move_access size.Dword = access.Dword
move_access size.Qword = access.Qword
move_access size.Natural = access.Natural

-- the address of what lies at a place of the stack
abbrev pub address_type : Option Place → Ty
address_type (Some (place.Local x cell)) = ty.Local x
address_type _ = ty.Any

-- MOVq takes the address of a local field from R0; no other move reads R0
abbrev pub frame_value : Notes → FnNote → State → Size → Distance → OrRule Loaded
frame_value notes f s size.Qword d = known (address_type (place_at notes f s 0 d))
frame_value notes f s _ d = Err rule.Stack

-- the value that a move reads
unfoldable pub move_value : Notes → FnNote → State → Size → Operand → Option Index → OrRule Loaded
move_value notes f s size right ridx =
    if right.indirect then load_at notes f s (move_access size) right.reg (index_distance ridx)
    else if nat_eq right.reg 0 then frame_value notes f s size (index_distance ridx)
    else known (kept size (with_index notes.shape (type_of s right.reg) ridx))

-- MOVb to MOVqq and MOVn
unfoldable pub move_row : Notes → FnNote → State → Size → Operand → Operand → Option Index → Option Index → OrRule Change
move_row notes f s size left right lidx ridx = do
  p ← beside (destination notes f s (move_access size) left (index_distance lidx)) (move_value notes f s size right ridx)
  also (put p.0 p.1.ty) (needs rule.Thunk p.1.made)

-- the value that MOVsn reads
unfoldable pub signed_value : Notes → FnNote → State → Operand → Extra → OrRule Loaded
signed_value notes f s right extra =
    if right.indirect then operand_value notes f s access.Signed right extra
    else if nat_eq right.reg 0 then Err rule.Stack
    else known (kept_signed (with_immediate notes.shape (type_of s right.reg) extra))

-- MOVsn
unfoldable pub move_signed_row : Notes → FnNote → State → Operand → Operand → Option Index → Extra → OrRule Change
move_signed_row notes f s left right lidx extra = do
  p ← beside (destination notes f s access.Signed left (index_distance lidx)) (signed_value notes f s right extra)
  put p.0 p.1.ty

-- MOVI: first whether its relocation is allowed
unfoldable pub move_imm_row : Notes → FnNote → Here → State → Size → ℕ → Operand → Option Index → ℤ → OrRule Change
move_imm_row notes f here s size bits left lidx imm = do
  p ← beside (immediate notes here.reloc size bits left.indirect imm) (destination notes f s (move_access size) left (index_distance lidx))
  put p.1 p.0

-- MOVIn
unfoldable pub move_index_row : Notes → FnNote → State → Operand → Option Index → Distance → OrRule Change
move_index_row notes f s left lidx d = do
  to ← destination notes f s access.Natural left (index_distance lidx)
  put to (immediate_index d)

-- MOVREL, to a register
unfoldable pub move_relative_row : Notes → Here → Operand → ℤ → OrRule Change
move_relative_row notes here left imm =
    if left.indirect then Err rule.Form
    else if nat_eq left.reg 0 then Err rule.Stack
    else Ok (change.Written left.reg (relative notes here.next imm))

-- STORESP: the flags, of which C is all that is ever set, or the address of the next instruction
abbrev pub special_type : ℕ → Ty
special_type special = if nat_eq special 0 then ty.Int 0 1 1 else ty.Any

unfoldable pub store_special_row : ℕ → ℕ → OrRule Change
store_special_row to special = if nat_eq to 0 then Err rule.Stack else Ok (change.Written to (special_type special))

-- ---- all instructions on data

-- the row of an instruction that isn't relocated; those of control and of the stack have none here
abbrev pub plain_row : Notes → FnNote → Here → State → Insn → OrRule Change
plain_row notes f here s (Compare op wide left right extra) = compare_row notes f s op wide left right extra
plain_row notes f here s (CompareImm op wide left idx long imm) = compare_imm_row notes f s op wide left idx imm
plain_row notes f here s (Arith op wide left right extra) = arith_row notes f s op wide left right extra
plain_row notes f here s (Move size bits left right lidx ridx) = move_row notes f s size left right lidx ridx
plain_row notes f here s (MoveSigned bits left right lidx extra) = move_signed_row notes f s left right lidx extra
plain_row notes f here s (MoveImmNatural bits left lidx idx) = move_index_row notes f s left lidx (counted idx)
plain_row notes f here s (MoveRelative bits left lidx imm) = move_relative_row notes here left imm
plain_row notes f here s (StoreSpecial to special) = store_special_row to special
plain_row notes f here s _ = Err rule.Form

-- the row of an instruction: MOVI alone may be relocated
abbrev pub data_row : Notes → FnNote → Here → State → Insn → OrRule Change
data_row notes f here s (MoveImm size bits left lidx imm) = move_imm_row notes f here s size bits left lidx imm
data_row notes f here s i = if is_none here.reloc then plain_row notes f here s i else Err rule.Relocation

-- what an instruction on data changes, or the first rule that fails
unfoldable pub data_change : Notes → Here → State → Insn → OrRule Change
data_change notes here s i = or_else rule.Function (slice_get notes.function here.func) >>= λ f. data_row notes f here s i

-- the state after an instruction on data, or the first rule that fails
unfoldable pub after_data : Notes → Here → State → Insn → OrRule State
after_data notes here s i = gives_map (changed s) (data_change notes here s i)
