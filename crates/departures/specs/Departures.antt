-- For proofs: where EDK2's interpreter departs from the machine at an instruction, by the state that the rules give before it.
-- docs/FIRMWARE.md, "Warnings", has the words.
use Rattle.std.specs.Prelude.{ℕ, ◌-◌, ◌^◌, ℤ, pos, negsuc, ◌+ℤ◌, ◌*ℤ◌, int_le, int_lt, Bool, true, false, not, ◌&&◌, ◌||◌}
use Rattle.std.specs.Prelude.{nat_eq, nat_le, Option, Some, Ok, Err}
use Rattle.ebc_insn.specs.declared.ArithOp.{ArithOp}
use Rattle.ebc_insn.specs.declared.ArithOp.TheVariants.{Div, Mod, Shl, Shr, Ashr, Extb, Extw, Extd}
use Rattle.ebc_insn.specs.declared.CmpOp.{CmpOp}
use Rattle.ebc_insn.specs.declared.CmpOp.TheVariants.{Ulte, Ugte}
use Rattle.ebc_insn.specs.declared.Extra.TheVariants.{Nothing, Imm}
use Rattle.ebc_insn.specs.declared.Insn.{Insn}
use Rattle.ebc_insn.specs.declared.Insn.TheVariants.{Break, Ret, Compare, CompareImm, Arith, Move, Push, PopNatural}
use Rattle.ebc_insn.specs.declared.Size.TheVariants.{Dword, Qword, Natural}
use Rattle.machine_alu.specs.Alu.{bits_of}
use Rattle.note_types.specs.BelowTests.{divides, is_any}
use Rattle.note_types.specs.declared.notes.FnNote.{FnNote}
use Rattle.note_types.specs.declared.notes.Notes.{Notes}
use Rattle.note_types.specs.declared.state.State.{State}
use Rattle.note_types.specs.declared.types.Ty.{Ty}
use Rattle.note_types.specs.declared.types.Ty.TheVariants.{Int, Lin}
use Rattle.rules_base.specs.declared.access.Loaded.{Loaded}
use Rattle.rules_base.specs.Outcomes.{OrRule}
use Rattle.rules_base.specs.Values.{form_access, operand_value}
use Rattle.rules_data.specs.Arithmetic.{is_unary}
use Rattle.departures.specs.Calls.{calls_far, calls_function, calls_native, is_many_apart, is_odd}
use Rattle.departures.specs.Fields.{is_foreign, loaded_field}
use Rattle.departures.specs.Narrow.{is_unnarrowed, reads_left}
use Rattle.departures.specs.Operands.{is_r7, is_register_itself}
use Rattle.departures.specs.declared.departure.Around.{Around}
use Rattle.departures.specs.declared.kind.Kind.{Kind}
use Rattle.departures.specs.declared.kind.Kind.TheVariants as kinds

-- ---- what a value may be

-- the low so many bits of a number of the type may be x
abbrev pub type_may_be : ℕ → ℕ → Ty → Bool
type_may_be bits x (Int lo hi div) = nat_le (2 ^ bits) hi || (nat_le lo x && (nat_le x hi && divides div x))
type_may_be bits x t = true

-- n natural units and c bytes, of 4 bytes a unit or of 8, may be so many bytes or more, or fewer than none
abbrev pub units_may_reach : ℕ → ℤ → ℤ → Bool
units_may_reach x n c = int_lt (n *ℤ pos 4 +ℤ c) (pos 0) || int_le (pos x) (n *ℤ pos 8 +ℤ c)

-- a number of the type may be so large, or larger
abbrev pub type_may_reach : ℕ → Ty → Bool
type_may_reach x (Int lo hi div) = nat_le x hi
type_may_reach x (Lin n c) = units_may_reach x n c
type_may_reach x t = true

-- the same of an operand's value
abbrev pub may_be : ℕ → ℕ → OrRule Loaded → Bool
may_be bits x (Ok value) = type_may_be bits x value.ty
may_be bits x (Err rule) = true

abbrev pub may_reach : ℕ → OrRule Loaded → Bool
may_reach x (Ok value) = type_may_reach x value.ty
may_reach x (Err rule) = true

-- ---- the departures

-- a signed division; firmware does MOD32 in 64 bits
abbrev pub divides_signed : ArithOp → Bool → Bool
divides_signed Div wide = true
divides_signed Mod wide = wide
divides_signed _ wide = false

-- a shift
abbrev pub shifts : ArithOp → Bool
shifts Shl = true
shifts Shr = true
shifts Ashr = true
shifts _ = false

-- an unsigned comparison
abbrev pub compares_unsigned : CmpOp → Bool
compares_unsigned Ulte = true
compares_unsigned Ugte = true
compares_unsigned _ = false

abbrev pub is_negative : ℤ → Bool
is_negative (pos n) = false
is_negative (negsuc n) = true

-- POPn with an immediate
abbrev pub pops_sum : Insn → Bool
pops_sum (PopNatural op (Imm v)) = true
pops_sum i = false

-- a signed division whose dividend may be the smallest number of the form, and whose divisor may be -1
abbrev pub divides_smallest : Notes → FnNote → State → Insn → Bool
divides_smallest notes f s (Arith op wide left right extra) =
    divides_signed op wide && (may_be (bits_of wide) (2 ^ (bits_of wide - 1)) (operand_value notes f s (form_access wide) left Nothing)
    && may_be (bits_of wide) (2 ^ bits_of wide - 1) (operand_value notes f s (form_access wide) right extra))
divides_smallest notes f s i = false

-- a shift by a count that may be as many bits as the form has, or more
abbrev pub shifts_past : Notes → FnNote → State → Insn → Bool
shifts_past notes f s (Arith op wide left right extra) =
    shifts op && may_reach (bits_of wide) (operand_value notes f s (form_access wide) right extra)
shifts_past notes f s i = false

-- CMPI64 by an unsigned comparison with a negative immediate
abbrev pub compares_negative : Insn → Bool
compares_negative (CompareImm op true left idx long imm) = compares_unsigned op && is_negative imm
compares_negative i = false

-- an operation that looks at all bits of operand 2
abbrev pub takes_all : ArithOp → Bool
takes_all Extb = false
takes_all Extw = false
takes_all Extd = false
takes_all _ = true

-- all 64 bits of R7 are read: by an instruction, or by the caller, to which RET gives a result where the function is called
abbrev pub reads_r7 : FnNote → Bool → Insn → Bool
reads_r7 f called (Compare op true left right extra) = nat_eq left 7 || is_r7 right
reads_r7 f called (CompareImm op true left idx long imm) = is_r7 left
reads_r7 f called (Arith op true left right extra) = (is_r7 right && takes_all op) || (is_r7 left && not (is_unary op))
reads_r7 f called (Move Qword bits left right lidx ridx) = is_r7 right
reads_r7 f called (Push true op extra) = is_r7 op
reads_r7 f called Ret = called && not (is_any f.result)
reads_r7 f called i = false

-- what may lie above a number of one, two or four bytes is read: of R7 behind a native call, or of a parameter
abbrev pub reads_narrow : Notes → FnNote → State → Around → Insn → Bool
reads_narrow notes f s around i = reads_left around.uncut f around.called i || is_unnarrowed notes f s around.behind i

-- an instruction moves the low 32 bits of a register to itself
abbrev pub cuts : ℕ → Insn → Bool
cuts r (Move Dword bits left right lidx ridx) = is_register_itself r left && is_register_itself r right
cuts r i = false

-- a move of natural size to a register is cut by the instruction behind it
abbrev pub is_cut_behind : Option (Insn × ℕ) → Insn → Bool
is_cut_behind (Some (behind, after)) (Move Natural bits left right lidx ridx) = not left.indirect && cuts left.reg behind
is_cut_behind behind i = false

-- BREAK of another code than 5
abbrev pub breaks : Insn → Bool
breaks (Break code) = not (nat_eq code 5)
breaks i = false

-- ---- all of them

-- the interpreter departs so at an instruction at a place of a function, in a state, with what is around it
unfoldable pub departs : Kind → Notes → FnNote → ℕ → State → Around → Insn → Bool
departs kinds.Status notes f place s around i = around.uncut.natural && reads_r7 f around.called i
departs kinds.Narrow notes f place s around i = reads_narrow notes f s around i
departs kinds.Popn notes f place s around i = pops_sum i
departs kinds.Divide notes f place s around i = divides_smallest notes f s i
departs kinds.Shift notes f place s around i = shifts_past notes f s i
departs kinds.Compare notes f place s around i = compares_negative i
departs kinds.Break notes f place s around i = breaks i
departs kinds.Unwritten notes f place s around i =
    not around.stored && is_foreign notes (loaded_field notes f s i) (is_cut_behind around.behind i)
departs kinds.Far notes f place s around i = calls_far i
departs kinds.Odd notes f place s around i = calls_function i && is_odd notes f s
departs kinds.Frame notes f place s around i = calls_native i && is_many_apart notes f place s
departs kinds.String notes f place s around i = calls_native i && around.unended
