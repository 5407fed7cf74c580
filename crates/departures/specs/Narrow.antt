-- For proofs: numbers of one, two or four bytes, and what lies above them: docs/FIRMWARE.md, "Warnings", `narrow`.
use Rattle.std.specs.Prelude.{ℕ, Bool, true, false, not, ◌&&◌, ◌||◌, if◌then◌else◌, nat_eq, nat_le, nat_lt, Option, None, Some}
use Rattle.ebc_insn.specs.declared.ArithOp.{ArithOp}
use Rattle.ebc_insn.specs.declared.ArithOp.TheVariants.{Extb, Extw, Extd}
use Rattle.ebc_insn.specs.declared.Insn.{Insn}
use Rattle.ebc_insn.specs.declared.Insn.TheVariants.{Ret, Compare, CompareImm, Arith, Move, MoveSigned, Push, PushNatural}
use Rattle.ebc_insn.specs.declared.Operand.{Operand}
use Rattle.ebc_insn.specs.declared.Size.{Size}
use Rattle.ebc_insn.specs.declared.Size.TheVariants as sizes
use Rattle.note_types.specs.BelowTests.{is_any}
use Rattle.note_types.specs.declared.cell.SlotKind.TheVariants.{N}
use Rattle.note_types.specs.declared.notes.FnNote.{FnNote}
use Rattle.note_types.specs.declared.notes.Notes.{Notes}
use Rattle.note_types.specs.declared.state.State.{State}
use Rattle.note_types.specs.declared.types.Ty.TheVariants.{Int}
use Rattle.rules_base.specs.Operands.{extra_distance, index_distance}
use Rattle.rules_base.specs.Places.{place_at}
use Rattle.rules_base.specs.declared.operand.Distance.{Distance}
use Rattle.rules_base.specs.declared.place.Place.{Place}
use Rattle.rules_base.specs.declared.place.Place.TheVariants as place
use Rattle.rules_data.specs.Arithmetic.{is_unary}
use Rattle.departures.specs.Operands.{is_r7, is_register_itself}
use Rattle.departures.specs.Above.{takes_along}
use Rattle.departures.specs.declared.above.Uncut.{Uncut}
use Rattle.departures.specs.declared.above.Above.{Above}
use Rattle.departures.specs.declared.above.Above.TheVariants as above

-- ---- what instructions read of R7

-- a form of 64 bits, or else of 32, takes bits above a byte, a word or a double word
abbrev pub form_takes : Above → Bool → Bool
form_takes above.Natural wide = wide
form_takes above.Byte wide = true
form_takes above.Word wide = true
form_takes above.Dword wide = wide

-- an operation looks at them in operand 2
abbrev pub operation_takes : Above → ArithOp → Bool → Bool
operation_takes a Extb wide = false
operation_takes a Extw wide = takes_along a sizes.Word
operation_takes a Extd wide = takes_along a sizes.Dword
operation_takes a op wide = form_takes a wide

-- an instruction of a function reads such bits of R7: itself, or by RET its caller, where the function is called
abbrev pub reads_above : Above → FnNote → Bool → Insn → Bool
reads_above a f called (Compare op wide left right extra) = form_takes a wide && (nat_eq left 7 || is_r7 right)
reads_above a f called (CompareImm op wide left idx long imm) = form_takes a wide && is_r7 left
reads_above a f called (Arith op wide left right extra) =
    (is_r7 right && operation_takes a op wide) || (is_r7 left && (not (is_unary op) && form_takes a wide))
reads_above a f called (Move size bits left right lidx ridx) = is_r7 right && (not (is_r7 left) && takes_along a size)
reads_above a f called (MoveSigned bits left right lidx extra) = is_r7 right
reads_above a f called (Push wide op extra) = form_takes a wide && is_r7 op
reads_above a f called (PushNatural op extra) = is_r7 op
reads_above a f called Ret = called && not (is_any f.result)
reads_above a f called i = false

-- it reads bits of R7 that a native call may have left above a number
abbrev pub reads_left : Uncut → FnNote → Bool → Insn → Bool
reads_left u f called i =
    (u.byte && reads_above above.Byte f called i)
    || ((u.word && reads_above above.Word f called i) || (u.dword && reads_above above.Dword f called i))

-- ---- parameters

-- the largest number of a parameter of a natural slot, where it has at most four bytes
abbrev pub narrow_most : Option Place → Option ℕ
narrow_most (Some (place.Parameter N (Int lo hi div))) = if nat_lt hi 4294967296 then Some hi else None
narrow_most p = None

-- the place in memory that an operand names
abbrev pub named : Notes → FnNote → State → Operand → Distance → Option Place
named notes f s op d = if op.indirect then place_at notes f s op.reg d else None

-- the place from which an instruction loads a natural unit
abbrev pub loaded_place : Notes → FnNote → State → Insn → Option Place
loaded_place notes f s (Move sizes.Natural bits left right lidx ridx) = named notes f s right (index_distance ridx)
loaded_place notes f s (PushNatural op extra) = named notes f s op (extra_distance extra)
loaded_place notes f s i = None

-- a move of the size keeps no more than a number up to `most` has bytes
abbrev pub fits_size : ℕ → Size → Bool
fits_size most sizes.Byte = true
fits_size most sizes.Word = nat_le 256 most
fits_size most sizes.Dword = nat_le 65536 most
fits_size most sizes.Qword = false
fits_size most sizes.Natural = false

-- an instruction cuts a register so
abbrev pub cuts_to : ℕ → ℕ → Insn → Bool
cuts_to most r (Move size bits left right lidx ridx) = is_register_itself r left && (is_register_itself r right && fits_size most size)
cuts_to most r i = false

-- the register that a move loads is cut so by the instruction behind it
abbrev pub is_cut_to : ℕ → Option (Insn × ℕ) → Insn → Bool
is_cut_to most (Some (behind, after)) (Move size bits left right lidx ridx) = not left.indirect && cuts_to most left.reg behind
is_cut_to most behind i = false

-- there is such a number, and the load of it is not cut so
abbrev pub is_left_whole : Option (Insn × ℕ) → Insn → Option ℕ → Bool
is_left_whole behind i None = false
is_left_whole behind i (Some most) = not (is_cut_to most behind i)

-- an instruction of a function that firmware enters loads such a parameter, and none behind it cuts that
abbrev pub is_unnarrowed : Notes → FnNote → State → Option (Insn × ℕ) → Insn → Bool
is_unnarrowed notes f s behind i = f.enter && is_left_whole behind i (narrow_most (loaded_place notes f s i))
