-- For proofs: bits of R7 that a native call may leave: docs/FIRMWARE.md, "Warnings", `status` and `narrow`.
use Rattle.std.specs.Prelude.{Bool, true, false, not, ◌&&◌, ◌||◌, Option, None, Some, nat_eq, nat_le, nat_lt}
use Rattle.ebc_insn.specs.declared.Insn.{Insn}
use Rattle.ebc_insn.specs.declared.Insn.TheVariants as insns
use Rattle.ebc_insn.specs.declared.Size.{Size}
use Rattle.ebc_insn.specs.declared.Size.TheVariants as sizes
use Rattle.note_types.specs.declared.notes.Signature.{Signature}
use Rattle.note_types.specs.declared.types.Ty.{Ty}
use Rattle.note_types.specs.declared.types.Ty.TheVariants.{Int}
use Rattle.departures.specs.Operands.{is_r7}
use Rattle.departures.specs.declared.above.Above.{Above}
use Rattle.departures.specs.declared.above.Above.TheVariants as above

-- ---- what instructions do with R7

-- an instruction that leaves something else in R7
abbrev pub writes_r7 : Insn → Bool
writes_r7 (insns.Call far native rel op extra) = true
writes_r7 (insns.Arith op wide left right extra) = is_r7 left
writes_r7 (insns.Move size bits left right lidx ridx) = is_r7 left
writes_r7 (insns.MoveSigned bits left right lidx extra) = is_r7 left
writes_r7 (insns.MoveImm size bits left lidx imm) = is_r7 left
writes_r7 (insns.MoveImmNatural bits left lidx idx) = is_r7 left
writes_r7 (insns.MoveRelative bits left lidx imm) = is_r7 left
writes_r7 (insns.StoreSpecial to special) = nat_eq to 7
writes_r7 (insns.Pop wide op extra) = is_r7 op
writes_r7 (insns.PopNatural op extra) = is_r7 op
writes_r7 i = false

-- a move of the size takes bits above a byte, a word or a double word along
abbrev pub takes_along : Above → Size → Bool
takes_along above.Natural size = false
takes_along above.Byte sizes.Byte = false
takes_along above.Byte _ = true
takes_along above.Word sizes.Byte = false
takes_along above.Word sizes.Word = false
takes_along above.Word _ = true
takes_along above.Dword sizes.Natural = true
takes_along above.Dword sizes.Qword = true
takes_along above.Dword _ = false

-- an instruction moves R7 to itself, and such bits along
abbrev pub moves_r7 : Above → Insn → Bool
moves_r7 a (insns.Move size bits left right lidx ridx) = is_r7 left && (is_r7 right && takes_along a size)
moves_r7 a i = false

-- an instruction leaves such bits of R7 as they are
abbrev pub keeps : Above → Insn → Bool
keeps a i = not (writes_r7 i) || moves_r7 a i

-- a number of this type has a byte, a word or a double word, and no less
abbrev pub has_size : Above → Option Ty → Bool
has_size above.Byte (Some (Int lo hi div)) = nat_lt hi 256
has_size above.Word (Some (Int lo hi div)) = nat_le 256 hi && nat_lt hi 65536
has_size above.Dword (Some (Int lo hi div)) = nat_le 65536 hi && nat_lt hi 4294967296
has_size a t = false

-- a native method that is called so may leave anything in such bits
abbrev pub leaves : Above → Option Signature → Bool
leaves above.Natural x = true
leaves a (Some x) = has_size a x.result
leaves a None = false
