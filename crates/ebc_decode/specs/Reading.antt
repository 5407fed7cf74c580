-- Meaning: the instruction that a list of bytes begins with, or the first fault: UEFI specification, chapter "EFI Byte Code
-- Virtual Machine", sections "Instruction Encoding" and "EBC Instruction Set"; in words in docs/ENCODING.md.
use Rattle.std.specs.Prelude.{◌≡◌, ℕ, ◌+◌, ◌-◌, ◌/◌, ◌%◌, ◌<◌, ◌↔◌, Bool, false, ◌&&◌, ◌||◌, not, List, [], ◌∷◌, ◌++◌, length, take}
use Rattle.std.specs.Prelude.{drop, Option, Some, None, Result, Ok, Err, nat_eq, nat_le, nat_lt, if◌then◌else◌, ℤ, pos}
use Rattle.std.specs.Option.{option_map, option_and_then}
use Rattle.std.specs.Int.{w16, w32, w64, from_le_bytes}
use Rattle.natural_index.specs.Index.{index_of}
use Rattle.natural_index.specs.declared.Index.{Index}
use Rattle.ebc_insn.specs.Spelling.{Spells, WellFormed, code, spelling}
use Rattle.ebc_insn.specs.declared.Operand.{Operand}
use Rattle.ebc_insn.specs.declared.Extra.{Extra}
use Rattle.ebc_insn.specs.declared.Extra.TheVariants.{Nothing, Imm, Idx}
use Rattle.ebc_insn.specs.declared.Cond.{Cond}
use Rattle.ebc_insn.specs.declared.Cond.TheVariants.{Always, Set, Clear}
use Rattle.ebc_insn.specs.declared.Size.{Size}
use Rattle.ebc_insn.specs.declared.Size.TheVariants as sizes
use Rattle.ebc_insn.specs.declared.CmpOp.{CmpOp}
use Rattle.ebc_insn.specs.declared.CmpOp.TheVariants as cmps
use Rattle.ebc_insn.specs.declared.ArithOp.{ArithOp}
use Rattle.ebc_insn.specs.declared.ArithOp.TheVariants as ops
use Rattle.ebc_insn.specs.declared.Insn.{Insn}
use Rattle.ebc_insn.specs.declared.Insn.TheVariants as insns
use Rattle.ebc_insn.specs.declared.code.Code.{Code}
use Rattle.ebc_insn.specs.declared.code.Field.{Field}
use Rattle.ebc_insn.specs.declared.code.Field.TheVariants as fields
use Rattle.ebc_decode.specs.declared.DecodeFault.{DecodeFault}
use Rattle.ebc_decode.specs.declared.DecodeFault.TheVariants as faults
use Rattle.ebc_decode.specs.declared.Decoded.{Decoded}
use Rattle.ebc_decode.specs.declared.Decoded.TheVariants.{Found, Fault}
use Rattle.ebc_decode.specs.declared.form.Form.{Form}
use Rattle.ebc_width.specs.Width.{signed_at}
use Rattle.ebc_decode.specs.declared.form.Form.TheVariants as forms

-- ---- the opcode

-- the comparison whose opcode is so far past that of the one for equality ("CMP", "CMPI")
abbrev pub cmp_at : ℕ → CmpOp
cmp_at n =
    if nat_eq n 0 then cmps.Eq else if nat_eq n 1 then cmps.Lte else if nat_eq n 2 then cmps.Gte
    else if nat_eq n 3 then cmps.Ulte else cmps.Ugte

-- the operation whose opcode is so far past that of NOT ("EBC Instruction Set")
abbrev pub arith_at : ℕ → ArithOp
arith_at n =
    if nat_eq n 0 then ops.Not else if nat_eq n 1 then ops.Neg else if nat_eq n 2 then ops.Add
    else if nat_eq n 3 then ops.Sub else if nat_eq n 4 then ops.Mul else if nat_eq n 5 then ops.Mulu
    else if nat_eq n 6 then ops.Div else if nat_eq n 7 then ops.Divu else if nat_eq n 8 then ops.Mod
    else if nat_eq n 9 then ops.Modu else if nat_eq n 10 then ops.And else if nat_eq n 11 then ops.Or
    else if nat_eq n 12 then ops.Xor else if nat_eq n 13 then ops.Shl else if nat_eq n 14 then ops.Shr
    else if nat_eq n 15 then ops.Ashr else if nat_eq n 16 then ops.Extb else if nat_eq n 17 then ops.Extw
    else ops.Extd

-- the size of a move: 8, 16, 32 or 64 bits ("MOVI")
abbrev pub size_at : ℕ → Size
size_at n =
    if nat_eq n 0 then sizes.Byte else if nat_eq n 1 then sizes.Word else if nat_eq n 2 then sizes.Dword else sizes.Qword

-- the form that an opcode names, and none for 27, 34 and 3A to 3F ("EBC Instruction Set")
unfoldable pub form_at : ℕ → Option Form
form_at n =
    if nat_eq n 0x00 then Some forms.Break
    else if nat_eq n 0x01 then Some forms.Jump
    else if nat_eq n 0x02 then Some forms.Jump8
    else if nat_eq n 0x03 then Some forms.Call
    else if nat_eq n 0x04 then Some forms.Ret
    else if nat_lt n 0x0A then Some (forms.Compare (cmp_at (n - 0x05)))
    else if nat_lt n 0x1D then Some (forms.Arith (arith_at (n - 0x0A)))
    else if nat_lt n 0x21 then Some (forms.Move (size_at (n - 0x1D)) 16)
    else if nat_lt n 0x25 then Some (forms.Move (size_at (n - 0x21)) 32)
    else if nat_eq n 0x25 then Some (forms.MoveSigned 16)
    else if nat_eq n 0x26 then Some (forms.MoveSigned 32)
    else if nat_eq n 0x27 then None
    else if nat_eq n 0x28 then Some (forms.Move sizes.Qword 64)
    else if nat_eq n 0x29 then Some forms.LoadSpecial
    else if nat_eq n 0x2A then Some forms.StoreSpecial
    else if nat_eq n 0x2B then Some forms.Push
    else if nat_eq n 0x2C then Some forms.Pop
    else if nat_lt n 0x32 then Some (forms.CompareImm (cmp_at (n - 0x2D)))
    else if nat_eq n 0x32 then Some (forms.Move sizes.Natural 16)
    else if nat_eq n 0x33 then Some (forms.Move sizes.Natural 32)
    else if nat_eq n 0x35 then Some forms.PushNatural
    else if nat_eq n 0x36 then Some forms.PopNatural
    else if nat_eq n 0x37 then Some forms.MoveImm
    else if nat_eq n 0x38 then Some forms.MoveImmNatural
    else if nat_eq n 0x39 then Some forms.MoveRelative
    else None

-- ---- the two bytes

-- a bit of a byte, moved to bit 0 ("Instruction Encoding")
abbrev pub flag : ℕ → Bool
flag n = nat_eq (n % 2) 1

-- a register in three bits, below the bit that makes it indirect ("Instruction Operands Byte Encoding")
abbrev pub operand_at : ℕ → Operand
operand_at n = record { reg = n % 8; indirect = flag (n / 8) }

-- operand 1, in the low four bits ("Instruction Operands Byte Encoding")
abbrev pub left_at : ℕ → Operand
left_at b1 = operand_at (b1 % 16)

-- operand 2, in the high four bits ("Instruction Operands Byte Encoding")
abbrev pub right_at : ℕ → Operand
right_at b1 = operand_at (b1 / 16)

-- C set in bit 0 and conditional in bit 1 ("JMP8")
abbrev pub cond_at : ℕ → Cond
cond_at n = if nat_eq n 0 then Always else if nat_eq n 3 then Set else Clear

-- the width of an immediate or an index: 16, 32 or 64 bits for 1, 2 or 3 ("MOVI")
abbrev pub bits_at : ℕ → ℕ
bits_at n = if nat_eq n 1 then 16 else if nat_eq n 2 then 32 else 64

-- whether the far form of a jump or a call has no address, or an operand 1 other than R0 ("JMP", "CALL")
abbrev pub is_far_wrong : ℕ → ℕ → Bool
is_far_wrong b0 b1 = flag (b0 / 64) && (not (flag (b0 / 128)) || not (nat_eq (b1 % 16) 0))

-- whether a move of an immediate has no width, or a bit set of 4, 5 and 7 ("MOVIn", "MOVREL")
abbrev pub is_move_wrong : ℕ → ℕ → Bool
is_move_wrong b0 b1 = nat_eq (b0 / 64) 0 || flag (b1 / 128) || not (nat_eq (b1 / 16 % 4) 0)

-- whether a bit is set that must be zero, or zero that must be set ("EBC Instruction Set")
unfoldable pub is_reserved : Form → ℕ → ℕ → Bool
is_reserved forms.Break b0 b1 = not (nat_eq (b0 / 64) 0)
is_reserved forms.Jump b0 b1 = flag (b1 / 32) || nat_eq (b1 / 64) 1 || is_far_wrong b0 b1
is_reserved forms.Jump8 b0 b1 = nat_eq (b0 / 64) 1
is_reserved forms.Call b0 b1 = not (nat_eq (b1 / 64) 0) || is_far_wrong b0 b1
is_reserved forms.Ret b0 b1 = not (nat_eq (b0 / 64) 0) || not (nat_eq b1 0)
is_reserved (forms.Compare op) b0 b1 = flag (b1 / 8)
is_reserved (forms.CompareImm op) b0 b1 = nat_le 2 (b1 / 16)
is_reserved (forms.Arith op) b0 b1 = false
is_reserved (forms.Move size bits) b0 b1 = false
is_reserved (forms.MoveSigned bits) b0 b1 = false
is_reserved forms.MoveImm b0 b1 = nat_eq (b0 / 64) 0 || flag (b1 / 128)
is_reserved forms.MoveImmNatural b0 b1 = is_move_wrong b0 b1
is_reserved forms.MoveRelative b0 b1 = is_move_wrong b0 b1
is_reserved forms.LoadSpecial b0 b1 = not (nat_eq (b0 / 64) 0) || not (nat_eq (b1 % 16) 0) || flag (b1 / 128)
is_reserved forms.StoreSpecial b0 b1 = not (nat_eq (b0 / 64) 0) || flag (b1 / 8) || nat_le 2 (b1 / 16)
is_reserved forms.Push b0 b1 = not (nat_eq (b1 / 16) 0)
is_reserved forms.Pop b0 b1 = not (nat_eq (b1 / 16) 0)
is_reserved forms.PushNatural b0 b1 = flag (b0 / 64) || not (nat_eq (b1 / 16) 0)
is_reserved forms.PopNatural b0 b1 = flag (b0 / 64) || not (nat_eq (b1 / 16) 0)

-- whether operand 1 has an index ("MOV", "MOVI", "CMPI")
unfoldable pub has_left_index : Form → ℕ → ℕ → Bool
has_left_index (forms.Move size bits) b0 b1 = flag (b0 / 128)
has_left_index (forms.MoveSigned bits) b0 b1 = flag (b0 / 128)
has_left_index (forms.CompareImm op) b0 b1 = flag (b1 / 16)
has_left_index forms.MoveImm b0 b1 = flag (b1 / 64)
has_left_index forms.MoveImmNatural b0 b1 = flag (b1 / 64)
has_left_index forms.MoveRelative b0 b1 = flag (b1 / 64)
has_left_index f b0 b1 = false

-- whether operand 1 has an index and is direct ("MOV", "MOVI", "CMPI")
abbrev pub is_direct_index : Form → ℕ → ℕ → Bool
is_direct_index f b0 b1 = has_left_index f b0 b1 && not (left_at b1).indirect

-- ---- the fields

-- how many bytes a field of so many bits has, if it is there ("Index/Immediate Data Encoding")
abbrev pub size_if : Bool → ℕ → ℕ
size_if present bits = if present then bits / 8 else 0

-- how many bytes the first field has ("EBC Instruction Set")
unfoldable pub size1_at : Form → ℕ → ℕ → ℕ
size1_at forms.Jump b0 b1 = size_if (flag (b0 / 128)) (if flag (b0 / 64) then 64 else 32)
size1_at forms.Call b0 b1 = size_if (flag (b0 / 128)) (if flag (b0 / 64) then 64 else 32)
size1_at (forms.Compare op) b0 b1 = size_if (flag (b0 / 128)) 16
size1_at (forms.CompareImm op) b0 b1 = size_if (flag (b1 / 16)) 16
size1_at (forms.Arith op) b0 b1 = size_if (flag (b0 / 128)) 16
size1_at (forms.Move size bits) b0 b1 = size_if (flag (b0 / 128)) bits
size1_at (forms.MoveSigned bits) b0 b1 = size_if (flag (b0 / 128)) bits
size1_at forms.MoveImm b0 b1 = size_if (flag (b1 / 64)) 16
size1_at forms.MoveImmNatural b0 b1 = size_if (flag (b1 / 64)) 16
size1_at forms.MoveRelative b0 b1 = size_if (flag (b1 / 64)) 16
size1_at forms.Push b0 b1 = size_if (flag (b0 / 128)) 16
size1_at forms.Pop b0 b1 = size_if (flag (b0 / 128)) 16
size1_at forms.PushNatural b0 b1 = size_if (flag (b0 / 128)) 16
size1_at forms.PopNatural b0 b1 = size_if (flag (b0 / 128)) 16
size1_at f b0 b1 = 0

-- how many bytes the second field has ("EBC Instruction Set")
unfoldable pub size2_at : Form → ℕ → ℕ
size2_at (forms.CompareImm op) b0 = if flag (b0 / 128) then 4 else 2
size2_at (forms.Move size bits) b0 = size_if (flag (b0 / 64)) bits
size2_at (forms.MoveSigned bits) b0 = size_if (flag (b0 / 64)) bits
size2_at forms.MoveImm b0 = bits_at (b0 / 64) / 8
size2_at forms.MoveImmNatural b0 = bits_at (b0 / 64) / 8
size2_at forms.MoveRelative b0 = bits_at (b0 / 64) / 8
size2_at f b0 = 0

-- the bytes of both fields ("Index/Immediate Data Encoding")
abbrev pub tail_at : Form → ℕ → ℕ → ℕ
tail_at f b0 b1 = size1_at f b0 b1 + size2_at f b0

-- the field in 2, 4 or 8 bytes, the lowest first ("Index/Immediate Data Encoding")
unfoldable pub field_at : List ℕ → Field
field_at (a ∷ b ∷ []) = fields.Word (from_le_bytes w16 (a ∷ b ∷ []))
field_at (a ∷ b ∷ c ∷ d ∷ []) = fields.Dword (from_le_bytes w32 (a ∷ b ∷ c ∷ d ∷ []))
field_at (a ∷ b ∷ c ∷ d ∷ e ∷ f ∷ g ∷ h ∷ []) =
    fields.Qword (from_le_bytes w64 (a ∷ b ∷ c ∷ d ∷ e ∷ f ∷ g ∷ h ∷ []))
field_at bytes = fields.Nothing

-- the signed number in a field of 2 or 4 bytes ("CMPI")
abbrev pub int32_at : Field → ℤ
int32_at (fields.Word n) = signed_at 16 n
int32_at (fields.Dword n) = signed_at 32 n
int32_at f = pos 0

-- the signed number in a field ("Immediate Operands")
abbrev pub int_at : Field → ℤ
int_at (fields.Qword n) = signed_at 64 n
int_at f = int32_at f

-- the index in a field: none where its tag has no room ("Natural Indexing")
abbrev pub index_at : Field → Option Index
index_at fields.Nothing = None
index_at (fields.Word n) = index_of 16 n
index_at (fields.Dword n) = index_of 32 n
index_at (fields.Qword n) = index_of 64 n

-- the index in a field that may have no bytes ("Natural Indexing")
abbrev pub optional_at : Field → Option (Option Index)
optional_at fields.Nothing = Some None
optional_at f = option_map Some (index_at f)

-- what stands in a field beside an operand: an index if that is indirect, else an immediate ("Instruction Encoding")
abbrev pub extra_at : Operand → Field → Option Extra
extra_at o fields.Nothing = Some Nothing
extra_at o f = if o.indirect then option_map Idx (index_at f) else Some (Imm (int_at f))

-- ---- the whole

-- The instruction of a form and of its parts, a row for each; none where the tag of an index has no room ("EBC
-- Instruction Set").
unfoldable pub insn_at : Form → Code → Option Insn
insn_at forms.Break c = Some (insns.Break c.second)
insn_at forms.Jump c =
    option_map (insns.Jump (cond_at (c.second / 64)) (flag (c.first / 64)) (flag (c.second / 16)) (left_at c.second))
    (extra_at (left_at c.second) c.one)
insn_at forms.Jump8 c = Some (insns.Jump8 (cond_at (c.first / 64)) (signed_at 8 c.second))
insn_at forms.Call c =
    option_map (insns.Call (flag (c.first / 64)) (flag (c.second / 32)) (flag (c.second / 16)) (left_at c.second))
    (extra_at (left_at c.second) c.one)
insn_at forms.Ret c = Some insns.Ret
insn_at (forms.Compare op) c =
    option_map (insns.Compare op (flag (c.first / 64)) (c.second % 8) (right_at c.second))
    (extra_at (right_at c.second) c.one)
insn_at (forms.CompareImm op) c =
    option_map (λ l. insns.CompareImm op (flag (c.first / 64)) (left_at c.second) l (flag (c.first / 128)) (int32_at c.two))
    (optional_at c.one)
insn_at (forms.Arith op) c =
    option_map (insns.Arith op (flag (c.first / 64)) (left_at c.second) (right_at c.second))
    (extra_at (right_at c.second) c.one)
insn_at (forms.Move size bits) c =
    option_and_then (λ l. option_map (insns.Move size bits (left_at c.second) (right_at c.second) l) (optional_at c.two))
    (optional_at c.one)
insn_at (forms.MoveSigned bits) c =
    option_and_then (λ l. option_map (insns.MoveSigned bits (left_at c.second) (right_at c.second) l) (extra_at (right_at c.second) c.two))
    (optional_at c.one)
insn_at forms.MoveImm c =
    option_map (λ l. insns.MoveImm (size_at (c.second / 16 % 4)) (bits_at (c.first / 64)) (left_at c.second) l (int_at c.two))
    (optional_at c.one)
insn_at forms.MoveImmNatural c =
    option_and_then (λ l. option_map (insns.MoveImmNatural (bits_at (c.first / 64)) (left_at c.second) l) (index_at c.two))
    (optional_at c.one)
insn_at forms.MoveRelative c =
    option_map (λ l. insns.MoveRelative (bits_at (c.first / 64)) (left_at c.second) l (int_at c.two))
    (optional_at c.one)
insn_at forms.LoadSpecial c = Some (insns.LoadSpecial (c.second / 16))
insn_at forms.StoreSpecial c = Some (insns.StoreSpecial (c.second % 8) (c.second / 16))
insn_at forms.Push c = option_map (insns.Push (flag (c.first / 64)) (left_at c.second)) (extra_at (left_at c.second) c.one)
insn_at forms.Pop c = option_map (insns.Pop (flag (c.first / 64)) (left_at c.second)) (extra_at (left_at c.second) c.one)
insn_at forms.PushNatural c = option_map (insns.PushNatural (left_at c.second)) (extra_at (left_at c.second) c.one)
insn_at forms.PopNatural c = option_map (insns.PopNatural (left_at c.second)) (extra_at (left_at c.second) c.one)

-- the parts of two bytes and of the fields that follow them ("Instruction Encoding")
unfoldable pub parts_at : Form → ℕ → ℕ → List ℕ → Code
parts_at f b0 b1 rest =
    code b0 b1 (field_at (take (size1_at f b0 b1) rest)) (field_at (take (size2_at f b0) (drop (size1_at f b0 b1) rest)))

-- an instruction with its length, if its indexes have tags with room ("Natural Indexing")
abbrev pub with_length : ℕ → Option Insn → Result (Insn × ℕ) DecodeFault
with_length n None = Err faults.IndexTag
with_length n (Some i) = Ok (i, n)

-- What two bytes and the rest read as. The opcode is tried first, then the reserved bits, an index of a direct operand
-- 1, the length, and last the tags ("Instruction Encoding").
abbrev pub read_form : Option Form → ℕ → ℕ → List ℕ → Result (Insn × ℕ) DecodeFault
read_form None b0 b1 rest = Err faults.Opcode
read_form (Some f) b0 b1 rest =
    if is_reserved f b0 b1 then Err faults.Reserved
    else if is_direct_index f b0 b1 then Err faults.DirectIndex
    else if nat_lt (length rest) (tail_at f b0 b1) then Err faults.Short
    else with_length (2 + tail_at f b0 b1) (insn_at f (parts_at f b0 b1 rest))

-- the instruction that bytes begin with and its length, or the first fault ("Instruction Encoding")
unfoldable pub read : List ℕ → Result (Insn × ℕ) DecodeFault
read [] = Err faults.Short
read (b0 ∷ []) = Err faults.Short
read (b0 ∷ b1 ∷ rest) = read_form (form_at (b0 % 64)) b0 b1 rest

-- what bytes are read as, as a result
abbrev pub result_of : Decoded → Result (Insn × ℕ) DecodeFault
result_of (Found i n) = Ok (i, n)
result_of (Fault e) = Err e

-- Two instructions whose spellings begin one list are the same ("Instruction Encoding").
abbrev pub OneSpelling : Type 0
OneSpelling =
    (i j : Insn) (x y : List ℕ) → WellFormed i → WellFormed j → spelling i ++ x ≡ spelling j ++ y → i ≡ j

-- Two bytes with the opcode of a form begin a spelling exactly where no bit is reserved and a direct operand 1 has no
-- index ("EBC Instruction Set").
abbrev pub ReservedIsExact : Type 0
ReservedIsExact =
    (f : Form) (b0 b1 : ℕ) → b0 < 256 → b1 < 256 → form_at (b0 % 64) ≡ Some f →
    ((is_reserved f b0 b1 || is_direct_index f b0 b1) ≡ false)
    ↔ ((i : Insn) × (rest : List ℕ) × Spells (b0 ∷ b1 ∷ rest) i)
