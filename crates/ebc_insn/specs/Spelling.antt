-- Meaning: which instructions have a spelling, and the bytes that spell each: UEFI specification, chapter "EFI Byte Code
-- Virtual Machine", sections "Instruction Encoding" and "EBC Instruction Set"; in words in docs/ENCODING.md.
use Rattle.std.specs.Prelude.{◌≡◌, ◌⊎◌, ℕ, ◌+◌, ◌-◌, ◌*◌, ◌^◌, ◌<◌, Bool, true, false, List, [], ◌∷◌, ◌++◌, Option, Some, None, is_some}
use Rattle.std.specs.Prelude.{nat_eq, if◌then◌else◌, ℤ, pos, negsuc, ⊤}
use Rattle.std.specs.Int.{w16, w32, w64, to_le_bytes}
use Rattle.natural_index.specs.Index.{IsIndex, IsIndexSize, bit, raw_of}
use Rattle.natural_index.specs.declared.Index.{Index}
use Rattle.ebc_insn.specs.declared.Operand.{Operand}
use Rattle.ebc_insn.specs.declared.Extra.{Extra}
use Rattle.ebc_insn.specs.declared.Extra.TheVariants.{Nothing, Imm, Idx}
use Rattle.ebc_insn.specs.declared.Cond.{Cond}
use Rattle.ebc_insn.specs.declared.Cond.TheVariants.{Always, Set, Clear}
use Rattle.ebc_insn.specs.declared.Size.{Size}
use Rattle.ebc_insn.specs.declared.Size.TheVariants.{Byte, Word, Dword, Qword, Natural}
use Rattle.ebc_insn.specs.declared.CmpOp.{CmpOp}
use Rattle.ebc_insn.specs.declared.CmpOp.TheVariants.{Eq, Lte, Gte, Ulte, Ugte}
use Rattle.ebc_insn.specs.declared.ArithOp.{ArithOp}
use Rattle.ebc_insn.specs.declared.ArithOp.TheVariants.{Not, Neg, Add, Sub, Mul, Mulu, Div, Divu, Mod, Modu, And, Or, Xor, Shl, Shr, Ashr}
use Rattle.ebc_insn.specs.declared.ArithOp.TheVariants.{Extb, Extw, Extd}
use Rattle.ebc_insn.specs.declared.Insn.{Insn}
use Rattle.ebc_insn.specs.declared.Insn.TheVariants.{Break, Jump, Jump8, Call, Ret, Compare, CompareImm, Arith, Move, MoveSigned, MoveImm}
use Rattle.ebc_insn.specs.declared.Insn.TheVariants.{MoveImmNatural, MoveRelative, LoadSpecial, StoreSpecial, Push, Pop, PushNatural}
use Rattle.ebc_insn.specs.declared.Insn.TheVariants.{PopNatural}
use Rattle.ebc_insn.specs.declared.code.Code.{Code}
use Rattle.ebc_insn.specs.declared.code.Field.{Field}
use Rattle.ebc_insn.specs.declared.code.Field.TheVariants as fields

-- ---- a spelling by its parts

-- how many bytes a field has ("Index/Immediate Data Encoding")
abbrev pub field_size : Field → ℕ
field_size fields.Nothing = 0
field_size (fields.Word n) = 2
field_size (fields.Dword n) = 4
field_size (fields.Qword n) = 8

-- the bytes of a field, the lowest first ("Index/Immediate Data Encoding")
unfoldable pub field_bytes : Field → List ℕ
field_bytes fields.Nothing = []
field_bytes (fields.Word n) = to_le_bytes w16 n
field_bytes (fields.Dword n) = to_le_bytes w32 n
field_bytes (fields.Qword n) = to_le_bytes w64 n

-- the bytes of the parts, in their order ("Instruction Encoding")
unfoldable pub bytes_of : Code → List ℕ
bytes_of c = c.first ∷ c.second ∷ field_bytes c.one ++ field_bytes c.two

-- the opcode byte, the operands byte and two fields ("Instruction Encoding")
abbrev pub code : ℕ → ℕ → Field → Field → Code
code b0 b1 f1 f2 = record { first = b0; second = b1; one = f1; two = f2 }

-- ---- the two bytes

-- an opcode in bits 0 to 5, below bits 6 and 7 ("Instruction Opcode Byte Encoding")
abbrev pub head : ℕ → Bool → Bool → ℕ
head opcode six seven = opcode + 64 * bit six + 128 * bit seven

-- a register in three bits, below the bit that makes it indirect ("Instruction Operands Byte Encoding")
abbrev pub operand : Operand → ℕ
operand o = o.reg + 8 * bit o.indirect

-- operand 1 in the low four bits, operand 2 in the high ones ("Instruction Operands Byte Encoding")
abbrev pub operands : Operand → Operand → ℕ
operands left right = operand left + 16 * operand right

-- C set in bit 0 and conditional in bit 1 ("JMP8")
abbrev pub condition : Cond → ℕ
condition Always = 0
condition Set = 3
condition Clear = 2

-- how far an opcode is past that of the comparison for equality ("CMP", "CMPI")
abbrev pub cmp_number : CmpOp → ℕ
cmp_number Eq = 0
cmp_number Lte = 1
cmp_number Gte = 2
cmp_number Ulte = 3
cmp_number Ugte = 4

-- how far an opcode is past that of NOT ("EBC Instruction Set")
abbrev pub arith_number : ArithOp → ℕ
arith_number Not = 0
arith_number Neg = 1
arith_number Add = 2
arith_number Sub = 3
arith_number Mul = 4
arith_number Mulu = 5
arith_number Div = 6
arith_number Divu = 7
arith_number Mod = 8
arith_number Modu = 9
arith_number And = 10
arith_number Or = 11
arith_number Xor = 12
arith_number Shl = 13
arith_number Shr = 14
arith_number Ashr = 15
arith_number Extb = 16
arith_number Extw = 17
arith_number Extd = 18

-- the size of a move: 8, 16, 32 or 64 bits ("MOVI"), and last the natural one ("MOVn")
abbrev pub size_number : Size → ℕ
size_number Byte = 0
size_number Word = 1
size_number Dword = 2
size_number Qword = 3
size_number Natural = 4

-- the width of an immediate or an index: 1, 2 or 3 for 16, 32 or 64 bits ("MOVI")
abbrev pub width_number : ℕ → ℕ
width_number bits = if nat_eq bits 16 then 1 else if nat_eq bits 32 then 2 else 3

-- the opcode of a move of this size whose indexes have so many bits ("MOV", "MOVn")
abbrev pub move_opcode : Size → ℕ → ℕ
move_opcode Natural bits = if nat_eq bits 16 then 0x32 else 0x33
move_opcode size bits =
    if nat_eq bits 16 then 0x1D + size_number size else if nat_eq bits 32 then 0x21 + size_number size else 0x28

-- the opcode of a signed natural move whose index or immediate has so many bits ("MOVsn")
abbrev pub signed_opcode : ℕ → ℕ
signed_opcode bits = if nat_eq bits 16 then 0x25 else 0x26

-- ---- the fields

-- the two's complement of a number in so many bits ("Immediate Operands")
abbrev pub int_raw : ℕ → ℤ → ℕ
int_raw bits (pos n) = n
int_raw bits (negsuc n) = 2 ^ bits - 1 - n

-- A signed number of so many bits ("Immediate Operands").
abbrev pub FitsInt : ℕ → ℤ → Type 0
FitsInt bits (pos n) = n < 2 ^ (bits - 1)
FitsInt bits (negsuc n) = n < 2 ^ (bits - 1)

-- a raw number of so many bits as a field ("Index/Immediate Data Encoding")
abbrev pub field : ℕ → ℕ → Field
field bits raw = if nat_eq bits 16 then fields.Word raw else if nat_eq bits 32 then fields.Dword raw else fields.Qword raw

-- an immediate of so many bits ("Immediate Operands")
abbrev pub int_field : ℕ → ℤ → Field
int_field bits v = field bits (int_raw bits v)

-- a natural index of so many bits ("Natural Indexing")
abbrev pub index_field : ℕ → Index → Field
index_field bits i = field bits (raw_of bits i)

-- a natural index of so many bits, or nothing ("Natural Indexing")
abbrev pub optional_field : ℕ → Option Index → Field
optional_field bits None = fields.Nothing
optional_field bits (Some i) = index_field bits i

-- what stands beside an operand, in so many bits ("Index/Immediate Data Encoding")
abbrev pub extra_field : ℕ → Extra → Field
extra_field bits Nothing = fields.Nothing
extra_field bits (Imm v) = int_field bits v
extra_field bits (Idx i) = index_field bits i

-- whether something stands beside an operand ("Instruction Opcode Byte Encoding")
abbrev pub has_extra : Extra → Bool
has_extra Nothing = false
has_extra (Imm v) = true
has_extra (Idx i) = true

-- how many bits the target of a jump or a call has ("JMP", "CALL")
abbrev pub target_bits : Bool → ℕ
target_bits far = if far then 64 else 32

-- how many bits the immediate of a comparison has ("CMPI")
abbrev pub immediate_bits : Bool → ℕ
immediate_bits long = if long then 32 else 16

-- ---- the table of the instructions

-- the parts that spell an instruction, a row for each; a bit that isn't named is zero ("EBC Instruction Set")
abbrev pub code_of : Insn → Code
code_of (Break number) = code 0x00 number fields.Nothing fields.Nothing
code_of (Jump cond far relative op extra) =
    code (head 0x01 far (has_extra extra)) (operand op + 16 * bit relative + 64 * condition cond)
    (extra_field (target_bits far) extra) fields.Nothing
code_of (Jump8 cond words) = code (0x02 + 64 * condition cond) (int_raw 8 words) fields.Nothing fields.Nothing
code_of (Call far native relative op extra) =
    code (head 0x03 far (has_extra extra)) (operand op + 16 * bit relative + 32 * bit native)
    (extra_field (target_bits far) extra) fields.Nothing
code_of Ret = code 0x04 0 fields.Nothing fields.Nothing
code_of (Compare op wide left right extra) =
    code (head (0x05 + cmp_number op) wide (has_extra extra)) (left + 16 * operand right)
    (extra_field 16 extra) fields.Nothing
code_of (CompareImm op wide left idx long imm) =
    code (head (0x2D + cmp_number op) wide long) (operand left + 16 * bit (is_some idx))
    (optional_field 16 idx) (int_field (immediate_bits long) imm)
code_of (Arith op wide left right extra) =
    code (head (0x0A + arith_number op) wide (has_extra extra)) (operands left right)
    (extra_field 16 extra) fields.Nothing
code_of (Move size bits left right lidx ridx) =
    code (head (move_opcode size bits) (is_some ridx) (is_some lidx)) (operands left right)
    (optional_field bits lidx) (optional_field bits ridx)
code_of (MoveSigned bits left right lidx extra) =
    code (head (signed_opcode bits) (has_extra extra) (is_some lidx)) (operands left right)
    (optional_field bits lidx) (extra_field bits extra)
code_of (MoveImm size bits left lidx imm) =
    code (0x37 + 64 * width_number bits) (operand left + 16 * size_number size + 64 * bit (is_some lidx))
    (optional_field 16 lidx) (int_field bits imm)
code_of (MoveImmNatural bits left lidx idx) =
    code (0x38 + 64 * width_number bits) (operand left + 64 * bit (is_some lidx))
    (optional_field 16 lidx) (index_field bits idx)
code_of (MoveRelative bits left lidx imm) =
    code (0x39 + 64 * width_number bits) (operand left + 64 * bit (is_some lidx))
    (optional_field 16 lidx) (int_field bits imm)
code_of (LoadSpecial from) = code 0x29 (16 * from) fields.Nothing fields.Nothing
code_of (StoreSpecial to special) = code 0x2A (to + 16 * special) fields.Nothing fields.Nothing
code_of (Push wide op extra) = code (head 0x2B wide (has_extra extra)) (operand op) (extra_field 16 extra) fields.Nothing
code_of (Pop wide op extra) = code (head 0x2C wide (has_extra extra)) (operand op) (extra_field 16 extra) fields.Nothing
code_of (PushNatural op extra) = code (head 0x35 false (has_extra extra)) (operand op) (extra_field 16 extra) fields.Nothing
code_of (PopNatural op extra) = code (head 0x36 false (has_extra extra)) (operand op) (extra_field 16 extra) fields.Nothing

-- the whole list of bytes that spells an instruction ("Instruction Encoding")
abbrev pub spelling : Insn → List ℕ
spelling i = bytes_of (code_of i)

-- ---- what has a spelling

-- One of R0 to R7 ("Instruction Operands Byte Encoding").
abbrev pub IsOperand : Operand → Type 0
IsOperand o = o.reg < 8

-- Beside a direct operand stands an immediate, beside an indirect one an index ("Immediate Operands", "Indexed Operands").
abbrev pub ExtraFits : ℕ → Operand → Extra → Type 0
ExtraFits bits o Nothing = ⊤
ExtraFits bits o (Imm v) = (o.indirect ≡ false) × FitsInt bits v
ExtraFits bits o (Idx i) = (o.indirect ≡ true) × IsIndex bits i

-- An operand 1 that a move or a CMPI writes or compares has an index only where it is indirect ("MOV").
abbrev pub LeftFits : ℕ → Operand → Option Index → Type 0
LeftFits bits o None = ⊤
LeftFits bits o (Some i) = (o.indirect ≡ true) × IsIndex bits i

-- An operand 2 of a move may have an index ("MOV").
abbrev pub RightFits : ℕ → Option Index → Type 0
RightFits bits None = ⊤
RightFits bits (Some i) = IsIndex bits i

-- The target of a jump or a call: an address of 64 bits, or an operand ("JMP", "CALL").
abbrev pub TargetFits : Bool → Operand → Extra → Type 0
TargetFits false o extra = IsOperand o × ExtraFits 32 o extra
TargetFits true o Nothing = ⊥
TargetFits true o (Imm v) = (o.reg ≡ 0) × (o.indirect ≡ false) × FitsInt 64 v
TargetFits true o (Idx i) = ⊥

-- 16 or 32 bits ("MOV").
abbrev pub IsWordOrDword : ℕ → Type 0
IsWordOrDword bits = (bits ≡ 16) ⊎ (bits ≡ 32)

-- Only a move of 64 bits has indexes of 64 bits ("MOV").
abbrev pub MoveFits : Size → ℕ → Type 0
MoveFits Qword bits = IsIndexSize bits
MoveFits size bits = IsWordOrDword bits

-- A move of an immediate has no natural size ("MOVI").
abbrev pub NotNatural : Size → Type 0
NotNatural Natural = ⊥
NotNatural size = ⊤

-- What has a spelling ("EBC Instruction Set").
abbrev pub WellFormed : Insn → Type 0
WellFormed (Break number) = number < 256
WellFormed (Jump cond far relative op extra) = TargetFits far op extra
WellFormed (Jump8 cond words) = FitsInt 8 words
WellFormed (Call far native relative op extra) = TargetFits far op extra
WellFormed Ret = ⊤
WellFormed (Compare op wide left right extra) = (left < 8) × IsOperand right × ExtraFits 16 right extra
WellFormed (CompareImm op wide left idx long imm) =
    IsOperand left × LeftFits 16 left idx × FitsInt (immediate_bits long) imm
WellFormed (Arith op wide left right extra) = IsOperand left × IsOperand right × ExtraFits 16 right extra
WellFormed (Move size bits left right lidx ridx) =
    MoveFits size bits × IsOperand left × IsOperand right × LeftFits bits left lidx × RightFits bits ridx
WellFormed (MoveSigned bits left right lidx extra) =
    IsWordOrDword bits × IsOperand left × IsOperand right × LeftFits bits left lidx × ExtraFits bits right extra
WellFormed (MoveImm size bits left lidx imm) =
    IsIndexSize bits × NotNatural size × IsOperand left × LeftFits 16 left lidx × FitsInt bits imm
WellFormed (MoveImmNatural bits left lidx idx) =
    IsIndexSize bits × IsOperand left × LeftFits 16 left lidx × IsIndex bits idx
WellFormed (MoveRelative bits left lidx imm) =
    IsIndexSize bits × IsOperand left × LeftFits 16 left lidx × FitsInt bits imm
WellFormed (LoadSpecial from) = from < 8
WellFormed (StoreSpecial to special) = (to < 8) × (special < 2)
WellFormed (Push wide op extra) = IsOperand op × ExtraFits 16 op extra
WellFormed (Pop wide op extra) = IsOperand op × ExtraFits 16 op extra
WellFormed (PushNatural op extra) = IsOperand op × ExtraFits 16 op extra
WellFormed (PopNatural op extra) = IsOperand op × ExtraFits 16 op extra

-- The whole list of bytes spells the instruction ("EBC Instruction Set").
pub record Spells (bytes : List ℕ) (i : Insn) : Type 0 where
  pub well_formed : WellFormed i
  pub same_bytes : bytes ≡ spelling i
