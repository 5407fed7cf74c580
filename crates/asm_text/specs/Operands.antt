-- Meaning: operands as they are written and read: docs/ASSEMBLY.md, "Operands".
use Rattle.std.specs.Prelude.{ℕ, ◌+◌, ◌-◌, List, [], ◌∷◌, Option, Some, None, Bool, true, false, not, nat_le, ◌==◌, ◌&&◌, if◌then◌else◌}
use Rattle.std.specs.Prelude.{Result, Ok, Err, ℤ, pos, codes, bytes_eq}
use Rattle.std.specs.Fmt.{signed_decimal}
use Rattle.natural_index.specs.declared.Index.{Index}
use Rattle.ebc_insn.specs.declared.Operand.{Operand}
use Rattle.ebc_insn.specs.declared.Extra.{Extra}
use Rattle.ebc_insn.specs.declared.Extra.TheVariants.{Nothing, Imm, Idx}
use Rattle.ebc_base.specs.Steps.{◌>>=◌, or_else}
use Rattle.asm_text.specs.declared.fault.AsmFault.{AsmFault}
use Rattle.asm_text.specs.declared.fault.AsmFault.TheVariants as faults
use Rattle.asm_text.specs.Faults.{made}
use Rattle.asm_text.specs.Numbers.{number, is_numeral}
use Rattle.ebc_base.specs.Names.{is_name}
use Rattle.asm_text.specs.Names.{is_place_name}
use Rattle.asm_text.specs.Indexes.{index, index_text}

-- ---- writing

-- `R1` or `@R1`, and what stands behind it
unfoldable pub operand_text : Operand → List ℕ → List ℕ
operand_text o rest = if o.indirect then 64 ∷ 82 ∷ (48 + o.reg) ∷ rest else 82 ∷ (48 + o.reg) ∷ rest

abbrev pub idx_text : ℕ → Option Index → List ℕ
idx_text bits None = []
idx_text bits (Some i) = index_text bits i

-- an index of so many bits, or an immediate after a space
abbrev pub beside : ℕ → Extra → List ℕ
beside bits Nothing = []
beside bits (Imm v) = 32 ∷ signed_decimal v
beside bits (Idx i) = index_text bits i

abbrev pub extra_text : ℕ → Operand → Extra → List ℕ
extra_text bits o extra = operand_text o (beside bits extra)

abbrev pub indexed_text : ℕ → Operand → Option Index → List ℕ
indexed_text bits o idx = operand_text o (idx_text bits idx)

-- a number, or the name that stands in its place
abbrev pub value_text : ℤ → Option (List ℕ) → List ℕ
value_text v None = signed_decimal v
value_text v (Some name) = name

-- whether an operand is R0 itself
abbrev pub is_first : Operand → Bool
is_first o = o.reg == 0 && not o.indirect

-- the target of a jump or a call: R0 isn't written beside an immediate
abbrev pub target_text : Operand → Extra → Option (List ℕ) → List ℕ
target_text o (Imm v) name = if is_first o then value_text v name else extra_text 32 o (Imm v)
target_text o Nothing name = extra_text 32 o Nothing
target_text o (Idx i) name = extra_text 32 o (Idx i)

-- `[FLAGS]` or `[IP]`
abbrev pub special_text : ℕ → List ℕ
special_text special = if special == 0 then codes "[FLAGS]" else codes "[IP]"

-- ---- reading

abbrev pub register_of : Bool → List ℕ → Option (Operand × List ℕ)
register_of indirect (r ∷ d ∷ rest) =
    if r == 82 && nat_le 48 d && nat_le d 55 then Some (record { reg = d - 48; indirect = indirect }, rest) else None
register_of indirect _ = None

-- a register or the memory at it, and what stands behind it
unfoldable pub operand_of : List ℕ → Option (Operand × List ℕ)
operand_of [] = None
operand_of (b ∷ bs) = if b == 64 then register_of true bs else register_of false (b ∷ bs)

abbrev pub bare_after : Operand × List ℕ → Result Operand AsmFault
bare_after (o, []) = Ok o
bare_after (o, b ∷ bs) = Err faults.Operand

abbrev pub register_after : Operand → Result ℕ AsmFault
register_after o = if o.indirect then Err faults.Operand else Ok o.reg

abbrev pub left_after : ℕ → Operand × List ℕ → Result (Operand × Option Index) AsmFault
left_after bits (o, []) = Ok (o, None)
left_after bits (o, b ∷ bs) =
    if o.indirect then made (λ i. (o, Some i)) (index bits (b ∷ bs)) else Err faults.Operand

abbrev pub right_after : ℕ → Operand × List ℕ → Result (Operand × Option Index) AsmFault
right_after bits (o, []) = Ok (o, None)
right_after bits (o, b ∷ bs) = made (λ i. (o, Some i)) (index bits (b ∷ bs))

abbrev pub extra_after : ℕ → Operand × List ℕ → Result (Operand × Extra) AsmFault
extra_after bits (o, []) = Ok (o, Nothing)
extra_after bits (o, b ∷ bs) =
    if o.indirect then made (λ i. (o, Idx i)) (index bits (b ∷ bs))
    else if b == 32 then made (λ v. (o, Imm v)) (number bits bs)
    else Err faults.Operand

-- a register, or the memory at it, with nothing beside it
unfoldable pub bare : List ℕ → Result Operand AsmFault
bare text = or_else faults.Operand (operand_of text) >>= bare_after

-- a register
abbrev pub register : List ℕ → Result ℕ AsmFault
register text = bare text >>= register_after

-- operand 1 of a move or a CMPI: an index stands only beside memory
unfoldable pub left : ℕ → List ℕ → Result (Operand × Option Index) AsmFault
left bits text = or_else faults.Operand (operand_of text) >>= left_after bits

-- operand 2 of a move: an index stands beside a register too
unfoldable pub right : ℕ → List ℕ → Result (Operand × Option Index) AsmFault
right bits text = or_else faults.Operand (operand_of text) >>= right_after bits

-- an operand with its immediate or its index
unfoldable pub extra : ℕ → List ℕ → Result (Operand × Extra) AsmFault
extra bits text = or_else faults.Operand (operand_of text) >>= extra_after bits

-- a number, or a name in its place, which then is 0
unfoldable pub value : ℕ → List ℕ → Result (ℤ × Option (List ℕ)) AsmFault
value bits text = if is_name text then Ok (pos 0, Some text) else made (λ v. (v, None)) (number bits text)

-- the operand of a target that is an immediate
abbrev pub at_value : ℤ × Option (List ℕ) → Operand × Extra × Option (List ℕ)
at_value v = (record { reg = 0; indirect = false }, Imm v.0, v.1)

-- the register of a target, which isn't R0 with an immediate
abbrev pub at_register : Operand × Extra → Result (Operand × Extra × Option (List ℕ)) AsmFault
at_register (o, Nothing) = Ok (o, Nothing, None)
at_register (o, Idx i) = Ok (o, Idx i, None)
at_register (o, Imm v) = if o.reg == 0 then Err faults.Operand else Ok (o, Imm v, None)

-- the target of a jump or a call of 32 bits: a number, where it is relative a name, or an operand
unfoldable pub near_target : Bool → List ℕ → Result (Operand × Extra × Option (List ℕ)) AsmFault
near_target relative text =
    if is_numeral text then made (λ v. at_value (v, None)) (number 32 text)
    else if relative && is_place_name text then Ok (at_value (pos 0, Some text))
    else extra 32 text >>= at_register

-- the target of a jump or a call: of 64 bits a number or a name
abbrev pub target : Bool → Bool → List ℕ → Result (Operand × Extra × Option (List ℕ)) AsmFault
target true relative text = made at_value (value 64 text)
target false relative text = near_target relative text

-- `[FLAGS]`, which LOADSP writes
abbrev pub flags_special : List ℕ → Result (Unit {0}) AsmFault
flags_special text = if bytes_eq text (codes "[FLAGS]") then Ok tt else Err faults.Operand

-- `[FLAGS]` or `[IP]`, which STORESP reads
abbrev pub special : List ℕ → Result ℕ AsmFault
special text =
    if bytes_eq text (codes "[FLAGS]") then Ok 0
    else if bytes_eq text (codes "[IP]") then Ok 1
    else Err faults.Operand
