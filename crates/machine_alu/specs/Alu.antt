-- Meaning: what each operation of arithmetic and each comparison gives, at 32 and at 64 bits: UEFI specification, chapter
-- "EFI Byte Code Virtual Machine", section "EBC Instruction Set", from "ADD" to "XOR"; what that leaves open is in
-- docs/MACHINE.md, "Arithmetic".
use Rattle.std.specs.Prelude.{ℕ, ◌+◌, ◌-◌, ◌*◌, ◌/◌, ◌%◌, ◌^◌, Bool, true, false, ◌&&◌, nat_eq, nat_le, nat_lt, if◌then◌else◌, ℤ, pos}
use Rattle.std.specs.Prelude.{negsuc, ◌*ℤ◌, int_le, int_div, int_rem, bit_and, bit_or, bit_xor, Result, Ok, Err}
use Rattle.ebc_insn.specs.declared.CmpOp.{CmpOp}
use Rattle.ebc_insn.specs.declared.CmpOp.TheVariants.{Eq, Lte, Gte, Ulte, Ugte}
use Rattle.ebc_insn.specs.declared.ArithOp.{ArithOp}
use Rattle.ebc_insn.specs.declared.ArithOp.TheVariants.{Not, Neg, Add, Sub, Mul, Mulu, Div, Divu, Mod, Modu, And, Or, Xor, Shl, Shr, Ashr}
use Rattle.ebc_insn.specs.declared.ArithOp.TheVariants.{Extb, Extw, Extd}
use Rattle.machine_alu.specs.declared.DivideError.{DivideError}

-- ---- numbers in some bits

-- how many bits a form works on
abbrev pub bits_of : Bool → ℕ
bits_of wide = if wide then 64 else 32

-- the low bits of a number
abbrev pub low : ℕ → ℕ → ℕ
low bits x = x % 2 ^ bits

-- the signed number that the low bits of x spell
abbrev pub signed : ℕ → ℕ → ℤ
signed bits x = if nat_lt (low bits x) (2 ^ (bits - 1)) then pos (low bits x) else negsuc (2 ^ bits - 1 - low bits x)

-- a signed number modulo 2 ^ bits
abbrev pub wrap : ℕ → ℤ → ℕ
wrap bits (pos n) = n % 2 ^ bits
wrap bits (negsuc n) = 2 ^ bits - 1 - n % 2 ^ bits

-- a signed number divided by 2 ^ count, rounded down
abbrev pub shifted : ℤ → ℕ → ℤ
shifted (pos n) count = pos (n / 2 ^ count)
shifted (negsuc n) count = negsuc (n / 2 ^ count)

-- ---- the tables

-- the result of an operation on x and y, the low bits of operand 1 and of operand 2, where y isn't a divisor 0
abbrev pub outcome : ℕ → ArithOp → ℕ → ℕ → ℕ
outcome bits Not x y = 2 ^ bits - 1 - y
outcome bits Neg x y = (2 ^ bits - y) % 2 ^ bits
outcome bits Add x y = (x + y) % 2 ^ bits
outcome bits Sub x y = (x + (2 ^ bits - y)) % 2 ^ bits
outcome bits Mul x y = wrap bits (signed bits x *ℤ signed bits y)
outcome bits Mulu x y = (x * y) % 2 ^ bits
outcome bits Div x y = wrap bits (int_div (signed bits x) (signed bits y))
outcome bits Divu x y = x / y
outcome bits Mod x y = wrap bits (int_rem (signed bits x) (signed bits y))
outcome bits Modu x y = x % y
outcome bits And x y = bit_and x y
outcome bits Or x y = bit_or x y
outcome bits Xor x y = bit_xor x y
outcome bits Shl x y = (x * 2 ^ y) % 2 ^ bits
outcome bits Shr x y = x / 2 ^ y
outcome bits Ashr x y = wrap bits (shifted (signed bits x) y)
outcome bits Extb x y = wrap bits (signed 8 y)
outcome bits Extw x y = wrap bits (signed 16 y)
outcome bits Extd x y = wrap bits (signed 32 y)

-- whether an operation divides by operand 2
abbrev pub divides : ArithOp → Bool
divides Div = true
divides Divu = true
divides Mod = true
divides Modu = true
divides op = false

-- whether an operation divides by 0: by an operand 2 whose low bits are 0
abbrev pub divides_by_zero : ArithOp → Bool → ℕ → Bool
divides_by_zero op wide b = divides op && nat_eq (low (bits_of wide) b) 0

-- the one value of the error
abbrev pub divide_error : DivideError
divide_error = record {}

-- the result of an operation on operand 1, a, and operand 2, b, with zeros above the low bits
unfoldable pub computed : ArithOp → Bool → ℕ → ℕ → Result ℕ DivideError
computed op wide a b =
    if divides_by_zero op wide b then Err divide_error
    else Ok (outcome (bits_of wide) op (low (bits_of wide) a) (low (bits_of wide) b))

-- how the low bits of operand 1, x, compare with those of operand 2, y
abbrev pub relates : ℕ → CmpOp → ℕ → ℕ → Bool
relates bits Eq x y = nat_eq (low bits x) (low bits y)
relates bits Lte x y = int_le (signed bits x) (signed bits y)
relates bits Gte x y = int_le (signed bits y) (signed bits x)
relates bits Ulte x y = nat_le (low bits x) (low bits y)
relates bits Ugte x y = nat_le (low bits y) (low bits x)

-- the comparison of operand 1, a, with operand 2, b
unfoldable pub compared : CmpOp → Bool → ℕ → ℕ → Bool
compared op wide a b = relates (bits_of wide) op a b
