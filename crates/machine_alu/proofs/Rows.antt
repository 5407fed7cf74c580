-- Rows of the tables, worked by hand.
use Rattle.std.specs.Prelude.{◌≡◌, true, false, Ok, Err, refl}
use Rattle.ebc_insn.specs.declared.CmpOp.TheVariants.{Eq, Lte, Gte, Ulte, Ugte}
use Rattle.ebc_insn.specs.declared.ArithOp.TheVariants.{Not, Neg, Add, Sub, Mul, Mulu, Div, Divu, Mod, Modu, Xor, Shl, Shr, Ashr, Extb}
use Rattle.ebc_insn.specs.declared.ArithOp.TheVariants.{Extw, Extd}
use Rattle.machine_alu.specs.Alu.{computed, compared, divide_error}

-- a result of 32 bits has zeros above them, whatever the operands have there
sum_narrow : computed Add false 0xFFFF_FFFF_0000_0001 0xFFFF_FFFF ≡ Ok 0
unfolding computed
sum_narrow = refl

difference : computed Sub true 3 5 ≡ Ok 0xFFFF_FFFF_FFFF_FFFE
unfolding computed
difference = refl

-- 0 has no negative, and the smallest number is its own
negative_zero : computed Neg false 7 0x5_0000_0000 ≡ Ok 0
unfolding computed
negative_zero = refl

negative_smallest : computed Neg true 0 0x8000_0000_0000_0000 ≡ Ok 0x8000_0000_0000_0000
unfolding computed
negative_smallest = refl

complement : computed Not false 0 0xFFFF_FFFF_0000_FFFF ≡ Ok 0xFFFF_0000
unfolding computed
complement = refl

-- -3 by 5 is -15, and 2 ^ 32 - 3 by 5 has the same low bits
product_signed : computed Mul false 0xFFFF_FFFD 5 ≡ Ok 0xFFFF_FFF1
unfolding computed
product_signed = refl

product_unsigned : computed Mulu false 0xFFFF_FFFD 5 ≡ Ok 0xFFFF_FFF1
unfolding computed
product_unsigned = refl

-- -7 by 2: rounded towards zero, with the sign of the dividend in the rest
quotient : computed Div false 0xFFFF_FFF9 2 ≡ Ok 0xFFFF_FFFD
unfolding computed
quotient = refl

rest : computed Mod true 0xFFFF_FFFF_FFFF_FFF9 2 ≡ Ok 0xFFFF_FFFF_FFFF_FFFF
unfolding computed
rest = refl

quotient_unsigned : computed Divu false 0xFFFF_FFF9 2 ≡ Ok 0x7FFF_FFFC
unfolding computed
quotient_unsigned = refl

rest_unsigned : computed Modu false 0xFFFF_FFF9 2 ≡ Ok 1
unfolding computed
rest_unsigned = refl

-- the smallest number by -1
quotient_smallest : computed Div false 0x8000_0000 0xFFFF_FFFF ≡ Ok 0x8000_0000
unfolding computed
quotient_smallest = refl

rest_smallest : computed Mod true 0x8000_0000_0000_0000 0xFFFF_FFFF_FFFF_FFFF ≡ Ok 0
unfolding computed
rest_smallest = refl

-- a divisor is 0 where its low bits are
zero_narrow : computed Modu false 1 0x1_0000_0000 ≡ Err divide_error
unfolding computed
zero_narrow = refl

not_zero_wide : computed Modu true 1 0x1_0000_0000 ≡ Ok 1
unfolding computed
not_zero_wide = refl

-- a shift's count is operand 2, unsigned and not masked
left_past : computed Shl false 1 32 ≡ Ok 0
unfolding computed
left_past = refl

right_past : computed Shr true 0xFFFF_FFFF_FFFF_FFFF 64 ≡ Ok 0
unfolding computed
right_past = refl

fill : computed Ashr false 0x8000_0000 33 ≡ Ok 0xFFFF_FFFF
unfolding computed
fill = refl

fill_part : computed Ashr true 0x8000_0000_0000_0000 4 ≡ Ok 0xF800_0000_0000_0000
unfolding computed
fill_part = refl

bits : computed Xor false 0b1100 0b1010 ≡ Ok 0b0110
unfolding computed
bits = refl

-- extensions take the low byte, word or dword of operand 2
byte_extended : computed Extb true 5 0x1_0180 ≡ Ok 0xFFFF_FFFF_FFFF_FF80
unfolding computed
byte_extended = refl

word_extended : computed Extw false 5 0x8001 ≡ Ok 0xFFFF_8001
unfolding computed
word_extended = refl

dword_extended : computed Extd true 5 0x7_8000_0000 ≡ Ok 0xFFFF_FFFF_8000_0000
unfolding computed
dword_extended = refl

dword_kept : computed Extd false 5 0x7_8000_0000 ≡ Ok 0x8000_0000
unfolding computed
dword_kept = refl

-- -1 is below 1 as a signed number, and above it as an unsigned one
signed_below : compared Lte false 0xFFFF_FFFF 1 ≡ true
unfolding compared
signed_below = refl

unsigned_above : compared Ulte false 0xFFFF_FFFF 1 ≡ false
unfolding compared
unsigned_above = refl

wide_above : compared Gte true 0xFFFF_FFFF 1 ≡ true
unfolding compared
wide_above = refl

unsigned_at_least : compared Ugte true 1 1 ≡ true
unfolding compared
unsigned_at_least = refl

narrow_equal : compared Eq false 0x1_0000_0005 5 ≡ true
unfolding compared
narrow_equal = refl
