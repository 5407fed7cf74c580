-- The parts of two bytes and the numbers in fields, both ways: as they are spelled, and as they are read.
use Rattle.std.proofs.Common.{◌≡◌, ℕ, ◌+◌, ◌-◌, ◌*◌, ◌/◌, ◌%◌, ◌^◌, ◌<◌, Bool, true, false, suc, List, get_or, take, drop, arith, ap, subst}
use Rattle.std.proofs.Common.{◌∙◌, ℤ, pos}
use Rattle.std.specs.Prelude.{negsuc}
use Rattle.std.proofs.Math.Nat.{pow-suc}
use Rattle.std.proofs.lemmas.Grind.{common_steps}
use Rattle.natural_index.specs.Index.{bit}
use Rattle.ebc_insn.specs.declared.Operand.{Operand}
use Rattle.ebc_insn.specs.Spelling.{FitsInt, head, int_raw, operand}
use Rattle.ebc_decode.specs.Reading.{flag, left_at, operand_at, right_at}
use Rattle.ebc_width.specs.Width.{signed_at}

-- ---- bits

pub flag_bit : (n : ℕ) (b : Bool) → n % 2 ≡ bit b → flag n ≡ b
flag_bit n true e = grind arith
flag_bit n false e = grind arith

pub bit_flag : (n : ℕ) → bit (flag n) ≡ n % 2
bit_flag n = grind arith

pub bit_below : (b : Bool) → bit b < 2
bit_below true = omega arith
bit_below false = omega arith

-- ---- the opcode byte

pub head_low : (opcode : ℕ) (six seven : Bool) → opcode < 64 → head opcode six seven % 64 ≡ opcode
head_low opcode six seven h = omega (arith, bit_below six, bit_below seven)

pub head_six : (opcode : ℕ) (six seven : Bool) → opcode < 64 → flag (head opcode six seven / 64) ≡ six
head_six opcode six seven h = flag_bit _ six (omega (arith, bit_below six, bit_below seven))

pub head_seven : (opcode : ℕ) (six seven : Bool) → opcode < 64 → flag (head opcode six seven / 128) ≡ seven
head_seven opcode six seven h = flag_bit _ seven (omega (arith, bit_below six, bit_below seven))

pub head_whole : (n : ℕ) → n < 256 → head (n % 64) (flag (n / 64)) (flag (n / 128)) ≡ n
head_whole n h = omega (arith, bit_flag (n / 64), bit_flag (n / 128))

-- ---- the operands byte

pub operand_below : (o : Operand) → o.reg < 8 → operand o < 16
operand_below o h = omega (arith, bit_below o.indirect)

made : ℕ → Bool → Operand
made r b = record { reg = r; indirect = b }

made_same : (r s : ℕ) (b c : Bool) → r ≡ s → b ≡ c → made r b ≡ made s c
made_same r s b c p q = cc

operand_from : (o : Operand) (r : ℕ) (b : Bool) → r ≡ o.reg → b ≡ o.indirect → record { reg = r; indirect = b } ≡ o
unfolding made
operand_from o r b p q = made_same r o.reg b o.indirect p q

operand_again : (o : Operand) → o.reg < 8 → operand_at (operand o) ≡ o
operand_again o h =
    operand_from o _ _ (omega (arith, bit_below o.indirect))
    (flag_bit _ o.indirect (omega (arith, bit_below o.indirect)))

-- Operand 1 of a byte whose low four bits spell it.
pub left_again : (b1 : ℕ) (o : Operand) → o.reg < 8 → b1 % 16 ≡ operand o → left_at b1 ≡ o
left_again b1 o h e = ap operand_at e ∙ operand_again o h

-- Operand 2 of a byte whose high four bits spell it.
pub right_again : (b1 : ℕ) (o : Operand) → o.reg < 8 → b1 / 16 ≡ operand o → right_at b1 ≡ o
right_again b1 o h e = ap operand_at e ∙ operand_again o h

pub operand_whole : (n : ℕ) → n < 16 → operand (operand_at n) ≡ n
operand_whole n h = omega (arith, bit_flag (n / 8))

-- ---- signed numbers

double : (bits : ℕ) → 0 < bits → 2 ^ bits ≡ 2 * 2 ^ (bits - 1)
double bits some =
    let e : suc (bits - 1) ≡ bits = omega arith in
    let p : 2 ^ bits ≡ 2 ^ (bits - 1) * 2 = subst (λ k. 2 ^ k ≡ 2 ^ (bits - 1) * 2) e (pow-suc 2 (bits - 1)) in
    omega (arith, p)

pub signed_again : (bits : ℕ) (v : ℤ) → 0 < bits → FitsInt bits v → signed_at bits (int_raw bits v) ≡ v
signed_again bits (pos n) some h = grind arith
signed_again bits (negsuc n) some h = grind (arith, double bits some)

pub signed_below : (bits : ℕ) (v : ℤ) → 0 < bits → FitsInt bits v → int_raw bits v < 2 ^ bits
signed_below bits (pos n) some h = omega (arith, double bits some)
signed_below bits (negsuc n) some h = omega (arith, double bits some)

pub signed_whole : (bits n : ℕ) → 0 < bits → n < 2 ^ bits → int_raw bits (signed_at bits n) ≡ n
signed_whole bits n some h = grind (arith, double bits some)

pub signed_fits : (bits n : ℕ) → 0 < bits → n < 2 ^ bits → FitsInt bits (signed_at bits n)
signed_fits bits n some h = grind (arith, double bits some)

-- ---- bytes

-- Each member is a byte (past the end 0 stands).
abbrev pub IsBytes : List ℕ → Type 0
IsBytes bytes = (i : ℕ) → get_or bytes i 0 < 256

pub IsBytes-take : (n : ℕ) (bytes : List ℕ) → IsBytes bytes → IsBytes (take n bytes)
IsBytes-take n bytes each i = grind (arith, common_steps, each i)

pub IsBytes-drop : (n : ℕ) (bytes : List ℕ) → IsBytes bytes → IsBytes (drop n bytes)
IsBytes-drop n bytes each i = grind (arith, common_steps, each (n + i))
