-- Meaning: what the operations of arithmetic give on types. docs/RULES.md, "Arithmetic", has the rows.
use Rattle.std.specs.Prelude.{ℕ, ◌-◌, ◌/◌, ◌^◌, Bool, true, false, not, ◌&&◌, ◌||◌, min, nat_lt, nat_eq, if◌then◌else◌, Option, Some, None}
use Rattle.std.specs.Prelude.{List, Result, Ok, Err, pos, negsuc}
use Rattle.std.specs.Ordering.{int_eq}
use Rattle.ebc_insn.specs.declared.ArithOp.{ArithOp}
use Rattle.ebc_insn.specs.declared.ArithOp.TheVariants.{Not, Neg, Add, Sub, Mul, Mulu, Divu, Modu, And, Or, Shl, Shr, Extb, Extw, Extd}
use Rattle.machine_alu.specs.Alu.{bits_of, computed, divides}
use Rattle.machine_alu.specs.declared.DivideError.{DivideError}
use Rattle.note_types.specs.declared.shape.Shape.{Shape}
use Rattle.note_types.specs.declared.types.Ty.{Ty}
use Rattle.note_types.specs.declared.types.Ty.TheVariants.{Any, Int, Lin, Mask, Status}
use Rattle.rules_base.specs.declared.parts.Span.{Span}
use Rattle.rules_base.specs.Parts.{and_then, constant, constant_of, full, is_int, is_int_below, span_of}
use Rattle.rules_base.specs.Sums.{sum, difference, product}
use Rattle.std.specs.Option.{option_or}
use Rattle.ebc_base.specs.Steps.{only_if}

-- ---- rows on 64 bits

-- the type of the error bit
abbrev pub is_last_bit : Ty → Bool
is_last_bit (Lin n c) = int_eq n (pos 8) && int_eq c (negsuc 0)
is_last_bit _ = false

-- SHL64: 1 by 8W - 1 is the error bit
abbrev pub error_bit : Ty → Ty → Option Ty
error_bit a b = and_then (constant_of a) (λ x. only_if (nat_eq x 1 && is_last_bit b) Mask)

-- SHL64: an Int by a constant k is its product with 2 ^ k
abbrev pub power_product : Ty → ℕ → Option Ty
power_product a k = only_if (nat_lt k 64) (product a (constant (2 ^ k)))

abbrev pub shifted_left : Ty → Ty → Option Ty
shifted_left a b = and_then (span_of a) (λ x. and_then (constant_of b) (power_product a))

-- OR64: the error bit with a number below 2 ^ 31 is a status
abbrev pub error_status : Ty → Ty → Option Ty
error_status Mask b = only_if (is_int_below (2 ^ 31) b) (Status 0)
error_status _ b = None

-- AND64: two Ints give the numbers up to the lesser upper end
abbrev pub common_bits : Ty → Ty → Option Ty
common_bits a b = and_then (span_of a) (λ x. and_then (span_of b) (λ y. Some (Int 0 (min x.hi y.hi) 1)))

-- DIVU64: an Int by a constant from 1 on
abbrev pub divided : Span → ℕ → Option Ty
divided x k = only_if (nat_lt 0 k) (Int (x.lo / k) (x.hi / k) 1)

-- MODU64: an Int by a constant from 1 on
abbrev pub remainder : Span → ℕ → Option Ty
remainder x k = only_if (nat_lt 0 k) (Int 0 (k - 1) 1)

-- SHR64: an Int by a constant below 64
abbrev pub shifted_right : Span → ℕ → Option Ty
shifted_right x k = only_if (nat_lt k 64) (Int (x.lo / 2 ^ k) (x.hi / 2 ^ k) 1)

-- an Int by a constant
abbrev pub by_constant : (Span → ℕ → Option Ty) → Ty → Ty → Option Ty
by_constant row a b = and_then (span_of a) (λ x. and_then (constant_of b) (row x))

-- SHL64
abbrev pub shl_row : Ty → Ty → Option Ty
shl_row a b = option_or (error_bit a b) (shifted_left a b)

-- OR64, in either order
abbrev pub or_row : Ty → Ty → Option Ty
or_row a b = option_or (error_status a b) (error_status b a)

-- the operations on 64 bits that have rows of their own
unfoldable pub wide_row : List Shape → ArithOp → Ty → Ty → Option Ty
wide_row shapes Add a b = Some (sum shapes a b)
wide_row shapes Sub a b = Some (difference shapes a b)
wide_row shapes Mul a b = Some (product a b)
wide_row shapes Mulu a b = Some (product a b)
wide_row shapes Shl a b = shl_row a b
wide_row shapes Or a b = or_row a b
wide_row shapes And a b = common_bits a b
wide_row shapes Divu a b = by_constant divided a b
wide_row shapes Modu a b = by_constant remainder a b
wide_row shapes Shr a b = by_constant shifted_right a b
wide_row shapes _ a b = None

-- ---- other arithmetic

-- an operation on operand 2 alone
abbrev pub is_unary : ArithOp → Bool
is_unary Not = true
is_unary Neg = true
is_unary Extb = true
is_unary Extw = true
is_unary Extd = true
is_unary _ = false

-- the number that an operation gives, or any of the form where it divides by 0
abbrev pub folded : Bool → Result ℕ DivideError → Ty
folded wide (Ok v) = constant v
folded wide (Err e) = full (bits_of wide)

-- two constants fold
abbrev pub fold_row : ArithOp → Bool → Ty → Ty → Option Ty
fold_row op wide a b =
    and_then (constant_of a) (λ x. and_then (constant_of b) (λ y. Some (folded wide (computed op wide x y))))

-- two Ints give any number of the form
abbrev pub int_row : Bool → Ty → Ty → Ty
int_row wide a b = if is_int a && is_int b then full (bits_of wide) else Any

abbrev pub or_ints : Bool → Ty → Ty → Option Ty → Ty
or_ints wide a b None = int_row wide a b
or_ints wide a b (Some t) = t

abbrev pub other_row : ArithOp → Bool → Ty → Ty → Ty
other_row op wide a b = or_ints wide a b (fold_row op wide a b)

-- the row of an operation, or else that of other arithmetic, where one on operand 2 alone looks at it twice
abbrev pub or_other : ArithOp → Bool → Ty → Ty → Option Ty → Ty
or_other op wide a b None = other_row op wide (if is_unary op then b else a) b
or_other op wide a b (Some t) = t

-- what an operation gives
unfoldable pub computed_type : List Shape → ArithOp → Bool → Ty → Ty → Ty
computed_type shapes op wide a b = or_other op wide a b (if wide then wide_row shapes op a b else None)

-- the divisor of a division is a number
abbrev pub divisor_known : ArithOp → Ty → Bool
divisor_known op b = not (divides op) || is_int b
