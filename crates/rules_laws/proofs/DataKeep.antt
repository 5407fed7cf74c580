-- The instructions on data keep the conditions on a state.
use Rattle.rules_laws.proofs.Common.{ℕ, ◌-◌, ◌/◌, ◌^◌, ◌<◌, ◌≤◌, Bool, true, false, ◌&&◌, nat_lt, nat_eq, min, List, Option, None, Some}
use Rattle.rules_laws.proofs.Common.{if◌then◌else◌, arith, IfSome, IfOk, Result, Ok, Err, ltb-true, div-le_self, pow-lt, ArithOp, Add, Sub}
use Rattle.rules_laws.proofs.Common.{Mulu, Divu, Modu, And, Or, Shl, Shr, computed, DivideError, FnNote, Notes, Shape, Ty, Span}
use Rattle.rules_laws.proofs.Common.{constant_of, full, span_of, computed_type, IsKnown, some_choice, some_any}
use Rattle.std.proofs.{Math.Nat.div-mul-le_self, Math.Pow.shr_mono}
use Rattle.std.proofs.lemmas.Nat.{le-div}
use Rattle.ebc_insn.specs.declared.ArithOp.TheVariants.{Mul}
use Rattle.machine_alu.specs.Alu.{bits_of}
use Rattle.rules_base.specs.Parts.{is_int, is_int_below}
use Rattle.rules_data.specs.Arithmetic.{by_constant, common_bits, divided, error_bit, error_status, fold_row, folded, is_last_bit, is_unary}
use Rattle.rules_data.specs.Arithmetic.{or_ints, or_other, remainder, shifted_left, shifted_right, wide_row}
use Rattle.rules_laws.proofs.SumsKeep.{IsSpan, any_known, constant_known, constant_of_below, difference-known, if_known, int_known}
use Rattle.rules_laws.proofs.SumsKeep.{product-known, span_of_known, sum-known}
use Rattle.rules_laws.proofs.{Options.some_else, Options.some_if, Options.some_then, LoadsKeep.status_known, OutcomesBelow.computed_below}
use Rattle.note_types.specs.declared.types.Ty.TheVariants as ty

-- ---- rows on 64 bits

mask_known : (notes : Notes) (f : FnNote) → IsKnown notes f ty.Mask
mask_known notes f = record { bounded = tt; names = tt }

error_bit-known : (notes : Notes) (f : FnNote) (a b : Ty) → IfSome (error_bit a b) (IsKnown notes f)
error_bit-known notes f a b =
    some_then (λ _. Unit {0}) (IsKnown notes f) (constant_of a) _ (some_any (constant_of a))
    (λ x h. some_if (IsKnown notes f) (nat_eq x 1 && is_last_bit b) ty.Mask (λ e. mask_known notes f))

power_below : (k : ℕ) → k < 64 → 2 ^ k < 2 ^ 64
power_below k h = pow-lt h

shifted_left-known : (notes : Notes) (f : FnNote) (a b : Ty) → IsKnown notes f a → IfSome (shifted_left a b) (IsKnown notes f)
shifted_left-known notes f a b h =
    some_then (λ _. Unit {0}) (IsKnown notes f) (span_of a) _ (some_any (span_of a))
    (λ x g. some_then (λ _. Unit {0}) (IsKnown notes f) (constant_of b) _ (some_any (constant_of b))
    (λ k i. some_if (IsKnown notes f) (nat_lt k 64) _ (λ e. product-known notes f a _ h
    (constant_known notes f _ (power_below k (ltb-true k 64 e))))))

error_status-known : (notes : Notes) (f : FnNote) (a b : Ty) → IfSome (error_status a b) (IsKnown notes f)
error_status-known notes f ty.Mask b = some_if (IsKnown notes f) (is_int_below (2 ^ 31) b) (ty.Status 0) (λ e. status_known notes f)
error_status-known notes f _ b = tt

common_bits-known : (notes : Notes) (f : FnNote) (a b : Ty) → IsKnown notes f a → IfSome (common_bits a b) (IsKnown notes f)
common_bits-known notes f a b h =
    some_then IsSpan (IsKnown notes f) (span_of a) _ (span_of_known notes f a h)
    (λ x g. some_then (λ _. Unit {0}) (IsKnown notes f) (span_of b) _ (some_any (span_of b))
    (λ y i. let w = g.word in int_known notes f 0 (min x.hi y.hi) 1 (omega arith) (omega arith) (omega arith) (omega arith)))

by_constant-known : (notes : Notes) (f : FnNote) (row : Span → ℕ → Option Ty) (a b : Ty) → IsKnown notes f a → IsKnown notes f b
    → ((x : Span) (k : ℕ) → IsSpan x → k < 2 ^ 64 → IfSome (row x k) (IsKnown notes f)) → IfSome (by_constant row a b) (IsKnown notes f)
by_constant-known notes f row a b h g r =
    some_then IsSpan (IsKnown notes f) (span_of a) _ (span_of_known notes f a h)
    (λ x i. some_then (λ k. k < 2 ^ 64) (IsKnown notes f) (constant_of b) (row x) (constant_of_below notes f b g) (λ k j. r x k i j))

div_mono : {a b : ℕ} (k : ℕ) → 0 < k → a ≤ b → a / k ≤ b / k
div_mono {a} {b} k h g = let l = div-mul-le_self a k in le-div (a / k) b k h (omega arith)

divided_known : (notes : Notes) (f : FnNote) (x : Span) (k : ℕ) → IsSpan x → k < 2 ^ 64 → IfSome (divided x k) (IsKnown notes f)
divided_known notes f x k h g =
    some_if (IsKnown notes f) (nat_lt 0 k) _
    (λ e. let w = h.word in let l = div-le_self x.hi k in int_known notes f (x.lo / k) (x.hi / k) 1 (div_mono k (ltb-true 0 k e) h.ends)
    (omega arith) (omega arith) (omega arith))

remainder_known : (notes : Notes) (f : FnNote) (x : Span) (k : ℕ) → IsSpan x → k < 2 ^ 64 → IfSome (remainder x k) (IsKnown notes f)
remainder_known notes f x k h g = some_if (IsKnown notes f) (nat_lt 0 k) _
    (λ e. int_known notes f 0 (k - 1) 1 (omega arith) (omega arith) (omega arith) (omega arith))

shifted_right-known : (notes : Notes) (f : FnNote) (x : Span) (k : ℕ) → IsSpan x → k < 2 ^ 64 → IfSome (shifted_right x k) (IsKnown notes f)
shifted_right-known notes f x k h g =
    some_if (IsKnown notes f) (nat_lt k 64) _
    (λ e. let w = h.word in let l = div-le_self x.hi (2 ^ k) in
    int_known notes f (x.lo / 2 ^ k) (x.hi / 2 ^ k) 1 (shr_mono k h.ends) (omega arith) (omega arith) (omega arith))

wide_row-known : (notes : Notes) (f : FnNote) (shapes : List Shape) (op : ArithOp) (a b : Ty) → IsKnown notes f a → IsKnown notes f b
    → IfSome (wide_row shapes op a b) (IsKnown notes f)
unfolding wide_row
wide_row-known notes f shapes Add a b h g = sum-known notes f shapes a b h g
wide_row-known notes f shapes Sub a b h g = difference-known notes f shapes a b h g
wide_row-known notes f shapes Mul a b h g = product-known notes f a b h g
wide_row-known notes f shapes Mulu a b h g = product-known notes f a b h g
wide_row-known notes f shapes Shl a b h g = some_else (IsKnown notes f) (error_bit a b) _ (error_bit-known notes f a b)
    (shifted_left-known notes f a b h)
wide_row-known notes f shapes Or a b h g = some_else (IsKnown notes f) (error_status a b) _ (error_status-known notes f a b)
    (error_status-known notes f b a)
wide_row-known notes f shapes And a b h g = common_bits-known notes f a b h
wide_row-known notes f shapes Divu a b h g = by_constant-known notes f divided a b h g (divided_known notes f)
wide_row-known notes f shapes Modu a b h g = by_constant-known notes f remainder a b h g (remainder_known notes f)
wide_row-known notes f shapes Shr a b h g = by_constant-known notes f shifted_right a b h g (shifted_right-known notes f)
wide_row-known notes f shapes _ a b h g = tt

-- ---- other arithmetic

full_of-known : (notes : Notes) (f : FnNote) (wide : Bool) → IsKnown notes f (full (bits_of wide))
full_of-known notes f true = int_known notes f 0 (2 ^ 64 - 1) 1 (omega arith) (omega arith) (omega arith) (omega arith)
full_of-known notes f false = int_known notes f 0 (2 ^ 32 - 1) 1 (omega arith) (omega arith) (omega arith) (omega arith)

folded_known : (notes : Notes) (f : FnNote) (wide : Bool) (r : Result ℕ DivideError) → IfOk r (λ v. v < 2 ^ 64)
    → IsKnown notes f (folded wide r)
folded_known notes f wide (Ok v) h = constant_known notes f v h
folded_known notes f wide (Err e) h = full_of-known notes f wide

fold_row-known : (notes : Notes) (f : FnNote) (op : ArithOp) (wide : Bool) (a b : Ty) → IfSome (fold_row op wide a b) (IsKnown notes f)
fold_row-known notes f op wide a b =
    some_then (λ _. Unit {0}) (IsKnown notes f) (constant_of a) _ (some_any (constant_of a))
    (λ x h. some_then (λ _. Unit {0}) (IsKnown notes f) (constant_of b) _ (some_any (constant_of b))
    (λ y g. folded_known notes f wide (computed op wide x y) (computed_below op wide x y)))

or_ints-known : (notes : Notes) (f : FnNote) (wide : Bool) (a b : Ty) (o : Option Ty) → IfSome o (IsKnown notes f)
    → IsKnown notes f (or_ints wide a b o)
or_ints-known notes f wide a b None h = if_known notes f (is_int a && is_int b) _ _ (λ e. full_of-known notes f wide) (any_known notes f)
or_ints-known notes f wide a b (Some t) h = h

or_other-known : (notes : Notes) (f : FnNote) (op : ArithOp) (wide : Bool) (a b : Ty) (o : Option Ty) → IfSome o (IsKnown notes f)
    → IsKnown notes f (or_other op wide a b o)
or_other-known notes f op wide a b None h =
    or_ints-known notes f wide (if is_unary op then b else a) b (fold_row op wide (if is_unary op then b else a) b)
    (fold_row-known notes f op wide (if is_unary op then b else a) b)
or_other-known notes f op wide a b (Some t) h = h

-- what an operation gives of known types is known
pub computed_type-known : (notes : Notes) (f : FnNote) (shapes : List Shape) (op : ArithOp) (wide : Bool) (a b : Ty) → IsKnown notes f a
    → IsKnown notes f b → IsKnown notes f (computed_type shapes op wide a b)
unfolding computed_type
computed_type-known notes f shapes op wide a b h g =
    or_other-known notes f op wide a b _ (some_choice (IsKnown notes f) wide (wide_row shapes op a b) None
    (wide_row-known notes f shapes op a b h g) tt)
