-- Meaning: Sums, differences and products of types. docs/RULES.md has the rows.
use Rattle.std.specs.Prelude.{ℕ, zero, suc, ◌+◌, ◌-◌, ◌*◌, ◌/◌, ◌%◌, ◌^◌, Bool, true, false, ◌&&◌, ◌||◌, nat_lt, nat_le, nat_eq}
use Rattle.std.specs.Prelude.{if◌then◌else◌, List, Option, Some, None, slice_get, ℤ, pos, ◌+ℤ◌, int_le, unsigned_abs}
use Rattle.note_types.specs.BelowTests.{divides}
use Rattle.note_types.specs.declared.shape.Shape.{Shape}
use Rattle.note_types.specs.declared.types.Ty.{Ty}
use Rattle.note_types.specs.declared.types.Ty.TheVariants.{Any, Int, Lin, Scaled, Ptr}
use Rattle.rules_base.specs.declared.parts.Offset.{Offset}
use Rattle.rules_base.specs.declared.parts.Pointer.{Pointer}
use Rattle.rules_base.specs.declared.parts.Span.{Span}
use Rattle.rules_base.specs.Parts.{and_then, constant, constant_of, divisor_of, fall_of, full, is_near, lin_of, near_offset, offset_of}
use Rattle.rules_base.specs.Parts.{pointer_of, span_of}
use Rattle.std.specs.Option.{option_or}
use Rattle.ebc_width.specs.Width.{distance_of}
use Rattle.ebc_base.specs.Steps.{only_if}

-- ---- divisors

-- the greatest common divisor, by so many steps of Euclid's algorithm
abbrev pub euclid : ℕ → ℕ → ℕ → ℕ
euclid zero a b = 1
euclid (suc k) a zero = a
euclid (suc k) a (suc b) = euclid k (suc b) (a % suc b)

-- the greatest common divisor of two numbers
unfoldable pub gcd : ℕ → ℕ → ℕ
gcd a b = euclid (b + 1) a b

-- a divisor, where 0 counts as 1
abbrev pub at_least_one : ℕ → ℕ
at_least_one zero = 1
at_least_one (suc n) = suc n

-- a divisor that two numbers share
unfoldable pub shared : ℕ → ℕ → ℕ
shared a b = at_least_one (gcd a b)

-- ---- within the limit of 2 ^ 20

-- n natural units and c bytes as a number
abbrev pub lin : ℤ → ℤ → Ty
lin n c = if is_near n && is_near c then Lin n c else Any

-- a pointer that is n natural units and c bytes past an instance
abbrev pub pointer_at : Pointer → ℤ → ℤ → Ty
pointer_at p n c = if is_near n && is_near c then Ptr p.shape p.count n c false else Any

-- a pointer some instances on
abbrev pub onward : Pointer → ℕ → Ty
onward p steps = Ptr p.shape (p.count - steps) p.n p.c false

-- ---- the rows of a sum

-- two constants
abbrev pub constant_sum : Ty → Ty → Option Ty
constant_sum a b = and_then (constant_of a) (λ x. and_then (constant_of b) (λ y. Some (constant ((x + y) % 2 ^ 64))))

-- an Int less m, where both ends stay at least 0
abbrev pub fallen : Span → ℕ → Option Ty
fallen x m = only_if (nat_le m x.lo) (Int (x.lo - m) (x.hi - m) (shared x.div m))

-- an Int and a small negative constant
abbrev pub fall_sum : Ty → Ty → Option Ty
fall_sum a b = and_then (span_of a) (λ x. and_then (and_then (constant_of b) fall_of) (λ m. fallen x m))

-- two Ints, where both ends stay below 2 ^ 64
abbrev pub added : Span → Span → Ty
added x y =
    if nat_lt (x.lo + y.lo) (2 ^ 64) && nat_lt (x.hi + y.hi) (2 ^ 64)
    then Int (x.lo + y.lo) (x.hi + y.hi) (shared (divisor_of x) (divisor_of y))
    else full 64

abbrev pub int_sum : Ty → Ty → Option Ty
int_sum a b = and_then (span_of a) (λ x. and_then (span_of b) (λ y. Some (added x y)))

-- a Lin and a Lin or a small constant
abbrev pub lin_sum : Ty → Ty → Option Ty
lin_sum a b = and_then (lin_of a) (λ x. and_then (offset_of b) (λ y. Some (lin (x.n +ℤ y.n) (x.c +ℤ y.c))))

-- a pointer and a Scaled of its stride
abbrev pub by_scaled : Pointer → Shape → Ty → Option Ty
by_scaled p s (Scaled n c hi) = only_if (nat_eq s.n n && (nat_eq s.c c && nat_lt hi p.count)) (onward p hi)
by_scaled p s _ = None

abbrev pub scaled_sum : List Shape → Ty → Ty → Option Ty
scaled_sum shapes a b = and_then (pointer_of a) (λ p. and_then (slice_get shapes p.shape) (λ s. by_scaled p s b))

-- numbers all of which a stride divides
abbrev pub strides : ℕ → Span → Bool
strides size x = nat_lt 0 size && (divides size x.div || (nat_eq x.lo x.hi && divides size x.lo))

-- a pointer and a multiple of its stride, of bytes alone
abbrev pub by_bytes : Pointer → Shape → Span → Option Ty
by_bytes p s x = only_if (nat_eq s.n 0 && (strides s.c x && nat_lt (x.hi / s.c) p.count)) (onward p (x.hi / s.c))

abbrev pub bytes_sum : List Shape → Ty → Ty → Option Ty
bytes_sum shapes a b =
    and_then (pointer_of a) (λ p. and_then (slice_get shapes p.shape) (λ s. and_then (span_of b) (λ x. by_bytes p s x)))

-- a pointer and a small constant or a Lin
abbrev pub offset_sum : Ty → Ty → Option Ty
offset_sum a b = and_then (pointer_of a) (λ p. and_then (offset_of b) (λ o. Some (pointer_at p (p.n +ℤ o.n) (p.c +ℤ o.c))))

-- a pointer and what may be added to it
abbrev pub pointer_sum : List Shape → Ty → Ty → Option Ty
pointer_sum shapes a b = option_or (scaled_sum shapes a b) (option_or (bytes_sum shapes a b) (offset_sum a b))

-- the first row that applies, in either order
unfoldable pub sum_row : List Shape → Ty → Ty → Option Ty
sum_row shapes a b =
    option_or (constant_sum a b) (option_or (fall_sum a b) (option_or (fall_sum b a) (option_or (int_sum a b)
    (option_or (lin_sum a b) (option_or (lin_sum b a) (option_or (pointer_sum shapes a b) (pointer_sum shapes b a)))))))

abbrev pub or_any : Option Ty → Ty
or_any None = Any
or_any (Some t) = t

-- the sum of two types
unfoldable pub sum : List Shape → Ty → Ty → Ty
sum shapes a b = or_any (sum_row shapes a b)

-- ---- the rows of a difference

-- two constants
abbrev pub constant_difference : Ty → Ty → Option Ty
constant_difference a b = and_then (constant_of a) (λ x. and_then (constant_of b) (λ y. Some (constant (distance_of x y))))

-- two Ints
abbrev pub taken : Span → Span → Ty
taken x y = if nat_le y.hi x.lo then Int (x.lo - y.hi) (x.hi - y.lo) (shared (divisor_of x) (divisor_of y)) else full 64

abbrev pub int_difference : Ty → Ty → Option Ty
int_difference a b = and_then (span_of a) (λ x. and_then (span_of b) (λ y. Some (taken x y)))

-- the type is a Lin or a pointer
abbrev pub is_moved : Ty → Bool
is_moved (Lin n c) = true
is_moved (Ptr s k n c null) = true
is_moved _ = false

-- the negative of a small constant
abbrev pub small_negative : ℕ → Option Ty
small_negative k = and_then (near_offset k) (λ o. Some (constant (distance_of 0 k)))

-- a Lin or a pointer less a small constant
abbrev pub offset_difference : List Shape → Ty → Ty → Option Ty
offset_difference shapes a b =
    if is_moved a then and_then (and_then (constant_of b) small_negative) (λ t. Some (sum shapes a t)) else None

-- the difference of two types
unfoldable pub difference : List Shape → Ty → Ty → Ty
difference shapes a b = or_any (option_or (constant_difference a b) (option_or (int_difference a b) (offset_difference shapes a b)))

-- ---- the rows of a product

-- two constants
abbrev pub constant_product : Ty → Ty → Option Ty
constant_product a b = and_then (constant_of a) (λ x. and_then (constant_of b) (λ y. Some (constant (x * y % 2 ^ 64))))

-- a divisor, where one past 64 bits counts as 1
abbrev pub divisor_within : ℕ → ℕ
divisor_within d = if nat_lt d (2 ^ 64) then d else 1

-- an Int times a constant from 1 on, where both ends stay below 2 ^ 64
abbrev pub times : Span → ℕ → Option Ty
times x k =
    only_if (nat_lt 0 k && (nat_lt (x.lo * k) (2 ^ 64) && nat_lt (x.hi * k) (2 ^ 64)))
    (Int (x.lo * k) (x.hi * k) (divisor_within (x.div * k)))

abbrev pub multiple : Ty → Ty → Option Ty
multiple a b = and_then (span_of a) (λ x. and_then (constant_of b) (λ k. times x k))

-- an Int times a Lin of no negative bytes, where the greatest product stays below 2 ^ 32 at both widths
abbrev pub scaled : Span → Offset → Option Ty
scaled x o =
    only_if (int_le (pos 0) o.n && (int_le (pos 0) o.c && nat_lt (x.hi * (8 * unsigned_abs o.n + unsigned_abs o.c)) (2 ^ 32)))
    (Scaled (unsigned_abs o.n) (unsigned_abs o.c) x.hi)

abbrev pub lin_product : Ty → Ty → Option Ty
lin_product a b = and_then (span_of a) (λ x. and_then (lin_of b) (scaled x))

-- other Ints
abbrev pub int_product : Ty → Ty → Option Ty
int_product a b = and_then (span_of a) (λ x. and_then (span_of b) (λ y. Some (full 64)))

-- the product of two types
unfoldable pub product : Ty → Ty → Ty
product a b =
    or_any (option_or (constant_product a b) (option_or (multiple a b) (option_or (multiple b a)
    (option_or (lin_product a b) (option_or (lin_product b a) (int_product a b))))))
