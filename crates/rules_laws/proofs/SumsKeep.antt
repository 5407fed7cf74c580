-- Sums, differences and products of known types are known.
use Rattle.rules_laws.proofs.Common.{◌≡◌, ℕ, zero, suc, ◌+◌, ◌-◌, ◌/◌, ◌^◌, ◌<◌, ◌≤◌, Bool, true, false, ◌&&◌, nat_lt, nat_le, nat_eq, List}
use Rattle.rules_laws.proofs.Common.{length, Option, None, Some, slice_get, if◌then◌else◌, refl, arith, mod-lt, ℤ, pos, ◌+ℤ◌, IfSome}
use Rattle.rules_laws.proofs.Common.{negsuc, unsigned_abs, ◌≤ℤ◌, and_parts, leb-true, ltb-true, ints, FnNote, Notes, Shape, Ty, Int, Lin}
use Rattle.rules_laws.proofs.Common.{Ptr, Span, and_then, constant, constant_of, full, span_of, or_any, IsKnown, some_any}
use Rattle.std.proofs.{Common.◌*◌, Common.◌%◌, Common.zero-lt-suc, Math.Nat.mul-le-mul_right}
use Rattle.note_types.specs.Types.{IsNear, IsUnits}
use Rattle.note_types.specs.declared.types.Ty.TheVariants.{Any, Scaled}
use Rattle.rules_base.specs.declared.{parts.Offset.Offset, parts.Pointer.Pointer}
use Rattle.rules_base.specs.Parts.{single, divisor_of, fall_of, is_near, lin_of, near_offset, offset_of, pointer_of, signed}
use Rattle.rules_base.specs.Sums.{at_least_one, shared, euclid, gcd, lin, pointer_at, onward, constant_sum, fallen, fall_sum, added}
use Rattle.rules_base.specs.Sums.{int_sum, lin_sum, by_scaled, scaled_sum, strides, by_bytes, bytes_sum, offset_sum, pointer_sum, sum_row}
use Rattle.rules_base.specs.Sums.{sum, constant_difference, taken, int_difference, is_moved, small_negative, difference, constant_product}
use Rattle.rules_base.specs.Sums.{divisor_within, times, multiple, scaled, lin_product, int_product, product}
use Rattle.rules_laws.proofs.Options.{some_then, some_else, some_if}

-- ---- parts

-- the numbers of a known Int
pub record IsSpan (x : Span) : Type 0 where
  pub ends : x.lo ≤ x.hi
  pub word : x.hi < 2 ^ 64
  pub div : 1 ≤ x.div
  pub whole : x.div < 2 ^ 64

-- what a small constant or a Lin adds
pub record IsOffset (o : Offset) : Type 0 where
  pub units : IsUnits 0 o.n
  pub bytes : IsNear o.c

-- a known pointer
pub record IsPointer (notes : Notes) (p : Pointer) : Type 0 where
  pub count : 1 ≤ p.count
  pub units : IsUnits 0 p.n
  pub bytes : IsNear p.c
  pub shape : p.shape < length notes.shape
  pub most : p.count < 2 ^ 64
  pub number : p.shape < 2 ^ 32

abbrev Known : Notes → FnNote → Option Ty → Type 0
Known notes f o = IfSome o (IsKnown notes f)

pub any_known : (notes : Notes) (f : FnNote) → IsKnown notes f Any
any_known notes f = record { bounded = tt; names = tt }

pub int_known : (notes : Notes) (f : FnNote) (lo hi div : ℕ) → lo ≤ hi → hi < 2 ^ 64 → 1 ≤ div → div < 2 ^ 64
    → IsKnown notes f (Int lo hi div)
int_known notes f lo hi div a b c d = record { bounded = (a, b, c, d); names = tt }

pub constant_known : (notes : Notes) (f : FnNote) (k : ℕ) → k < 2 ^ 64 → IsKnown notes f (constant k)
constant_known notes f k h = int_known notes f k k 1 (omega arith) h (omega arith) (omega arith)

pub full_known : (notes : Notes) (f : FnNote) → IsKnown notes f (full 64)
full_known notes f = int_known notes f 0 (2 ^ 64 - 1) 1 (omega arith) (omega arith) (omega arith) (omega arith)

pub span_of_known : (notes : Notes) (f : FnNote) (t : Ty) → IsKnown notes f t → IfSome (span_of t) IsSpan
span_of_known notes f (Int lo hi div) h = record { ends = h.bounded.0; word = h.bounded.1; div = h.bounded.2; whole = h.bounded.3 }
span_of_known notes f _ h = tt

single_below : (x : Span) → IsSpan x → IfSome (single x) (λ k. k < 2 ^ 64)
single_below x h = some_if (λ k. k < 2 ^ 64) (nat_eq x.lo x.hi) x.lo (λ e. let a = h.ends in let b = h.word in omega arith)

pub constant_of_below : (notes : Notes) (f : FnNote) (t : Ty) → IsKnown notes f t → IfSome (constant_of t) (λ k. k < 2 ^ 64)
constant_of_below notes f t h = some_then IsSpan (λ k. k < 2 ^ 64) (span_of t) single (span_of_known notes f t h) single_below

pub lin_of_known : (notes : Notes) (f : FnNote) (t : Ty) → IsKnown notes f t → IfSome (lin_of t) (λ o. IsUnits 1 o.n × IsNear o.c)
lin_of_known notes f (Lin n c) h = (h.bounded.0, h.bounded.1)
lin_of_known notes f _ h = tt

pub pointer_of_known : (notes : Notes) (f : FnNote) (t : Ty) → IsKnown notes f t → IfSome (pointer_of t) (IsPointer notes)
pointer_of_known notes f (Ptr s k n c false) h = record {
  count = h.bounded.0;
  units = h.bounded.1;
  bytes = h.bounded.2;
  shape = h.names;
  most = h.bounded.3;
  number = h.bounded.4;
}
pointer_of_known notes f (Ptr s k n c true) h = tt
pointer_of_known notes f _ h = tt

-- ---- near numbers

near_from : (z : ℤ) → is_near z ≡ true → IsNear z
near_from (pos n) h = let l = leb-true n 1048576 h in omega arith
near_from (negsuc n) h = let e = and_parts (nat_le n 1048575) true h in let l = leb-true n 1048575 e.0 in omega arith

weaker : (z : ℤ) → IsUnits 1 z → IsUnits 0 z
weaker (pos n) h = (omega arith, h.1)
weaker (negsuc n) h = h

units_from : (z : ℤ) → is_near z ≡ true → pos 1 ≤ℤ z → IsUnits 1 z
units_from (pos n) h g = let l = leb-true n 1048576 h in (omega (arith, ints), omega arith)
units_from (negsuc n) h g = absurd (omega (arith, ints))

from_zero : (z : ℤ) → is_near z ≡ true → pos 0 ≤ℤ z → IsUnits 0 z
from_zero (pos n) h g = let l = leb-true n 1048576 h in (omega arith, omega arith)
from_zero (negsuc n) h g = absurd (omega (arith, ints))

units_at_least : (low : ℕ) (z : ℤ) → IsUnits low z → pos low ≤ℤ z
units_at_least low (pos n) h = let l = h.0 in omega (arith, ints)
units_at_least low (negsuc n) h = absurd h

near_offset_known : (k : ℕ) → IfSome (near_offset k) IsOffset
near_offset_known k =
    some_if IsOffset (is_near (signed k)) _ (λ e. record { units = (omega arith, omega arith); bytes = near_from (signed k) e })

pub offset_of_known : (notes : Notes) (f : FnNote) (t : Ty) → IsKnown notes f t → IfSome (offset_of t) IsOffset
offset_of_known notes f (Lin n c) h = record { units = weaker n h.bounded.0; bytes = h.bounded.1 }
offset_of_known notes f Any h = tt
offset_of_known notes f (Int lo hi div) h = some_then (λ _. Unit {0}) IsOffset (constant_of (Int lo hi div)) near_offset
    (some_any (constant_of (Int lo hi div))) (λ k g. near_offset_known k)
offset_of_known notes f _ h = tt

if_positive : (b : Bool) (d : ℕ) → 1 ≤ d → 1 ≤ (if b then d else 1)
if_positive true d h = h
if_positive false d h = omega arith

one_times : (d k : ℕ) → 1 ≤ d → 0 < k → 1 ≤ d * k
one_times (suc d) (suc k) h g = omega arith
one_times zero k h g = absurd (omega arith)
one_times (suc d) zero h g = absurd (omega arith)

abs_positive : (z : ℤ) → IsUnits 1 z → 1 ≤ unsigned_abs z
abs_positive (pos n) h = h.0
abs_positive (negsuc n) h = absurd h

-- a choice of two known types
pub if_known : (notes : Notes) (f : FnNote) (b : Bool) (t u : Ty) → (b ≡ true → IsKnown notes f t) → IsKnown notes f u
    → IsKnown notes f (if b then t else u)
if_known notes f true t u h g = h refl
if_known notes f false t u h g = g

pub lin_known : (notes : Notes) (f : FnNote) (n c : ℤ) → pos 1 ≤ℤ n → IsKnown notes f (lin n c)
lin_known notes f n c h =
    if_known notes f (is_near n && is_near c) (Lin n c) Any
    (λ e. let p = and_parts _ _ e in record { bounded = (units_from n p.0 h, near_from c p.1); names = tt })
    (any_known notes f)

pointer_at_known : (notes : Notes) (f : FnNote) (p : Pointer) (n c : ℤ) → IsPointer notes p → pos 0 ≤ℤ n
    → IsKnown notes f (pointer_at p n c)
pointer_at_known notes f p n c q h =
    if_known notes f (is_near n && is_near c) (Ptr p.shape p.count n c false) Any
    (λ e. let k = and_parts _ _ e in record { bounded = (q.count, from_zero n k.0 h, near_from c k.1, q.most, q.number); names = q.shape })
    (any_known notes f)

onward_known : (notes : Notes) (f : FnNote) (p : Pointer) (steps : ℕ) → IsPointer notes p → steps < p.count
    → IsKnown notes f (onward p steps)
onward_known notes f p steps q h =
    let c : 1 ≤ p.count - steps = omega arith in
    let m = q.most in
    record { bounded = (c, q.units, q.bytes, omega arith, q.number); names = q.shape }

-- ---- divisors

at_least_one-positive : (n : ℕ) → 1 ≤ at_least_one n
at_least_one-positive zero = omega arith
at_least_one-positive (suc n) = omega arith

pub shared-positive : (a b : ℕ) → 1 ≤ shared a b
unfolding shared
shared-positive a b = at_least_one-positive (gcd a b)

at_least_one-below : (n : ℕ) → n < 2 ^ 64 → at_least_one n < 2 ^ 64
at_least_one-below zero h = omega arith
at_least_one-below (suc n) h = h

-- a divisor of two numbers of 64 bits is one
euclid_below : (k a b : ℕ) → a < 2 ^ 64 → b < 2 ^ 64 → euclid k a b < 2 ^ 64
euclid_below zero a b h g = omega arith
euclid_below (suc k) a zero h g = h
euclid_below (suc k) a (suc b) h g = let l : a % suc b < suc b = mod-lt a (zero-lt-suc b) in
    euclid_below k (suc b) (a % suc b) g (omega arith)

pub shared-below : (a b : ℕ) → a < 2 ^ 64 → b < 2 ^ 64 → shared a b < 2 ^ 64
unfolding shared gcd
shared-below a b h g = at_least_one-below (gcd a b) (euclid_below (b + 1) a b h g)

if_below : (b : Bool) (x y : ℕ) → x < 2 ^ 64 → y < 2 ^ 64 → (if b then x else y) < 2 ^ 64
if_below true x y h g = h
if_below false x y h g = g

divisor_of-below : (x : Span) → IsSpan x → divisor_of x < 2 ^ 64
divisor_of-below x h = let a = h.ends in let w = h.word in if_below (nat_eq x.lo x.hi) x.lo x.div (omega arith) h.whole

fall_of-below : (k : ℕ) → IfSome (fall_of k) (λ m. m < 2 ^ 64)
fall_of-below k = some_if (λ m. m < 2 ^ 64) (nat_le 18446744073708503040 k) _
    (λ e. let l = leb-true 18446744073708503040 k e in omega arith)

-- ---- sums

wrapped : (n : ℕ) → n % 2 ^ 64 < 2 ^ 64
wrapped n = mod-lt n (omega arith)

constant_sum-known : (notes : Notes) (f : FnNote) (a b : Ty) → Known notes f (constant_sum a b)
constant_sum-known notes f a b =
    some_then (λ _. Unit {0}) (IsKnown notes f) (constant_of a) _ (some_any (constant_of a))
    (λ x h. some_then (λ _. Unit {0}) (IsKnown notes f) (constant_of b) _ (some_any (constant_of b))
    (λ y g. constant_known notes f _ (wrapped (x + y))))

fallen_known : (notes : Notes) (f : FnNote) (x : Span) (m : ℕ) → IsSpan x → m < 2 ^ 64 → Known notes f (fallen x m)
fallen_known notes f x m h g =
    some_if (IsKnown notes f) (nat_le m x.lo) _
    (λ e. let a = h.ends in let b = h.word in int_known notes f _ _ _ (omega arith) (omega arith) (shared-positive x.div m)
    (shared-below x.div m h.whole g))

fall_sum-known : (notes : Notes) (f : FnNote) (a b : Ty) → IsKnown notes f a → Known notes f (fall_sum a b)
fall_sum-known notes f a b h =
    some_then IsSpan (IsKnown notes f) (span_of a) _ (span_of_known notes f a h)
    (λ x g. some_then (λ m. m < 2 ^ 64) (IsKnown notes f) (and_then (constant_of b) fall_of) _
    (some_then (λ _. Unit {0}) (λ m. m < 2 ^ 64) (constant_of b) fall_of (some_any (constant_of b)) (λ k i. fall_of-below k))
    (λ m k. fallen_known notes f x m g k))

added_known : (notes : Notes) (f : FnNote) (x y : Span) → IsSpan x → IsSpan y → IsKnown notes f (added x y)
added_known notes f x y h g =
    if_known notes f (nat_lt (x.lo + y.lo) (2 ^ 64) && nat_lt (x.hi + y.hi) (2 ^ 64)) _ _
    (λ e. let k = and_parts _ _ e in let l = k.1 in let a = h.ends in let b = g.ends in
    int_known notes f _ _ _ (omega arith) (ltb-true _ _ l) (shared-positive (divisor_of x) (divisor_of y))
    (shared-below (divisor_of x) (divisor_of y) (divisor_of-below x h) (divisor_of-below y g)))
    (full_known notes f)

int_sum-known : (notes : Notes) (f : FnNote) (a b : Ty) → IsKnown notes f a → IsKnown notes f b → Known notes f (int_sum a b)
int_sum-known notes f a b h g =
    some_then IsSpan (IsKnown notes f) (span_of a) _ (span_of_known notes f a h)
    (λ x i. some_then IsSpan (IsKnown notes f) (span_of b) _ (span_of_known notes f b g) (λ y j. added_known notes f x y i j))

lin_sum-known : (notes : Notes) (f : FnNote) (a b : Ty) → IsKnown notes f a → IsKnown notes f b → Known notes f (lin_sum a b)
lin_sum-known notes f a b h g =
    some_then (λ o. IsUnits 1 o.n × IsNear o.c) (IsKnown notes f) (lin_of a) _ (lin_of_known notes f a h)
    (λ x i. some_then IsOffset (IsKnown notes f) (offset_of b) _ (offset_of_known notes f b g)
    (λ y j. lin_known notes f (x.n +ℤ y.n) (x.c +ℤ y.c) (let m = units_at_least 1 x.n i.0 in let n = units_at_least 0 y.n j.units in
    omega (arith, ints))))

by_scaled-known : (notes : Notes) (f : FnNote) (p : Pointer) (s : Shape) (t : Ty) → IsPointer notes p → Known notes f (by_scaled p s t)
by_scaled-known notes f p s (Scaled n c hi) q =
    some_if (IsKnown notes f) (nat_eq s.n n && (nat_eq s.c c && nat_lt hi p.count)) (onward p hi)
    (λ e. let k = and_parts _ _ e in let l = and_parts _ _ k.1 in onward_known notes f p hi q (ltb-true _ _ l.1))
by_scaled-known notes f p s _ q = tt

scaled_sum-known : (notes : Notes) (f : FnNote) (shapes : List Shape) (a b : Ty) → IsKnown notes f a → Known notes f (scaled_sum shapes a b)
scaled_sum-known notes f shapes a b h =
    some_then (IsPointer notes) (IsKnown notes f) (pointer_of a) _ (pointer_of_known notes f a h)
    (λ p q. some_then (λ _. Unit {0}) (IsKnown notes f) (slice_get shapes p.shape) _ (some_any (slice_get shapes p.shape))
    (λ s k. by_scaled-known notes f p s b q))

by_bytes-known : (notes : Notes) (f : FnNote) (p : Pointer) (s : Shape) (x : Span) → IsPointer notes p → Known notes f (by_bytes p s x)
by_bytes-known notes f p s x q =
    some_if (IsKnown notes f) (nat_eq s.n 0 && (strides s.c x && nat_lt (x.hi / s.c) p.count)) (onward p (x.hi / s.c))
    (λ e. let k = and_parts _ _ e in let l = and_parts _ _ k.1 in onward_known notes f p (x.hi / s.c) q (ltb-true _ _ l.1))

bytes_sum-known : (notes : Notes) (f : FnNote) (shapes : List Shape) (a b : Ty) → IsKnown notes f a → Known notes f (bytes_sum shapes a b)
bytes_sum-known notes f shapes a b h =
    some_then (IsPointer notes) (IsKnown notes f) (pointer_of a) _ (pointer_of_known notes f a h)
    (λ p q. some_then (λ _. Unit {0}) (IsKnown notes f) (slice_get shapes p.shape) _ (some_any (slice_get shapes p.shape))
    (λ s k. some_then (λ _. Unit {0}) (IsKnown notes f) (span_of b) _ (some_any (span_of b)) (λ x j. by_bytes-known notes f p s x q)))

offset_sum-known : (notes : Notes) (f : FnNote) (a b : Ty) → IsKnown notes f a → IsKnown notes f b → Known notes f (offset_sum a b)
offset_sum-known notes f a b h g =
    some_then (IsPointer notes) (IsKnown notes f) (pointer_of a) _ (pointer_of_known notes f a h)
    (λ p q. some_then IsOffset (IsKnown notes f) (offset_of b) _ (offset_of_known notes f b g)
    (λ o j. pointer_at_known notes f p (p.n +ℤ o.n) (p.c +ℤ o.c) q
    (let m = units_at_least 0 p.n q.units in let n = units_at_least 0 o.n j.units in omega (arith, ints))))

pointer_sum-known : (notes : Notes) (f : FnNote) (shapes : List Shape) (a b : Ty) → IsKnown notes f a → IsKnown notes f b
    → Known notes f (pointer_sum shapes a b)
pointer_sum-known notes f shapes a b h g =
    some_else (IsKnown notes f) (scaled_sum shapes a b) _ (scaled_sum-known notes f shapes a b h)
    (some_else (IsKnown notes f) (bytes_sum shapes a b) _ (bytes_sum-known notes f shapes a b h) (offset_sum-known notes f a b h g))

sum_row-known : (notes : Notes) (f : FnNote) (shapes : List Shape) (a b : Ty) → IsKnown notes f a → IsKnown notes f b
    → Known notes f (sum_row shapes a b)
unfolding sum_row
sum_row-known notes f shapes a b h g =
    some_else (IsKnown notes f) (constant_sum a b) _ (constant_sum-known notes f a b)
    (some_else (IsKnown notes f) (fall_sum a b) _ (fall_sum-known notes f a b h)
    (some_else (IsKnown notes f) (fall_sum b a) _ (fall_sum-known notes f b a g)
    (some_else (IsKnown notes f) (int_sum a b) _ (int_sum-known notes f a b h g)
    (some_else (IsKnown notes f) (lin_sum a b) _ (lin_sum-known notes f a b h g)
    (some_else (IsKnown notes f) (lin_sum b a) _ (lin_sum-known notes f b a g h)
    (some_else (IsKnown notes f) (pointer_sum shapes a b) _ (pointer_sum-known notes f shapes a b h g)
    (pointer_sum-known notes f shapes b a g h)))))))

or_any-known : (notes : Notes) (f : FnNote) (o : Option Ty) → Known notes f o → IsKnown notes f (or_any o)
or_any-known notes f None h = any_known notes f
or_any-known notes f (Some t) h = h

-- the sum of two known types is known
pub sum-known : (notes : Notes) (f : FnNote) (shapes : List Shape) (a b : Ty) → IsKnown notes f a → IsKnown notes f b
    → IsKnown notes f (sum shapes a b)
unfolding sum
sum-known notes f shapes a b h g = or_any-known notes f (sum_row shapes a b) (sum_row-known notes f shapes a b h g)

-- ---- differences

constant_difference-known : (notes : Notes) (f : FnNote) (a b : Ty) → Known notes f (constant_difference a b)
constant_difference-known notes f a b =
    some_then (λ _. Unit {0}) (IsKnown notes f) (constant_of a) _ (some_any (constant_of a))
    (λ x h. some_then (λ _. Unit {0}) (IsKnown notes f) (constant_of b) _ (some_any (constant_of b))
    (λ y g. constant_known notes f _ (wrapped (x + (2 ^ 64 - y)))))

taken_known : (notes : Notes) (f : FnNote) (x y : Span) → IsSpan x → IsSpan y → IsKnown notes f (taken x y)
taken_known notes f x y h g =
    if_known notes f (nat_le y.hi x.lo) _ _
    (λ e. let l = leb-true _ _ e in let a = h.ends in let b = g.ends in let w = h.word in
    int_known notes f _ _ _ (omega arith) (omega arith) (shared-positive (divisor_of x) (divisor_of y))
    (shared-below (divisor_of x) (divisor_of y) (divisor_of-below x h) (divisor_of-below y g)))
    (full_known notes f)

int_difference-known : (notes : Notes) (f : FnNote) (a b : Ty) → IsKnown notes f a → IsKnown notes f b → Known notes f (int_difference a b)
int_difference-known notes f a b h g =
    some_then IsSpan (IsKnown notes f) (span_of a) _ (span_of_known notes f a h)
    (λ x i. some_then IsSpan (IsKnown notes f) (span_of b) _ (span_of_known notes f b g) (λ y j. taken_known notes f x y i j))

small_negative-known : (notes : Notes) (f : FnNote) (k : ℕ) → Known notes f (small_negative k)
small_negative-known notes f k =
    some_then (λ _. Unit {0}) (IsKnown notes f) (near_offset k) _ (some_any (near_offset k))
    (λ o h. constant_known notes f _ (wrapped (0 + (2 ^ 64 - k))))

moved_known : (notes : Notes) (f : FnNote) (shapes : List Shape) (a b : Ty) → IsKnown notes f a
    → Known notes f (and_then (and_then (constant_of b) small_negative) (λ t. Some (sum shapes a t)))
moved_known notes f shapes a b h =
    some_then (IsKnown notes f) (IsKnown notes f) (and_then (constant_of b) small_negative) _
    (some_then (λ _. Unit {0}) (IsKnown notes f) (constant_of b) small_negative (some_any (constant_of b))
    (λ k g. small_negative-known notes f k))
    (λ t g. sum-known notes f shapes a t h g)

if_moved : (notes : Notes) (f : FnNote) (b : Bool) (o : Option Ty) → Known notes f o → Known notes f (if b then o else None)
if_moved notes f true o h = h
if_moved notes f false o h = tt

-- the difference of two known types is known
pub difference-known : (notes : Notes) (f : FnNote) (shapes : List Shape) (a b : Ty) → IsKnown notes f a → IsKnown notes f b
    → IsKnown notes f (difference shapes a b)
unfolding difference
difference-known notes f shapes a b h g =
    or_any-known notes f _
    (some_else (IsKnown notes f) (constant_difference a b) _ (constant_difference-known notes f a b)
    (some_else (IsKnown notes f) (int_difference a b) _ (int_difference-known notes f a b h g)
    (if_moved notes f (is_moved a) _ (moved_known notes f shapes a b h))))

-- ---- products

constant_product-known : (notes : Notes) (f : FnNote) (a b : Ty) → Known notes f (constant_product a b)
constant_product-known notes f a b =
    some_then (λ _. Unit {0}) (IsKnown notes f) (constant_of a) _ (some_any (constant_of a))
    (λ x h. some_then (λ _. Unit {0}) (IsKnown notes f) (constant_of b) _ (some_any (constant_of b))
    (λ y g. constant_known notes f _ (wrapped (x * y))))

divisor_within-positive : (d : ℕ) → 1 ≤ d → 1 ≤ divisor_within d
divisor_within-positive d h = if_positive (nat_lt d (2 ^ 64)) d h

divisor_within-below : (d : ℕ) → divisor_within d < 2 ^ 64
divisor_within-below d = below (nat_lt d (2 ^ 64)) refl where
  below : (b : Bool) → nat_lt d (2 ^ 64) ≡ b → (if b then d else 1) < 2 ^ 64
  below true e = ltb-true d (2 ^ 64) e
  below false e = omega arith

times_known : (notes : Notes) (f : FnNote) (x : Span) (k : ℕ) → IsSpan x → Known notes f (times x k)
times_known notes f x k h =
    some_if (IsKnown notes f) (nat_lt 0 k && (nat_lt (x.lo * k) (2 ^ 64) && nat_lt (x.hi * k) (2 ^ 64))) _
    (λ e. let p = and_parts _ _ e in let q = and_parts _ _ p.1 in let l = ltb-true _ _ p.0 in
    int_known notes f _ _ _ (mul-le-mul_right k h.ends) (ltb-true _ _ q.1) (divisor_within-positive _ (one_times _ _ h.div l))
    (divisor_within-below (x.div * k)))

multiple_known : (notes : Notes) (f : FnNote) (a b : Ty) → IsKnown notes f a → Known notes f (multiple a b)
multiple_known notes f a b h =
    some_then IsSpan (IsKnown notes f) (span_of a) _ (span_of_known notes f a h)
    (λ x g. some_then (λ _. Unit {0}) (IsKnown notes f) (constant_of b) _ (some_any (constant_of b)) (λ k i. times_known notes f x k g))

abs_below : (low : ℕ) (z : ℤ) → IsUnits low z → unsigned_abs z < 2 ^ 64
abs_below low (pos n) h = let l = h.1 in omega arith
abs_below low (negsuc n) h = absurd h

near_below : (z : ℤ) → IsNear z → unsigned_abs z < 2 ^ 64
near_below (pos n) h = omega arith
near_below (negsuc n) h = omega arith

scaled_known : (notes : Notes) (f : FnNote) (x : Span) (o : Offset) → IsSpan x → IsUnits 1 o.n → IsNear o.c → Known notes f (scaled x o)
scaled_known notes f x o g h i =
    some_if (IsKnown notes f) _ (Scaled (unsigned_abs o.n) (unsigned_abs o.c) x.hi)
    (λ e. let p = and_parts _ _ e in let q = and_parts _ _ p.1 in
    record { bounded = (abs_positive o.n h, ltb-true _ _ q.1, abs_below 1 o.n h, near_below o.c i, g.word); names = tt })

lin_product-known : (notes : Notes) (f : FnNote) (a b : Ty) → IsKnown notes f a → IsKnown notes f b → Known notes f (lin_product a b)
lin_product-known notes f a b k h =
    some_then IsSpan (IsKnown notes f) (span_of a) _ (span_of_known notes f a k)
    (λ x g. some_then (λ o. IsUnits 1 o.n × IsNear o.c) (IsKnown notes f) (lin_of b) _ (lin_of_known notes f b h)
    (λ o i. scaled_known notes f x o g i.0 i.1))

int_product-known : (notes : Notes) (f : FnNote) (a b : Ty) → Known notes f (int_product a b)
int_product-known notes f a b =
    some_then (λ _. Unit {0}) (IsKnown notes f) (span_of a) _ (some_any (span_of a))
    (λ x g. some_then (λ _. Unit {0}) (IsKnown notes f) (span_of b) _ (some_any (span_of b)) (λ y i. full_known notes f))

-- the product of two known types is known
pub product-known : (notes : Notes) (f : FnNote) (a b : Ty) → IsKnown notes f a → IsKnown notes f b → IsKnown notes f (product a b)
unfolding product
product-known notes f a b h g =
    or_any-known notes f _
    (some_else (IsKnown notes f) (constant_product a b) _ (constant_product-known notes f a b)
    (some_else (IsKnown notes f) (multiple a b) _ (multiple_known notes f a b h)
    (some_else (IsKnown notes f) (multiple b a) _ (multiple_known notes f b a g)
    (some_else (IsKnown notes f) (lin_product a b) _ (lin_product-known notes f a b h g)
    (some_else (IsKnown notes f) (lin_product b a) _ (lin_product-known notes f b a g h)
    (int_product-known notes f a b))))))
