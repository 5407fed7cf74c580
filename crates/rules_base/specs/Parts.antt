-- Meaning: Parts of types that the rows look at: numbers in a range, constants, offsets, pointers that aren't null.
-- docs/NOTES.md says what the types mean.
use Rattle.std.specs.Prelude.{ℕ, ◌+◌, ◌-◌, ◌^◌, Bool, true, false, ◌&&◌, nat_lt, nat_le, nat_eq, if◌then◌else◌, Option, Some, None, ℤ}
use Rattle.std.specs.Prelude.{pos, negsuc, int_le, option_and_then}
use Rattle.note_types.specs.declared.types.Ty.{Ty}
use Rattle.note_types.specs.declared.types.Ty.TheVariants.{Int, Lin, Ptr}
use Rattle.rules_base.specs.declared.parts.Span.{Span}
use Rattle.rules_base.specs.declared.parts.Offset.{Offset}
use Rattle.rules_base.specs.declared.parts.Pointer.{Pointer}
use Rattle.ebc_base.specs.Steps.{only_if}

-- what follows from a value, where there is one
abbrev pub and_then : {A B : Type 0} → Option A → (A → Option B) → Option B
and_then o f = option_and_then f o

-- the type of one number
abbrev pub constant : ℕ → Ty
constant k = Int k k 1

-- the type of all numbers of so many bits
abbrev pub full : ℕ → Ty
full bits = Int 0 (2 ^ bits - 1) 1

-- the numbers of an Int
abbrev pub span_of : Ty → Option Span
span_of (Int lo hi div) = Some (record { lo = lo; hi = hi; div = div })
span_of _ = None

-- the number of numbers in a range of one
abbrev pub single : Span → Option ℕ
single x = only_if (nat_eq x.lo x.hi) x.lo

-- the number of a constant
abbrev pub constant_of : Ty → Option ℕ
constant_of t = and_then (span_of t) single

-- what divides the numbers of an Int: a constant's number, else its divisor
abbrev pub divisor_of : Span → ℕ
divisor_of x = if nat_eq x.lo x.hi then x.lo else x.div

-- the signed number that 64 bits spell
abbrev pub signed : ℕ → ℤ
signed k = if nat_lt k (2 ^ 63) then pos k else negsuc (2 ^ 64 - 1 - k)

-- a number from -2 ^ 20 to 2 ^ 20
abbrev pub is_near : ℤ → Bool
is_near z = int_le (negsuc 1048575) z && int_le z (pos 1048576)

-- how far a small negative constant is below 0: at most 2 ^ 20
abbrev pub fall_of : ℕ → Option ℕ
fall_of k = only_if (nat_le 18446744073708503040 k) (2 ^ 64 - 1 - k + 1)

-- what a small constant or a Lin adds
abbrev pub near_offset : ℕ → Option Offset
near_offset k = only_if (is_near (signed k)) (record { n = pos 0; c = signed k })

abbrev pub offset_of : Ty → Option Offset
offset_of (Lin n c) = Some (record { n = n; c = c })
offset_of t = and_then (constant_of t) near_offset

-- the pair of a Lin
abbrev pub lin_of : Ty → Option Offset
lin_of (Lin n c) = Some (record { n = n; c = c })
lin_of _ = None

-- a pointer that is not null
abbrev pub pointer_of : Ty → Option Pointer
pointer_of (Ptr s k n c false) = Some (record { shape = s; count = k; n = n; c = c })
pointer_of _ = None

-- the type is a number's
abbrev pub is_int : Ty → Bool
is_int (Int lo hi div) = true
is_int _ = false

-- a number below a limit
abbrev pub is_int_below : ℕ → Ty → Bool
is_int_below limit (Int lo hi div) = nat_lt hi limit
is_int_below limit _ = false
