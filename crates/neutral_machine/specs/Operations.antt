-- For proofs: what operations give on neutral values: the table of the machine on plain numbers (docs/MACHINE.md,
-- "Arithmetic"), sums and multiples of pairs, the building of a status, and else junk (docs/HOST.md, "The neutral machine").
use Rattle.std.specs.Prelude.{ℕ, zero, ◌+◌, ◌-◌, ◌*◌, ◌%◌, ◌/◌, ◌^◌, Bool, true, false, ◌&&◌, ◌||◌, nat_eq, nat_lt, if◌then◌else◌, List}
use Rattle.std.specs.Prelude.{Option, Some, None, Result, Ok, Err, slice_get}
use Rattle.std.specs.Option.{option_or}
use Rattle.ebc_width.specs.Width.{extended_at}
use Rattle.ebc_insn.specs.declared.ArithOp.{ArithOp}
use Rattle.ebc_insn.specs.declared.ArithOp.TheVariants as ops
use Rattle.ebc_insn.specs.declared.CmpOp.{CmpOp}
use Rattle.ebc_insn.specs.declared.CmpOp.TheVariants as cmps
use Rattle.machine_alu.specs.Alu.{computed, compared, divides, divides_by_zero}
use Rattle.machine_alu.specs.declared.DivideError.{DivideError}
use Rattle.note_types.specs.Shapes.{size_at}
use Rattle.note_types.specs.declared.exception.Exception.TheVariants as raises
use Rattle.note_types.specs.declared.notes.Notes.{Notes}
use Rattle.note_types.specs.declared.shape.Shape.{Shape}
use Rattle.host_model.specs.Values.{Anchor, ObjectOf, ThunkOf, LocalOf, Neutral, Num, At, Handle, Entry, Error, SignedError, Junk, number}
use Rattle.host_model.specs.Values.{plain, word, plus, minus}
use Rattle.host_model.specs.declared.object.TypedObject.{TypedObject}
use Rattle.host_model.specs.Objects.{shape_of}
use Rattle.host_model.specs.Placements.{object_bytes}
use Rattle.neutral_machine.specs.Outcomes.{Outcome, Gives, Raises, Stuck}

-- ---- sums and multiples

-- a sum of pairs, one of which may be past an anchor
abbrev pub sum_of : Neutral → Neutral → Neutral
sum_of (Num n c) (Num m d) = Num (plus n m) (plus c d)
sum_of (At a n c) (Num m d) = At a (plus n m) (plus c d)
sum_of (Num n c) (At a m d) = At a (plus n m) (plus c d)
sum_of _ _ = Junk

-- a difference of pairs, the first of which may be past an anchor
abbrev pub difference_of : Neutral → Neutral → Neutral
difference_of (Num n c) (Num m d) = Num (minus n m) (minus c d)
difference_of (At a n c) (Num m d) = At a (minus n m) (minus c d)
difference_of _ _ = Junk

-- a plain number times a pair
abbrev pub multiple_of : Option ℕ → Neutral → Neutral
multiple_of (Some k) (Num n c) = Num (word (n * k)) (word (c * k))
multiple_of _ _ = Junk

-- a product of pairs, one of which is plain
abbrev pub product_of : Neutral → Neutral → Neutral
product_of (Num zero c) v = multiple_of (plain (Num zero c)) v
product_of v u = multiple_of (plain u) v

-- ---- statuses

-- 1 shifted left by 8 natural units less one bit is the error bit
abbrev pub shifts_to_mask : Neutral → Neutral → Bool
shifts_to_mask (Num n c) (Num m d) = nat_eq n 0 && (nat_eq c 1 && (nat_eq m 8 && nat_eq d (2 ^ 64 - 1)))
shifts_to_mask _ _ = false

-- the error bit with a code
abbrev pub coded : Neutral → Option ℕ → Option Neutral
coded (Error zero) (Some k) = if nat_lt k (2 ^ 31) then Some (Error k) else None
coded _ _ = None

-- ---- the table

-- an operation that looks at operand 2 alone
abbrev pub is_unary : ArithOp → Bool
is_unary ops.Not = true
is_unary ops.Neg = true
is_unary ops.Extb = true
is_unary ops.Extw = true
is_unary ops.Extd = true
is_unary _ = false

-- what the machine's table gives
abbrev pub of_table : Result ℕ DivideError → Outcome Neutral
of_table (Ok x) = Gives (number x)
of_table (Err e) = Raises raises.DivideError

-- an operation on plain numbers; junk where one of them isn't plain
abbrev pub on_plain : ArithOp → Bool → Option ℕ → Option ℕ → Outcome Neutral
on_plain op wide (Some x) (Some y) = of_table (computed op wide x y)
on_plain op wide _ _ = Gives Junk

-- an operation on operand 2
abbrev pub on_one : ArithOp → Bool → Option ℕ → Outcome Neutral
on_one op wide (Some y) = of_table (computed op wide 0 y)
on_one op wide None = Gives Junk

-- a division: by a plain number, which raises where it is 0, whatever is divided
abbrev pub on_divisor : ArithOp → Bool → Option ℕ → Option ℕ → Outcome Neutral
on_divisor op wide x None = Stuck
on_divisor op wide x (Some y) = if divides_by_zero op wide y then Raises raises.DivideError else on_plain op wide x (Some y)

-- the operations as they are on plain numbers
abbrev pub by_table : ArithOp → Bool → Neutral → Neutral → Outcome Neutral
by_table op wide v u =
    if divides op then on_divisor op wide (plain v) (plain u)
    else if is_unary op then on_one op wide (plain u)
    else on_plain op wide (plain v) (plain u)

-- the error bit with a code in either order, or else the table
abbrev pub or_of : Option Neutral → Option Neutral → Outcome Neutral → Outcome Neutral
or_of (Some v) o r = Gives v
or_of None (Some v) r = Gives v
or_of None None r = r

-- what an operation of 64 bits gives on operand 1, v, and operand 2, u
abbrev pub combined_wide : ArithOp → Neutral → Neutral → Outcome Neutral
combined_wide ops.Add v u = Gives (sum_of v u)
combined_wide ops.Sub v u = Gives (difference_of v u)
combined_wide ops.Mul v u = Gives (product_of v u)
combined_wide ops.Mulu v u = Gives (product_of v u)
combined_wide ops.Shl v u = if shifts_to_mask v u then Gives (Error 0) else by_table ops.Shl true v u
combined_wide ops.Or v u = or_of (coded v (plain u)) (coded u (plain v)) (by_table ops.Or true v u)
combined_wide op v u = by_table op true v u

-- what an operation gives on operand 1, v, and operand 2, u
unfoldable pub combined : ArithOp → Bool → Neutral → Neutral → Outcome Neutral
combined op true v u = combined_wide op v u
combined op false v u = by_table op false v u

-- ---- what moves keep

-- the bytes that a typed object takes at width 4
abbrev pub extent_if : Notes → Option TypedObject → ℕ
extent_if notes None = 0
extent_if notes (Some o) = object_bytes 4 notes o

-- whether an address is kept in natural size: one inside its object at width 4, or the start of a local or a thunk cell
abbrev pub is_kept_at : Notes → List TypedObject → Anchor → ℕ → ℕ → Bool
is_kept_at notes objects (ObjectOf k) n c = nat_lt (word (n * 4 + c)) (extent_if notes (slice_get objects k))
is_kept_at notes objects (ThunkOf i) n c = nat_eq n 0 && nat_eq c 0
is_kept_at notes objects (LocalOf d f) n c = nat_eq n 0 && nat_eq c 0

-- what natural size keeps of a value
unfoldable pub kept_natural : Notes → List TypedObject → Neutral → Neutral
kept_natural notes objects (Num n c) = if nat_lt (word (n * 4 + c)) (2 ^ 32) then Num n c else Junk
kept_natural notes objects (At a n c) = if is_kept_at notes objects a n c then At a n c else Junk
kept_natural notes objects (SignedError k) = Junk
kept_natural notes objects v = v

-- a plain number through a function, junk else
abbrev pub on_number : (ℕ → ℕ) → Option ℕ → Neutral
on_number f (Some x) = number (f x)
on_number f None = Junk

-- what so many low bits keep of a value
abbrev pub narrowed : ℕ → Neutral → Neutral
narrowed bits v = on_number (λ x. x % 2 ^ bits) (plain v)

-- 32 bits with their sign
abbrev pub extended : Neutral → Neutral
extended v = on_number (extended_at 4) (plain v)

-- a value of natural size with its sign: a number below 2 ^ 31, or a status
unfoldable pub sign_extended : Neutral → Neutral
sign_extended (Num zero c) = if nat_lt (word c) (2 ^ 31) then number (word c) else Junk
sign_extended (Error k) = SignedError k
sign_extended _ = Junk

-- ---- comparisons

-- an instance of a typed object
pub record Instance : Type 0 where
  pub object : ℕ
  pub instance : ℕ

-- the instance that a pair past the start of an object of a shape may start: by its offset at width 4
abbrev pub instance_at : Shape → ℕ → ℕ → ℕ
instance_at s n c = word (n * 4 + c) / size_at 4 s

abbrev pub starts_at : Notes → ℕ → ℕ → ℕ → TypedObject → Option Instance
starts_at notes k n c o =
    let s = shape_of notes o.shape in
    let i = instance_at s n c in
    if nat_lt i o.count && (nat_eq n (word (i * s.n)) && nat_eq c (word (i * s.c))) then Some (record { object = k; instance = i })
    else None

abbrev pub starts_if : Notes → ℕ → ℕ → ℕ → Option TypedObject → Option Instance
starts_if notes k n c None = None
starts_if notes k n c (Some o) = starts_at notes k n c o

-- the instance that a value is the start of
unfoldable pub instance_of : Notes → List TypedObject → Neutral → Option Instance
instance_of notes objects (At (ObjectOf k) n c) = starts_if notes k n c (slice_get objects k)
instance_of notes objects _ = None

abbrev pub same_instance : Instance → Instance → Bool
same_instance x y = nat_eq x.object y.object && nat_eq x.instance y.instance

abbrev pub is_null : Neutral → Bool
is_null (Num n c) = nat_eq n 0 && nat_eq c 0
is_null _ = false

-- a start of an instance, with another one or with null
abbrev pub equal_instances : Option Instance → Option Instance → Neutral → Option Bool
equal_instances (Some x) (Some y) u = Some (same_instance x y)
equal_instances (Some x) None u = if is_null u then Some false else None
equal_instances None o u = None

-- a handle, with another one or with null; and so a thunk
abbrev pub equal_handle : ℕ → Neutral → Option Bool
equal_handle k (Handle j) = Some (nat_eq k j)
equal_handle k u = if is_null u then Some false else None

abbrev pub equal_entry : ℕ → Neutral → Option Bool
equal_entry k (Entry j) = Some (nat_eq k j)
equal_entry k u = if is_null u then Some false else None

-- an error, with another one or with a number below 2 ^ 31
abbrev pub unequal_code : Option ℕ → Option Bool
unequal_code None = None
unequal_code (Some y) = if nat_lt y (2 ^ 31) then Some false else None

abbrev pub equal_error : ℕ → Neutral → Option Bool
equal_error k (Error j) = Some (nat_eq k j)
equal_error k u = unequal_code (plain u)

-- equality in 64 bits of what isn't two plain numbers, the first being no number
abbrev pub equal_first : Notes → List TypedObject → Neutral → Neutral → Option Bool
equal_first notes objects (At a n c) u = equal_instances (instance_of notes objects (At a n c)) (instance_of notes objects u) u
equal_first notes objects (Handle k) u = equal_handle k u
equal_first notes objects (Entry k) u = equal_entry k u
equal_first notes objects (Error k) u = equal_error k u
equal_first notes objects _ u = None

-- an order with a sign-extended error as operand 1: the error is the lesser of it and a number below 2 ^ 31, and at most -1
abbrev pub error_at_most : Neutral → Option ℕ → Option Bool
error_at_most (SignedError k) (Some y) = if nat_lt y (2 ^ 31) || nat_eq y (2 ^ 64 - 1) then Some true else None
error_at_most _ _ = None

abbrev pub error_at_least : Neutral → Option ℕ → Option Bool
error_at_least (SignedError k) (Some y) = if nat_lt y (2 ^ 31) then Some false else None
error_at_least _ _ = None

-- comparisons of 64 bits that aren't of two plain numbers; equality in either order
abbrev pub compared_wide : Notes → List TypedObject → CmpOp → Neutral → Neutral → Option Bool
compared_wide notes objects cmps.Eq v u = option_or (equal_first notes objects v u) (equal_first notes objects u v)
compared_wide notes objects cmps.Lte v u = error_at_most v (plain u)
compared_wide notes objects cmps.Gte v u = error_at_least v (plain u)
compared_wide notes objects cmps.Ulte v u = None
compared_wide notes objects cmps.Ugte v u = None

abbrev pub compared_by : Notes → List TypedObject → CmpOp → Bool → Neutral → Neutral → Option ℕ → Option ℕ → Option Bool
compared_by notes objects op wide v u (Some x) (Some y) = Some (compared op wide x y)
compared_by notes objects op true v u _ _ = compared_wide notes objects op v u
compared_by notes objects op false v u _ _ = None

-- how operand 1, v, compares with operand 2, u: none where that isn't the same at both widths
unfoldable pub compared_as : Notes → List TypedObject → CmpOp → Bool → Neutral → Neutral → Option Bool
compared_as notes objects op wide v u = compared_by notes objects op wide v u (plain v) (plain u)
