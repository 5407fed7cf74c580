-- Meaning: values in scripts and traces: when two are the same, and when one fits a type under the typed objects that are
-- made. docs/HOST.md, "Values", lists the cases.
use Rattle.std.specs.Prelude.{ℕ, ◌+◌, ◌^◌, Bool, true, false, ◌&&◌, List, length, Option, Some, None, nat_eq, nat_le, nat_lt, is_some}
use Rattle.std.specs.Prelude.{slice_get}
use Rattle.std.specs.List.{list_all, zip}
use Rattle.std.specs.Option.{option_map_or}
use Rattle.note_types.specs.BelowTests.{same_bool, divides}
use Rattle.host_model.specs.Objects.{TypedObject}
use Rattle.note_types.specs.declared.seen.Seen.{Seen}
use Rattle.note_types.specs.declared.types.Ty.{Ty}
use Rattle.note_types.specs.declared.types.Ty.TheVariants as ty
use Rattle.note_types.specs.declared.notes.Param.{Param}
use Rattle.note_types.specs.declared.value.Value.{Value}
use Rattle.note_types.specs.Types.{is_start}
use Rattle.note_types.specs.declared.value.Value.TheVariants as value

-- ---- the same

-- two values are one
unfoldable pub same_value : Value → Value → Bool
same_value (value.Int a) (value.Int b) = nat_eq a b
same_value (value.Size a b) (value.Size c d) = nat_eq a c && nat_eq b d
same_value (value.Ptr a b) (value.Ptr c d) = nat_eq a c && nat_eq b d
same_value value.Null value.Null = true
same_value (value.StatusOk a) (value.StatusOk b) = nat_eq a b
same_value (value.StatusError a) (value.StatusError b) = nat_eq a b
same_value (value.Handle a) (value.Handle b) = nat_eq a b
same_value (value.Entry a) (value.Entry b) = nat_eq a b
same_value (value.Method a) (value.Method b) = nat_eq a b
same_value value.Any value.Any = true
same_value value.Out value.Out = true
same_value (value.Wild a) (value.Wild b) = nat_eq a b
same_value _ _ = false

-- two values as native calls see them are one
abbrev pub same_seen : Seen → Seen → Bool
same_seen a b = same_bool a.lent b.lent && same_value a.value b.value

-- a value that isn't lent
abbrev pub given : Value → Seen
given v = record { lent = false; value = v }

-- a value in a cell that is lent
abbrev pub lent : Value → Seen
lent v = record { lent = true; value = v }

-- ---- fits

-- the object of that number is made
abbrev pub is_made : List TypedObject → ℕ → Bool
is_made made o = is_some (slice_get made o)

-- the object has the shape, and so many instances from that one on
abbrev pub has_instances : ℕ → ℕ → ℕ → TypedObject → Bool
has_instances shape count instance o = nat_eq o.shape shape && nat_le (instance + count) o.count

-- a number of the range that the divisor divides
abbrev pub fits_range : ℕ → ℕ → ℕ → Value → Bool
fits_range lo hi div (value.Int n) = nat_le lo n && (nat_le n hi && divides div n)
fits_range lo hi div _ = false

-- an instance of the shape, or null where the type may be
abbrev pub fits_pointer : List TypedObject → ℕ → ℕ → Bool → Value → Bool
fits_pointer made shape count null (value.Ptr o i) = option_map_or (has_instances shape count i) (slice_get made o) false
fits_pointer made shape count null value.Null = null
fits_pointer made shape count null _ = false

-- anything but what only an argument is; an instance only of an object that is made
abbrev pub fits_any : List TypedObject → Value → Bool
fits_any made (value.Ptr o i) = is_made made o
fits_any made value.Out = false
fits_any made (value.Wild x) = false
fits_any made _ = true

-- a status
abbrev pub is_status : Value → Bool
is_status (value.StatusOk k) = nat_lt k (2 ^ 31)
is_status (value.StatusError k) = nat_lt k (2 ^ 31)
is_status _ = false

-- a handle or null
abbrev pub is_handle : Value → Bool
is_handle (value.Handle k) = true
is_handle value.Null = true
is_handle _ = false

-- a function's thunk or null
abbrev pub is_entry : Value → Bool
is_entry (value.Entry f) = true
is_entry value.Null = true
is_entry _ = false

-- the address of that method
abbrev pub is_method : ℕ → Value → Bool
is_method m (value.Method k) = nat_eq k m
is_method m _ = false

-- a written value fits a type
unfoldable pub fits : List TypedObject → Ty → Value → Bool
fits made ty.Any v = fits_any made v
fits made (ty.Int lo hi div) v = fits_range lo hi div v
fits made (ty.Ptr shape count n c null) v = is_start n c && fits_pointer made shape count null v
fits made (ty.Status grants) v = is_status v
fits made ty.Handle v = is_handle v
fits made ty.Entry v = is_entry v
fits made (ty.Method m) v = is_method m v
fits made _ v = false

-- written values fit parameters, one for each
unfoldable pub fits_each : List TypedObject → List Param → List Value → Bool
fits_each made params values = nat_eq (length params) (length values) && list_all (λ p. fits made p.0.ty p.1) (zip params values)

-- the value says nothing
abbrev pub is_any : Value → Bool
is_any value.Any = true
is_any _ = false

-- a written value fits the result of a native method, which may have none
abbrev pub fits_result : List TypedObject → Option Ty → Value → Bool
fits_result made None v = is_any v
fits_result made (Some t) v = fits made t v
