-- Meaning: what is known of a register or a stack slot where two ways meet: the join of two types, by a table whose first
-- row that applies holds. docs/crates/note_infer.md has the table.
use Rattle.std.specs.Prelude.{ℕ, ◌-◌, ◌^◌, Bool, ◌&&◌, ◌||◌, nat_eq, nat_le, nat_lt, if◌then◌else◌, Option, Some, None, true, false}
use Rattle.std.specs.Prelude.{unwrap_or}
use Rattle.std.specs.Ordering.{int_eq}
use Rattle.ebc_base.specs.Steps.{only_if}
use Rattle.note_types.specs.BelowTests.{same_type}
use Rattle.note_types.specs.Types.{is_start}
use Rattle.note_types.specs.declared.types.Ty.{Ty}
use Rattle.note_types.specs.declared.types.Ty.TheVariants as ty

-- ---- numbers

-- the common one of two numbers, or else another one
abbrev pub common : ℕ → ℕ → ℕ → ℕ
common x y other = if nat_eq x y then x else other

-- two numbers are at most a third
abbrev pub are_within : ℕ → ℕ → ℕ → Bool
are_within x y end = nat_le x end && nat_le y end

-- the least of the ends 2^31 - 1, 2^32 - 1 and 2^64 - 1 that is at least both
abbrev pub least_end : ℕ → ℕ → ℕ
least_end x y = if are_within x y (2 ^ 31 - 1) then 2 ^ 31 - 1 else if are_within x y (2 ^ 32 - 1) then 2 ^ 32 - 1 else 2 ^ 64 - 1

-- ---- the rows

-- equal types: the type itself
abbrev pub join_equal : Ty → Ty → Option Ty
join_equal a b = only_if (same_type a b) a

-- two Ints: the common lower end or 0, the common upper end or the least of the ends, the common divisor or 1
abbrev pub join_ints : Ty → Ty → Option Ty
join_ints (ty.Int lo hi div) (ty.Int from to by) = Some (ty.Int (common lo from 0) (common hi to (least_end hi to)) (common div by 1))
join_ints _ _ = None

-- two Ptrs of one shape and offset: the common count or 1; null where either may be
abbrev pub join_pointers : Ty → Ty → Option Ty
join_pointers (ty.Ptr s k n c null) (ty.Ptr t l m d may) =
    only_if (nat_eq s t && (int_eq n m && int_eq c d)) (ty.Ptr s (common k l 1) n c (null || may))
join_pointers _ _ = None

-- Int(0, 0)
abbrev pub is_zero : Ty → Bool
is_zero (ty.Int lo hi div) = nat_eq lo 0 && nat_eq hi 0
is_zero _ = false

-- what stands for null or for what the type says: a Ptr at (0, 0) that may be null, Handle or Entry
abbrev pub or_null : Ty → Option Ty
or_null (ty.Ptr s k n c null) = only_if (is_start n c) (ty.Ptr s k n c true)
or_null ty.Handle = Some ty.Handle
or_null ty.Entry = Some ty.Entry
or_null _ = None

-- Int(0, 0) and a Ptr at (0, 0), Handle or Entry: the second type, which may be null
abbrev pub join_null : Ty → Ty → Option Ty
join_null a b = if is_zero a then or_null b else None

-- two Statuses, or a Status and an Int below 2^31: Status without grants
abbrev pub join_status : Ty → Ty → Option Ty
join_status (ty.Status g) (ty.Status h) = Some (ty.Status 0)
join_status (ty.Status g) (ty.Int lo hi div) = only_if (nat_lt hi (2 ^ 31)) (ty.Status 0)
join_status _ _ = None

-- two SignedStatuses: SignedStatus without grants
abbrev pub join_signed : Ty → Ty → Option Ty
join_signed (ty.SignedStatus g) (ty.SignedStatus h) = Some (ty.SignedStatus 0)
join_signed _ _ = None

-- ---- the table

-- The join of two types: the first of these rows that applies, of which two hold in either order, or else Any.
unfoldable pub join_types : Ty → Ty → Ty
join_types a b =
    unwrap_or (join_equal a b) (unwrap_or (join_ints a b) (unwrap_or (join_pointers a b) (unwrap_or (join_null a b)
    (unwrap_or (join_null b a) (unwrap_or (join_status a b) (unwrap_or (join_status b a) (unwrap_or (join_signed a b) ty.Any)))))))
