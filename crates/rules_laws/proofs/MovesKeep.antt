-- What moves keep of a known type is known, and so is what stands beside an operand.
use Rattle.rules_laws.proofs.Common.{◌≡◌, ℕ, ◌-◌, ◌^◌, ◌<◌, ◌≤◌, true, ◌&&◌, nat_lt, List, Option, None, Some, arith, mod-lt, ℤ, pos}
use Rattle.rules_laws.proofs.Common.{negsuc, int_le, ◌≤ℤ◌, int_eq, leb-true, false≢true, ints, Index, Extra, Size, Qword, FnNote, Notes}
use Rattle.rules_laws.proofs.Common.{Shape, Ty, Int, Lin, Ptr, Distance, counted, IsKnown, wrap64}
use Rattle.ebc_insn.specs.declared.Size.TheVariants.{Byte, Word, Dword, Natural}
use Rattle.ebc_insn.specs.declared.Extra.TheVariants.{Nothing, Imm, Idx}
use Rattle.note_types.specs.declared.types.Ty.TheVariants.{Status, SignedStatus, Saved}
use Rattle.rules_base.specs.{Kept.kept, Kept.kept_low, Kept.kept_natural, Kept.kept_signed, Operands.distance_type, Operands.with_immediate}
use Rattle.rules_base.specs.Operands.{with_index}
use Rattle.rules_laws.proofs.SumsKeep.{any_known, constant_known, if_known, int_known, lin_known, sum-known}

-- ---- moves

kept_low-known : (notes : Notes) (f : FnNote) (bits : ℕ) (t : Ty) → 2 ^ bits ≤ 2 ^ 64 → IsKnown notes f t
    → IsKnown notes f (kept_low bits t)
kept_low-known notes f bits (Int lo hi div) w h =
    if_known notes f (nat_lt hi (2 ^ bits)) _ _ (λ e. h) (int_known notes f 0 (2 ^ bits - 1) 1 (omega arith) (omega arith) (omega arith)
    (omega arith))
kept_low-known notes f bits _ w h = any_known notes f

pub kept_natural-known : (notes : Notes) (f : FnNote) (t : Ty) → IsKnown notes f t → IsKnown notes f (kept_natural t)
kept_natural-known notes f (Int lo hi div) h = if_known notes f (nat_lt hi (2 ^ 32)) _ _ (λ e. h) (any_known notes f)
kept_natural-known notes f (Lin n c) h = if_known notes f (int_le (pos 0) c) _ _ (λ e. h) (any_known notes f)
kept_natural-known notes f (Ptr s k n c null) h = if_known notes f (int_eq n (pos 0) && int_eq c (pos 0)) _ _ (λ e. h) (any_known notes f)
kept_natural-known notes f (SignedStatus g) h = any_known notes f
kept_natural-known notes f (Saved r) h = any_known notes f
kept_natural-known notes f t h = h

pub kept_signed-known : (notes : Notes) (f : FnNote) (t : Ty) → IsKnown notes f t → IsKnown notes f (kept_signed t)
kept_signed-known notes f (Status g) h = record { bounded = h.bounded; names = h.names }
kept_signed-known notes f (Int lo hi div) h = if_known notes f (nat_lt hi (2 ^ 31)) _ _ (λ e. h) (any_known notes f)
kept_signed-known notes f _ h = any_known notes f

pub kept_dword-known : (notes : Notes) (f : FnNote) (t : Ty) → IsKnown notes f t → IsKnown notes f (kept_low 32 t)
kept_dword-known notes f t h = kept_low-known notes f 32 t (omega arith) h

pub kept-known : (notes : Notes) (f : FnNote) (size : Size) (t : Ty) → IsKnown notes f t → IsKnown notes f (kept size t)
kept-known notes f Byte t h = kept_low-known notes f 8 t (omega arith) h
kept-known notes f Word t h = kept_low-known notes f 16 t (omega arith) h
kept-known notes f Dword t h = kept_low-known notes f 32 t (omega arith) h
kept-known notes f Qword t h = h
kept-known notes f Natural t h = kept_natural-known notes f t h

-- ---- operands

pub wrap_below : (z : ℤ) → wrap64 z < 2 ^ 64
wrap_below (pos n) = mod-lt n (omega arith)
wrap_below (negsuc n) = omega arith

pub at_least_one_from : (z : ℤ) → int_le (pos 1) z ≡ true → pos 1 ≤ℤ z
at_least_one_from (pos n) h = let l = leb-true 1 n h in omega (arith, ints)
at_least_one_from (negsuc n) h = absurd (false≢true h)

pub distance_type-known : (notes : Notes) (f : FnNote) (d : Distance) → IsKnown notes f (distance_type d)
distance_type-known notes f d =
    if_known notes f (int_eq d.n (pos 0)) _ _ (λ e. constant_known notes f _ (wrap_below d.c))
    (if_known notes f (int_le (pos 1) d.n) _ _ (λ e. lin_known notes f d.n d.c (at_least_one_from d.n e)) (any_known notes f))

pub with_immediate-known : (notes : Notes) (f : FnNote) (shapes : List Shape) (t : Ty) (extra : Extra) → IsKnown notes f t
    → IsKnown notes f (with_immediate shapes t extra)
with_immediate-known notes f shapes t Nothing h = h
with_immediate-known notes f shapes t (Imm v) h = sum-known notes f shapes t _ h (constant_known notes f _ (wrap_below v))
with_immediate-known notes f shapes t (Idx i) h = h

pub with_index-known : (notes : Notes) (f : FnNote) (shapes : List Shape) (t : Ty) (i : Option Index) → IsKnown notes f t
    → IsKnown notes f (with_index shapes t i)
with_index-known notes f shapes t None h = h
with_index-known notes f shapes t (Some i) h = sum-known notes f shapes t _ h (distance_type-known notes f (counted i))
