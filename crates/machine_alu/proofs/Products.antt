-- The low bits of a product of signed numbers that wraps at 64 bits.
use Rattle.std.proofs.Common.{◌≡◌, Bool, true, false, arith, ap, ◌∙◌, ℤ, pos, w64, FitsSigned}
use Rattle.std.specs.Prelude.{negsuc, ◌*ℤ◌}
use Rattle.std.specs.Int.{int_wrap, int_wrapping_mul}
use Rattle.std.proofs.lemmas.Int.{ints, wrapping_mul_is}
use Rattle.machine_alu.specs.Alu.{bits_of, wrap}

wrap_once : (wide : Bool) (z : ℤ) → wrap (bits_of wide) (int_wrap w64 z) ≡ wrap (bits_of wide) z
unfolding int_wrap
wrap_once true (pos n) = grind (arith, ints)
wrap_once true (negsuc n) = grind (arith, ints)
wrap_once false (pos n) = grind (arith, ints)
wrap_once false (negsuc n) = grind (arith, ints)

pub wrap_product : (wide : Bool) (m n : ℤ) → FitsSigned w64 m → FitsSigned w64 n
    → wrap (bits_of wide) (int_wrapping_mul w64 m n) ≡ wrap (bits_of wide) (m *ℤ n)
wrap_product wide m n f g = ap (wrap (bits_of wide)) (wrapping_mul_is w64 m n f g) ∙ wrap_once wide (m *ℤ n)
