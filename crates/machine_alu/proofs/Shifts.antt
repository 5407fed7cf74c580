-- Shifts past the width.
use Rattle.std.proofs.Common.{◌≡◌, ℕ, ◌+◌, ◌-◌, ◌*◌, ◌/◌, ◌%◌, ◌^◌, ◌<◌, ◌≤◌, arith, sym, ap, ◌∙◌, ℤ, pos, w64, FitsSigned}
use Rattle.std.specs.Prelude.{negsuc, ◌<ℤ◌, ◌≤ℤ◌}
use Rattle.std.proofs.lemmas.Nat.{pow-add}
use Rattle.std.proofs.lemmas.Int.{ints}
use Rattle.std.proofs.Math.Nat.{div-eq_of_lt, mul-mod_left, mul_assoc}
use Rattle.std.proofs.Math.Pow.{pow_mono}
use Rattle.machine_alu.specs.Alu.{shifted}

pub past_right : (x y : ℕ) → x < 2 ^ 64 → 64 ≤ y → x / 2 ^ y ≡ 0
past_right x y small past = div-eq_of_lt (omega (arith, pow_mono past))

pub past_left : (x y k : ℕ) → k ≤ y → (x * 2 ^ y) % 2 ^ k ≡ 0
past_left x y k past =
    let whole : y ≡ y - k + k = omega arith in
    ap (λ e. (x * 2 ^ e) % 2 ^ k) whole ∙ rw (pow-add 2 (y - k) k, ← mul_assoc x (2 ^ (y - k)) (2 ^ k))
    (mul-mod_left (x * 2 ^ (y - k)) (2 ^ k))

pub past_negative : (z : ℤ) (y : ℕ) → FitsSigned w64 z → 64 ≤ y → z <ℤ pos 0 → negsuc 0 ≡ shifted z y
past_negative (pos n) y fits past below = absurd (omega (arith, ints))
past_negative (negsuc n) y fits past below = ap negsuc (sym (past_right n y (omega (arith, ints)) past))

pub past_positive : (z : ℤ) (y : ℕ) → FitsSigned w64 z → 64 ≤ y → pos 0 ≤ℤ z → pos 0 ≡ shifted z y
past_positive (pos n) y fits past above = ap pos (sym (past_right n y (omega (arith, ints)) past))
past_positive (negsuc n) y fits past above = absurd (omega (arith, ints))
