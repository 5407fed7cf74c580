-- The units of a text, looked at one by one.
use Rattle.std.proofs.Common.{◌≡◌, ℕ, zero, suc, ◌+◌, ◌-◌, ◌<◌, refl, sym, ap, ◌∙◌, arith}
use Rattle.std.specs.Prelude.{true, false, not, ◌&&◌}
use Rattle.pe_image.specs.declared.image.Image.{Image}
use Rattle.departures.specs.Texts.{has_no_zero, is_zero_unit}

-- one unit, and those behind it
units_of : (image : Image) (place count : ℕ) → 0 < count
    → has_no_zero image place count ≡ (not (is_zero_unit image place) && has_no_zero image (place + 2) (count - 1))
unfolding has_no_zero
units_of image place zero some = absurd (omega arith)
units_of image place (suc count) some =
    let less : suc count - 1 ≡ count = omega arith in
    ap (λ n. not (is_zero_unit image place) && has_no_zero image (place + 2) n) (sym less)

pub zero_found : (image : Image) (place count : ℕ) → 0 < count → is_zero_unit image place ≡ true → has_no_zero image place count ≡ false
zero_found image place count some e =
    units_of image place count some ∙ ap (λ b. not b && has_no_zero image (place + 2) (count - 1)) e

pub zero_passed : (image : Image) (place count : ℕ) → 0 < count → is_zero_unit image place ≡ false
    → has_no_zero image place count ≡ has_no_zero image (place + 2) (count - 1)
zero_passed image place count some e =
    units_of image place count some ∙ ap (λ b. not b && has_no_zero image (place + 2) (count - 1)) e

pub none_left : (image : Image) (place count : ℕ) → count ≡ 0 → has_no_zero image place count ≡ true
unfolding has_no_zero
none_left image place zero e = refl
none_left image place (suc count) e = absurd (omega arith)
