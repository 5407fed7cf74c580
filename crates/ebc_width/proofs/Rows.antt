-- Numbers worked out by hand, as the definitions have them.
use Rattle.std.proofs.Common.{◌≡◌, refl, pos, neg_ℤ, ◌-◌, ◌^◌}
use Rattle.ebc_width.specs.Width.{cut_at, extended_at, linear_at}

-- the pair of the index 0xA048
minus_36_at_4 : linear_at 4 (neg_ℤ (pos 8)) (neg_ℤ (pos 4)) ≡ 2 ^ 64 - 36
minus_36_at_4 = refl

minus_68_at_8 : linear_at 8 (neg_ℤ (pos 8)) (neg_ℤ (pos 4)) ≡ 2 ^ 64 - 68
minus_68_at_8 = refl

-- past 64 bits
wrapped_at_8 : linear_at 8 (pos 0x2000_0000_0000_0001) (pos 5) ≡ 13
wrapped_at_8 = refl

cut_at_4 : cut_at 4 0x0000_0001_2345_6789 ≡ 0x2345_6789
cut_at_4 = refl

cut_at_8 : cut_at 8 0x0000_0001_2345_6789 ≡ 0x0000_0001_2345_6789
cut_at_8 = refl

-- a status that is an error, and one that is none
error_at_4 : extended_at 4 0x0000_0000_8000_000E ≡ 0xFFFF_FFFF_8000_000E
error_at_4 = refl

error_at_8 : extended_at 8 0x8000_0000_0000_000E ≡ 0x8000_0000_0000_000E
error_at_8 = refl

greatest_at_4 : extended_at 4 0x0000_0005_7FFF_FFFF ≡ 0x7FFF_FFFF
greatest_at_4 = refl
