-- Meaning: what a number means where a pointer has 4 or 8 bytes: its low bytes, their sign, and a count of natural units.
-- UEFI specification, chapter "EFI Byte Code Virtual Machine", section "Natural Indexing", and the moves of natural size.
use Rattle.std.specs.Prelude.{◌≡◌, ◌⊎◌, ℕ, ◌+◌, ◌-◌, ◌*◌, ◌%◌, ◌^◌, ℤ, pos, negsuc, ◌+ℤ◌, ◌*ℤ◌, nat_lt, if◌then◌else◌}

-- A pointer has 4 or 8 bytes.
abbrev pub IsWidth : ℕ → Type 0
IsWidth w = (w ≡ 4) ⊎ (w ≡ 8)

-- the low w bytes of x
abbrev pub cut_at : ℕ → ℕ → ℕ
cut_at w x = x % 2 ^ (8 * w)

-- a signed number modulo 2 ^ 64
abbrev pub wrap64 : ℤ → ℕ
wrap64 (pos n) = n % 2 ^ 64
wrap64 (negsuc n) = 2 ^ 64 - 1 - n % 2 ^ 64

-- the low w bytes of x, with their top bit in each bit above them, in 64 bits
abbrev pub extended_at : ℕ → ℕ → ℕ
extended_at w x =
    if nat_lt (2 * cut_at w x) (2 ^ (8 * w)) then cut_at w x
    else cut_at w x + (2 ^ 64 - 2 ^ (8 * w))

-- n natural units, of w bytes each, and c bytes, modulo 2 ^ 64
abbrev pub linear_at : ℕ → ℤ → ℤ → ℕ
linear_at w n c = wrap64 ((n *ℤ pos w) +ℤ c)

-- how far one address lies from another, modulo 2^64
abbrev pub distance_of : ℕ → ℕ → ℕ
distance_of base from = (base + (2 ^ 64 - from)) % 2 ^ 64

-- the signed number that its two's complement in so many bits spells
abbrev pub signed_at : ℕ → ℕ → ℤ
signed_at bits n = if nat_lt n (2 ^ (bits - 1)) then pos n else negsuc (2 ^ bits - 1 - n)
