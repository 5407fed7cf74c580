-- Meaning: bytes by their addresses: what a few of them spell, and what a store leaves. Numbers lie with their lowest byte
-- first. UEFI specification, chapter "Introduction", section "Data Structure Descriptions": the byte order of numbers in
-- memory.
use Rattle.std.specs.Prelude.{◌≡◌, ◌⊎◌, ℕ, zero, suc, ◌+◌, ◌-◌, ◌*◌, ◌/◌, ◌%◌, ◌^◌, ◌&&◌, List, [], ◌∷◌, length, slice_index, nat_le}
use Rattle.std.specs.Prelude.{nat_lt, if◌then◌else◌}

-- the number that the k bytes from address a on spell
unfoldable pub little_endian : (ℕ → ℕ) → ℕ → ℕ → ℕ
little_endian b a zero = 0
little_endian b a (suc k) = b a + 256 * little_endian b (a + 1) k

-- the bytes once the low k bytes of v are put at address a
unfoldable pub put : (ℕ → ℕ) → ℕ → ℕ → ℕ → ℕ → ℕ
put b a k v x = if nat_le a x && nat_lt x (a + k) then v / 256 ^ (x - a) % 256 else b x

-- the bytes once those of a list lie over them from address a on
unfoldable pub overlaid : (ℕ → ℕ) → ℕ → List ℕ → ℕ → ℕ
overlaid b a over x = if nat_le a x && nat_lt x (a + length over) then slice_index over (x - a) else b x

-- the n bytes from address a on, in their order
unfoldable pub window : (ℕ → ℕ) → ℕ → ℕ → List ℕ
window b a zero = []
window b a (suc n) = b a ∷ window b (a + 1) n

-- An access has 1, 2, 4 or 8 bytes.
abbrev pub IsAccess : ℕ → Type 0
IsAccess k = (k ≡ 1) ⊎ (k ≡ 2) ⊎ (k ≡ 4) ⊎ (k ≡ 8)
