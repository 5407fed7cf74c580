-- Meaning: numbers and texts at an offset of a file. PE/COFF specification, "File Headers": the lowest byte of a number
-- comes first.
use Rattle.std.specs.Prelude.{ℕ, List, take, drop, slice_index}
use Rattle.ebc_width.specs.Bytes.{little_endian}

-- the number in the n bytes at an offset
unfoldable pub number_at : List ℕ → ℕ → ℕ → ℕ
number_at file n at = little_endian (slice_index file) at n

-- the number in two bytes
abbrev pub u16_at : List ℕ → ℕ → ℕ
u16_at file at = number_at file 2 at

-- the number in four bytes
abbrev pub u32_at : List ℕ → ℕ → ℕ
u32_at file at = number_at file 4 at

-- the number in eight bytes
abbrev pub u64_at : List ℕ → ℕ → ℕ
u64_at file at = number_at file 8 at

-- n bytes
unfoldable pub bytes_at : List ℕ → ℕ → ℕ → List ℕ
bytes_at file at n = take n (drop at file)
