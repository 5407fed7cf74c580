-- For proofs: words of eight bytes, side by side.
use Rattle.std.specs.Prelude.{◌≡◌, ◌⊎◌, ℕ, zero, suc, ◌+◌, ◌<◌, ◌≤◌, List, [], ◌∷◌}
use Rattle.ebc_width.specs.Bytes.{little_endian}

-- the n words from an offset on
unfoldable pub words_at : (ℕ → ℕ) → ℕ → ℕ → List ℕ
words_at b a zero = []
words_at b a (suc n) = little_endian b a 8 ∷ words_at b (a + 8) n

-- Bytes are as they were but for the n from an offset on.
unfoldable pub SameApart : (ℕ → ℕ) → (ℕ → ℕ) → ℕ → ℕ → Type 0
SameApart b c a n = (i : ℕ) → (i < a) ⊎ (a + n ≤ i) → c i ≡ b i
