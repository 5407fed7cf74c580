-- For proofs: which spans lie within a text.
use Rattle.std.specs.Prelude.{ℕ, ◌≤◌, List}
use Rattle.std.specs.List.{All}
use Rattle.toml_spans.specs.declared.span.KeySpan.{KeySpan}

-- Each of the spans ends where it begins or after it, and within so many bytes.
abbrev pub AreSpansIn : ℕ → List (ℕ × ℕ) → Type 0
AreSpansIn size spans = All (λ s. (s.0 ≤ s.1) × (s.1 ≤ size)) spans

-- The key isn't after the value, and the value and its items lie within so many bytes.
abbrev pub IsSpanIn : ℕ → KeySpan → Type 0
IsSpanIn size s = ((s.key ≤ s.from) × (s.from ≤ s.to) × (s.to ≤ size)) × AreSpansIn size s.items.items
