-- For proofs: the slots of a block: each is one byte, written or not yet.
use Rattle.std.specs.Prelude.{◌≡◌, ℕ, List, [], ◌∷◌, map, Option, Some, None}

-- the bytes that are written
abbrev pub written_bytes : List (Option ℕ) → List ℕ
written_bytes [] = []
written_bytes (None ∷ cs) = written_bytes cs
written_bytes (Some x ∷ cs) = x ∷ written_bytes cs

-- Each byte is written.
abbrev pub AllWritten : List (Option ℕ) → Type 0
AllWritten cs = cs ≡ map Some (written_bytes cs)
