-- Meaning: Files by their names, what a failed write may change, and what is appended to a text. This project defines it:
-- docs/OUTSIDE.md.
use Rattle.std.specs.Prelude.{◌≡◌, ◌≢◌, ℕ, List, ◌++◌, take, Option, Some, None}
use Rattle.std.specs.Ordering.{nat_cmp}
use Rattle.std.specs.Cmp.Lexicographic.{slice_cmp}
use Rattle.std.specs.FinMap.{FinMap, get}

-- the bytes under each name
abbrev pub Files : Type 0
Files = FinMap (slice_cmp nat_cmp) (List ℕ)

-- the same files, but for what stands under one name, where they are told
abbrev pub SameOtherFiles : List ℕ → Option Files → Option Files → Type 0
SameOtherFiles name None None = Unit {0}
SameOtherFiles name (Some old) (Some new) = (other : List ℕ) → other ≢ name → get new other ≡ get old other
SameOtherFiles name _ _ = ⊥

-- some of the bytes, from the first on, now stand at the end of the text, where it is told
abbrev pub AppendsPart : List ℕ → Option (List ℕ) → Option (List ℕ) → Type 0
AppendsPart bytes None None = Unit {0}
AppendsPart bytes (Some old) (Some new) = (count : ℕ) × (new ≡ old ++ take count bytes)
AppendsPart bytes _ _ = ⊥
