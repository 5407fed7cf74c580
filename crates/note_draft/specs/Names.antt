-- Meaning: the names that the notes give, each once. docs/NOTES.md says which things of the notes are named.
use Rattle.std.specs.Prelude.{ℕ, not, List, [], ◌∷◌, filter, bytes_eq}

-- the distinct names of these, in the order in which each first stands there
unfoldable pub distinct : List (List ℕ) → List (List ℕ)
distinct [] = []
distinct (name ∷ names) = name ∷ filter (λ other. not (bytes_eq other name)) (distinct names)
