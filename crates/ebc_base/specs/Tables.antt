-- Meaning: names and their numbers: a name of a list of names, each there once, is its place in the list, from 0.
use Rattle.std.specs.Prelude.{ℕ, Bool, List, [], ◌∷◌, ◌++◌, if◌then◌else◌, bytes_eq}
use Rattle.std.specs.List.{list_any, position_or_len}

-- whether a name is among the names
abbrev pub is_named : List ℕ → List (List ℕ) → Bool
is_named name names = list_any (bytes_eq name) names

-- the number of a name, or the number of names where it isn't there
abbrev pub name_number : List ℕ → List (List ℕ) → ℕ
name_number name names = position_or_len (bytes_eq name) names

-- the names with one more at their end, unless it is there
abbrev pub with_name : List ℕ → List (List ℕ) → List (List ℕ)
with_name name names = if is_named name names then names else names ++ name ∷ []
