-- Meaning: the names of small texts, alone and several in a row. docs/NOTES.md says where they stand.
use Rattle.std.specs.Prelude.{ℕ, List, [], ◌∷◌, Option, Some, if◌then◌else◌, option_and_then, option_map}
use Rattle.ebc_base.specs.Names.{name_of}

-- the NAMEs that these texts are
unfoldable pub names_of : List (List ℕ) → Option (List (List ℕ))
names_of [] = Some []
names_of (text ∷ texts) = option_and_then (λ name. option_map (λ names. name ∷ names) (names_of texts)) (name_of text)
