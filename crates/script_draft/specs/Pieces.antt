-- Meaning: values in a row, with `, ` between them. docs/SCRIPTS.md, "Texts".
use Rattle.std.specs.Prelude.{ℕ, List, [], ◌∷◌, Option, Some, None, Bool, false, ◌==◌, ◌&&◌, if◌then◌else◌, option_map}
use Rattle.script_draft.specs.Lists.{all_of}
use Rattle.script_draft.specs.ValueTexts.{value_of}
use Rattle.script_draft.specs.declared.value.ValueText.{ValueText}

-- a comma and a space
abbrev pub is_comma : ℕ → ℕ → Bool
is_comma b c = b == 44 && c == 32

-- what stands before the first `, ` and what follows it; None where there is none
unfoldable pub cut : List ℕ → Option (List ℕ × List ℕ)
cut [] = None
cut (b ∷ []) = None
cut (b ∷ c ∷ bs) = if is_comma b c then Some ([], bs) else option_map (λ parts. (b ∷ parts.0, parts.1)) (cut (c ∷ bs))

-- a byte before the first of the pieces
abbrev pub onto_first : ℕ → List (List ℕ) → List (List ℕ)
onto_first b [] = (b ∷ []) ∷ []
onto_first b (piece ∷ pieces) = (b ∷ piece) ∷ pieces

-- what stands before, between and after the marks `, `
unfoldable pub pieces : List ℕ → List (List ℕ)
pieces [] = [] ∷ []
pieces (b ∷ []) = (b ∷ []) ∷ []
pieces (b ∷ c ∷ bs) = if is_comma b c then [] ∷ pieces bs else onto_first b (pieces (c ∷ bs))

-- the VALUEs of a text, at least one
unfoldable pub values_of : List ℕ → Option (List ValueText)
values_of text = all_of value_of (pieces text)
