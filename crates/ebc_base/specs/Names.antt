-- Meaning: the form of a name, of a symbol as of a thing of the notes. docs/NOTES.md, "Texts".
use Rattle.std.specs.Prelude.{ℕ, List, [], ◌∷◌, length, Bool, false, nat_le, ◌==◌, ◌&&◌, ◌||◌, Option, Some, None, if◌then◌else◌}
use Rattle.std.specs.List.{list_all}

-- `A` to `Z` or `a` to `z`
abbrev pub is_letter : ℕ → Bool
is_letter b = (nat_le 65 b && nat_le b 90) || (nat_le 97 b && nat_le b 122)

-- `0` to `9`
abbrev pub is_digit : ℕ → Bool
is_digit b = nat_le 48 b && nat_le b 57

-- what a name begins with: a letter, `_` or `.`
abbrev pub begins_name : ℕ → Bool
begins_name b = is_letter b || (b == 95 || b == 46)

-- what a name goes on with: a letter, a digit, `_` or `.`
abbrev pub continues_name : ℕ → Bool
continues_name b = begins_name b || is_digit b

-- 1 to 63 bytes
unfoldable pub is_name : List ℕ → Bool
is_name [] = false
is_name (b ∷ bs) = begins_name b && (nat_le (length bs) 62 && list_all continues_name bs)

-- the NAME that a text is
abbrev pub name_of : List ℕ → Option (List ℕ)
name_of text = if is_name text then Some text else None
