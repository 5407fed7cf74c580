-- Meaning: Repeats in a list, and where places don't ascend. docs/NOTES.md says which lists have no repeat, and which
-- ascend.
use Rattle.std.specs.Prelude.{◌≡◌, ℕ, ◌-◌, Bool, false, bytes_eq, nat_le, List, Option, None, Some, is_some, length, take, get_or}
use Rattle.std.specs.Prelude.{slice_get}
use Rattle.std.specs.List.{find, list_any, range_with_len}
use Rattle.std.specs.Option.{option_map, unwrap_or}
use Rattle.note_draft.specs.declared.repeats.Numbering.{Numbering}
use Rattle.note_draft.specs.declared.repeats.Numbering.TheVariants.{Table, Repeat}

module _ {T : Type 0} (same : T → T → Bool) where
  -- whether item i is the same as one of those before it
  abbrev pub repeats : List T → ℕ → Bool
  repeats xs i = unwrap_or (option_map (λ x. list_any (same x) (take i xs)) (slice_get xs i)) false

  -- the least number of an item that is the same as one of those before it
  unfoldable pub first_repeat : List T → Option ℕ
  first_repeat xs = find (repeats xs) (range_with_len 0 (length xs))

  -- whether there is such an item
  unfoldable pub has_repeat : List T → Bool
  has_repeat xs = is_some (first_repeat xs)

-- whether number i is at most the one before it
abbrev pub descends : List ℕ → ℕ → Bool
descends xs i = nat_le (get_or xs i 0) (get_or xs (i - 1) 0)

-- the least i, at least 1, at which the numbers don't ascend
unfoldable pub first_descent : List ℕ → Option ℕ
first_descent xs = find (descends xs) (range_with_len 1 (length xs - 1))

-- the table of the names, none of which repeats; or the number of the first that does
abbrev pub Numbers : List (List ℕ) → Numbering → Type 0
Numbers names (Table table) = (first_repeat bytes_eq names ≡ None) × (table ≡ names)
Numbers names (Repeat i) = first_repeat bytes_eq names ≡ Some i
