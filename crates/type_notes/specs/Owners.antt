-- Meaning: the function that holds a place of the code. docs/NOTES.md says where a function's code lies.
use Rattle.std.specs.Prelude.{◌≡◌, ℕ, ◌<◌, ◌≤◌, Bool, ◌&&◌, nat_lt, nat_le, List, Option, None, Some, map, is_none, slice_get}
use Rattle.std.specs.List.{position}
use Rattle.note_draft.specs.declared.draft.FunctionDraft.{FunctionDraft}
use Rattle.note_draft.specs.declared.draft.PointDraft.{PointDraft}
use Rattle.type_notes.specs.declared.owners.Owners.{Owners}
use Rattle.type_notes.specs.declared.owners.Owners.TheVariants.{All, Stray}

-- whether a function's code, from its place up to its end, has the place
abbrev pub has_place : ℕ → FunctionDraft → Bool
has_place place function = nat_le function.place place && nat_lt place function.end

-- the number of the first function that holds the place
unfoldable pub owner_of : List FunctionDraft → ℕ → Option ℕ
owner_of functions place = position (has_place place) functions

-- the least number of a point whose place no function holds
unfoldable pub first_stray : List FunctionDraft → List PointDraft → Option ℕ
first_stray functions points = position (λ point. is_none (owner_of functions point.place)) points

-- the numbers are those of the points' functions
abbrev pub AreOwners : List FunctionDraft → List PointDraft → List ℕ → Type 0
AreOwners functions points owners = map Some owners ≡ map (λ p. owner_of functions p.place) points

-- for each point the first function that holds it, and none is astray; or the number of the first that is
abbrev pub FindsOwners : List FunctionDraft → List PointDraft → Owners → Type 0
FindsOwners functions points (All owners) =
    (first_stray functions points ≡ None) × AreOwners functions points owners.items
FindsOwners functions points (Stray number) = first_stray functions points ≡ Some number

-- the functions below number n end by the place
abbrev pub EndBy : List FunctionDraft → ℕ → ℕ → Type 0
EndBy functions n place = (k : ℕ) (f : FunctionDraft) → k < n → slice_get functions k ≡ Some f → f.end ≤ place
