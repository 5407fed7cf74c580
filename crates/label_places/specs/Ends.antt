-- For proofs: where what begins at a place ends: at the next of some places, or with its section. docs/LABELS.md, "What may be left out".
use Rattle.std.specs.Prelude.{◌≡◌, ◌⊎◌, ℕ, ◌<◌, ◌≤◌, ◌&&◌, Bool, List, map, filter, nat_eq, nat_le, nat_lt, All, Contains, Option, Some}
use Rattle.std.specs.Prelude.{None}
use Rattle.std.specs.Prelude.{if◌then◌else◌}
use Rattle.std.specs.List.{find}
use Rattle.std.specs.Option.{option_map}
use Rattle.label_places.specs.declared.label.Label.{Label}
use Rattle.label_places.specs.declared.label.ObjectSpan.{ObjectSpan}

-- An end is the bound, or the least of some places above one where that is less.
pub record IsNext (place bound : ℕ) (places : List ℕ) (end : ℕ) : Type 0 where
  pub within : end ≤ bound
  pub first : All (λ p. place < p → end ≤ p) places
  pub one : (end ≡ bound) ⊎ (Contains places end × (place < end))

-- whether a label stands in this section of this object
abbrev pub is_in : ℕ → ℕ → Label → Bool
is_in object section l = nat_eq l.position.object object && nat_eq l.position.section section

-- the places of the labels of a section of an object
abbrev pub places_in : ℕ → ℕ → List Label → List ℕ
places_in object section labels = map (λ (l : Label). l.position.place) (filter (is_in object section) labels)

-- where a section of an object ends: 2 is the data, and any other the code
abbrev pub section_end : ℕ → ObjectSpan → ℕ
section_end section s = if nat_eq section 2 then s.contents_end else s.code_end

-- an end of what begins at a place of a section: that of the section, or its next label; none where there is no such section
abbrev pub IsEndBehind : ℕ → Option ℕ → List ℕ → Option ℕ → Type 0
IsEndBehind place None places end = end ≡ None
IsEndBehind place (Some bound) places None = ⊥
IsEndBehind place (Some bound) places (Some end) = IsNext place bound places end

-- whether a place is one of the code of an object
abbrev pub is_code_of : ℕ → ObjectSpan → Bool
is_code_of place s = nat_le s.code place && nat_lt place s.code_end

-- where the code of the object ends that has a place in its code
abbrev pub code_end_at : ℕ → List ObjectSpan → Option ℕ
code_end_at place spans = option_map (λ (s : ObjectSpan). s.code_end) (find (is_code_of place) spans)
