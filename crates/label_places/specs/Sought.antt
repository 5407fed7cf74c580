-- For proofs: the label that a reference names, or why none is meant. docs/LABELS.md, "A label".
use Rattle.std.specs.Prelude.{ℕ, ◌+◌, Bool, true, false, ◌&&◌, List, [], ◌∷◌, Option, Some, None, Result, Ok, Err, filter, bytes_eq}
use Rattle.std.specs.Prelude.{slice_get}
use Rattle.std.specs.Option.{option_and_then}
use Rattle.label_places.specs.References.{LabelReference, reference_of}
use Rattle.label_places.specs.declared.label.Label.{Label}
use Rattle.label_places.specs.declared.label.Position.{Position}
use Rattle.label_places.specs.declared.seeking.NotFound.{NotFound}
use Rattle.label_places.specs.declared.seeking.NotFound.TheVariants.{Unknown, Several}

-- whether an object of this name is meant
abbrev pub is_object : Option (List ℕ) → Option (List ℕ) → Bool
is_object None name = true
is_object (Some object) None = false
is_object (Some object) (Some name) = bytes_eq name object

-- whether a label is one that a reference names, over objects whose files have these names
abbrev pub is_meant : List (List ℕ) → LabelReference → Label → Bool
is_meant names r l = bytes_eq l.name r.name && is_object r.object (slice_get names l.position.object)

-- where the only one of some labels stands
abbrev pub only : List Label → Result Position NotFound
only [] = Err Unknown
only (l ∷ []) = Ok l.position
only (l ∷ k ∷ ls) = Err Several

-- where the one label stands that a reference names
unfoldable pub position_of : List (List ℕ) → List Label → LabelReference → Result Position NotFound
position_of names labels r = only (filter (is_meant names r) labels)

-- the place of a label with so many bytes behind it
abbrev pub behind : ℕ → Result Position NotFound → Option ℕ
behind addend (Ok p) = Some (p.place + addend)
behind addend (Err fault) = None

-- the place that a text names, over the labels of objects whose files have these names
unfoldable pub place_by : List (List ℕ) → List Label → List ℕ → Option ℕ
place_by names labels text =
    option_and_then (λ (r : LabelReference). behind r.addend (position_of names labels r)) (reference_of text)
