-- For proofs: labels by their names and by their places.
use Rattle.std.specs.Prelude.{◌≡◌, ℕ, Bool, List, [], Vec, String, map, filter, bytes_eq}
use Rattle.std.specs.BTreeMap.{BTreeMap, get_by_text}
use Rattle.std.specs.List.{list_any}
use Rattle.std.specs.Option.{option_map_or}
use Rattle.std.specs.declared.alloc.Global.{Global}
use Rattle.label_places.specs.declared.label.Label.{Label}
use Rattle.label_places.specs.declared.label.Position.{Position}

-- where the labels of a name stand, in the order of the labels
abbrev pub positions_of : List ℕ → List Label → List Position
positions_of name labels = map (λ (l : Label). l.position) (filter (λ (l : Label). bytes_eq name l.name) labels)

-- where the labels of a name stand, as a map has it
abbrev pub positions_at : BTreeMap (String Global) (Vec Position Global) → List ℕ → List Position
positions_at index name = option_map_or (λ (g : Vec Position Global). g.items) (get_by_text index name) []

-- a map has for each name where its labels stand
abbrev pub AreByName : BTreeMap (String Global) (Vec Position Global) → List Label → Type 0
AreByName index labels = (name : List ℕ) → positions_at index name ≡ positions_of name labels

-- positions are those of labels, in any order: a test passes at one where it passes at a label's
abbrev pub AreByPlace : List Position → List Label → Type 0
AreByPlace places labels = (test : Position → Bool) → list_any test places ≡ list_any (λ (l : Label). test l.position) labels
