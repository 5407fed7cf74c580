-- For proofs: the labels of objects by their places, as they are printed. docs/LABELS.md, "Notes with labels".
use Rattle.std.specs.Prelude.{◌≡◌, ℕ, List, ◌++◌, Bool, Option, Some, None, codes, bytes_eq, nat_lt, slice_get, if◌then◌else◌}
use Rattle.std.specs.Prelude.{IsPermutation}
use Rattle.std.specs.List.{count_by, flat_map}
use Rattle.std.specs.List.Sorted.{IsSortedByKey, IsStableByKey}
use Rattle.std.specs.Ordering.{nat_cmp}
use Rattle.ebc_base.specs.Tables.{is_named}
use Rattle.label_places.specs.declared.label.Label.{Label}
use Rattle.printed_texts.specs.RunTexts.{place_text}

-- where a label stands
abbrev pub label_place : Label → ℕ
label_place l = l.position.place

-- whether a label has this name
abbrev pub has_name : List ℕ → Label → Bool
has_name name l = bytes_eq name l.name

-- whether two labels or more have a name
abbrev pub is_shared : List ℕ → List Label → Bool
is_shared name labels = nat_lt 1 (count_by (has_name name) labels)

-- Names are those that two labels or more have.
pub record AreShared (labels : List Label) (shared : List (List ℕ)) : Type 0 where
  pub several : (name : List ℕ) → is_named name shared ≡ is_shared name labels

-- a name of a label of an object
abbrev pub name_in : Option (List ℕ) → List ℕ → List ℕ
name_in (Some object) name = object ++ (codes ":" ++ name)
name_in None name = name

-- a label as notes name it: by its object too, where its name is one of these
unfoldable pub noted_label_text : List (List ℕ) → List (List ℕ) → Label → List ℕ
noted_label_text objects shared l = if is_named l.name shared then name_in (slice_get objects l.position.object) l.name else l.name

-- the line of a label
unfoldable pub label_line : List (List ℕ) → List (List ℕ) → Label → List ℕ
label_line objects shared l = place_text (label_place l) ++ (codes " " ++ (noted_label_text objects shared l ++ codes "\n"))

-- Labels are others in the order of their places; those at one place stand as they did.
pub record AreInOrder (labels order : List Label) : Type 0 where
  pub same : IsPermutation labels order
  pub ascend : IsSortedByKey label_place nat_cmp order
  pub stable : IsStableByKey label_place nat_cmp labels order

-- A text is the lines of labels of objects whose files have these names, in the order of their places.
pub record IsMap (objects : List (List ℕ)) (labels : List Label) (text : List ℕ) : Type 0 where
  pub shared : List (List ℕ)
  pub are_shared : AreShared labels shared
  pub order : List Label
  pub in_order : AreInOrder labels order
  pub lines : text ≡ flat_map (label_line objects shared) order
