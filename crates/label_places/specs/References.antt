-- For proofs: the texts that name places by labels. docs/LABELS.md, "A label".
use Rattle.std.specs.Prelude.{ℕ, List, Option, Some, None, option_map, if◌then◌else◌}
use Rattle.ebc_base.specs.Names.{is_name}
use Rattle.note_texts.specs.Numbers.{number_in}
use Rattle.note_texts.specs.Splits.{parts_at}

-- A reference to a label, the object that has it where that is said, and how many bytes behind it.
pub record LabelReference : Type 0 where
  pub object : Option (List ℕ)
  pub name : List ℕ
  pub addend : ℕ

-- the greatest distance behind a label
abbrev pub furthest : ℕ
furthest = 4194303

abbrev pub addend_of : Option (List ℕ) → Option ℕ
addend_of None = Some 0
addend_of (Some digits) = number_in 0 furthest digits

-- a name, and how many bytes behind it stand after a `+`
abbrev pub named_with : Option (List ℕ) → List ℕ × Option (List ℕ) → Option LabelReference
named_with object (name, digits) =
    if is_name name then option_map (λ addend. record { object = object; name = name; addend = addend }) (addend_of digits) else None

abbrev pub named : Option (List ℕ) → List ℕ → Option LabelReference
named object text = named_with object (parts_at 43 text)

abbrev pub reference_in : List ℕ × Option (List ℕ) → Option LabelReference
reference_in (whole, None) = named None whole
reference_in (object, Some rest) = named (Some object) rest

-- what a text refers to: `LABEL`, `OBJECT:LABEL`, and either with `+N` behind it
unfoldable pub reference_of : List ℕ → Option LabelReference
reference_of text = reference_in (parts_at 58 text)
