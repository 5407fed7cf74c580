-- For proofs: where labels may stand in the tables of the lists, and the first fault of one. docs/LABELS.md, "What is answered".
use Rattle.std.specs.Prelude.{ℕ, ◌+◌, Bool, true, false, List, [], ◌∷◌, Option, Some, None, Result, Ok, codes}
use Rattle.ebc_base.specs.Steps.{◌>>=◌}
use Rattle.label_places.specs.declared.label.Label.{Label}
use Rattle.note_draft.specs.Findings.{path_of}
use Rattle.note_draft.specs.declared.finding.Key.{Key}
use Rattle.note_draft.specs.declared.finding.Key.TheVariants as keys
use Rattle.note_draft.specs.declared.finding.TableList.{TableList}
use Rattle.note_draft.specs.declared.finding.TableList.TheVariants as lists
use Rattle.toml.specs.Data.{Data, Items, no_items, item, Members, get_member, table, array, as_str}
use Rattle.note_filling.specs.Members.{text_at_key}
use Rattle.note_filling.specs.Places.{labelled_place}
use Rattle.note_filling.specs.declared.end.Flaw.{Flaw}

-- whether the labels of a list's tables are those of the code
abbrev pub is_code : TableList → Bool
is_code lists.Function = true
is_code lists.Point = true
is_code lists.Site = true
is_code list = false

-- the keys of a list's tables at which labels may stand
abbrev pub place_keys : TableList → List (List ℕ)
place_keys lists.Function = codes "place" ∷ codes "end" ∷ []
place_keys lists.Shape = []
place_keys lists.Signature = []
place_keys list = codes "place" ∷ []

-- the fault of the label that a text is at a key of a table of a list
abbrev pub label_fault : List (List ℕ) → List Label → TableList → Key → ℕ → Option (List ℕ) → Result (Unit {0}) Flaw
label_fault names labels list key i text =
    labelled_place (is_code list) names labels (path_of (record { list = list; item = i; key = key })) text >>= (λ _. Ok tt)

-- the text that names a function's place: that at `place`, or, where this is left out, its name
abbrev pub place_text_or : Option (List ℕ) → Option Data → Option (List ℕ)
place_text_or name None = name
place_text_or name (Some d) = as_str d

abbrev pub place_naming_text : Members → Option (List ℕ)
place_naming_text row = place_text_or (text_at_key (codes "name") row) (get_member (codes "place") row)

-- the first fault of a label in a table of a list
unfoldable pub row_labels : List (List ℕ) → List Label → TableList → ℕ → Members → Result (Unit {0}) Flaw
row_labels names labels lists.Shape i row = Ok tt
row_labels names labels lists.Signature i row = Ok tt
row_labels names labels lists.Function i row = do
  _ ← label_fault names labels lists.Function keys.Place i (place_naming_text row)
  label_fault names labels lists.Function keys.End i (text_at_key (codes "end") row)
row_labels names labels list i row = label_fault names labels list keys.Place i (text_at_key (codes "place") row)

-- the same of an item of a list
abbrev pub item_labels : List (List ℕ) → List Label → TableList → ℕ → Data → Result (Unit {0}) Flaw
item_labels names labels list i (table row) = row_labels names labels list i row
item_labels names labels list i d = Ok tt

-- the first fault of a label in the items of a list, from the item of this number on
unfoldable pub items_labels : List (List ℕ) → List Label → TableList → ℕ → Items → Result (Unit {0}) Flaw
items_labels names labels list i no_items = Ok tt
items_labels names labels list i (item d ds) = do
  _ ← item_labels names labels list i d
  items_labels names labels list (i + 1) ds

-- the same of what stands at the list's key
abbrev pub list_labels : List (List ℕ) → List Label → TableList → Option Data → Result (Unit {0}) Flaw
list_labels names labels list (Some (array ds)) = items_labels names labels list 0 ds
list_labels names labels list d = Ok tt

-- the first fault of a label in a text: list by list, table by table, key by key
unfoldable pub text_labels : List (List ℕ) → List Label → Members → Result (Unit {0}) Flaw
text_labels names labels ms = do
  _ ← list_labels names labels lists.Static (get_member (codes "static") ms)
  _ ← list_labels names labels lists.Thunk (get_member (codes "thunk") ms)
  _ ← list_labels names labels lists.Function (get_member (codes "function") ms)
  _ ← list_labels names labels lists.Point (get_member (codes "point") ms)
  list_labels names labels lists.Site (get_member (codes "site") ms)
