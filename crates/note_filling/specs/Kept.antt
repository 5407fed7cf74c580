-- For proofs: what of a text with labels stands in the text that is printed for it: each key that it has, a label by its place.
-- docs/LABELS.md, "What may be left out".
use Rattle.std.specs.Prelude.{◌≡◌, ℕ, pos, true, false, List, [], ◌∷◌, ◌++◌, Option, Some, None, codes, IsPermutation}
use Rattle.std.specs.List.{AllZip}
use Rattle.std.specs.Option.{unwrap_or}
use Rattle.ebc_base.specs.Tables.{is_named}
use Rattle.note_draft.specs.declared.finding.TableList.{TableList}
use Rattle.note_draft.specs.declared.finding.TableList.TheVariants as lists
use Rattle.toml.specs.Data.{Data, Items, no_items, item, Members, array, boolean, get_member, string, integer, table}
use Rattle.toml.specs.View.{items_of}
use Rattle.note_filling.specs.Members.{MayBePut}
use Rattle.note_filling.specs.Rows.{place_keys}

-- the number that stands for a place: itself, or that of the label that a text names
abbrev pub IsPlacedAs : (List ℕ → Option ℕ) → Data → Data → Type 0
IsPlacedAs place (string text) new = (p : ℕ) × ((place text ≡ Some p) × (new ≡ integer (pos p)))
IsPlacedAs place old new = new ≡ old

-- A table has all that another has: at the keys of places the places of its labels, and at each other key the same. What it has besides
-- stands at keys that the other may leave out.
pub record IsRowKept (place : List ℕ → Option ℕ) (keys : List (List ℕ)) (puts : List (List ℕ × Option Data)) (old new : Members)
    : Type 0 where
  pub labels : (key : List ℕ) (d : Data) → is_named key keys ≡ true → get_member key old ≡ Some d
      → (e : Data) × ((get_member key new ≡ Some e) × IsPlacedAs place d e)
  pub rest : (key : List ℕ) (d : Data) → is_named key keys ≡ false → get_member key old ≡ Some d → get_member key new ≡ Some d
  pub left : (key : List ℕ) (d : Data) → get_member key old ≡ None → get_member key new ≡ Some d → MayBePut puts key d

-- the keys that tables of a list may leave out, with the one value that then stands there, where there is one
abbrev pub left_out : TableList → List (List ℕ × Option Data)
left_out lists.Static = (codes "count", None) ∷ []
left_out lists.Function =
    (codes "place", None) ∷ (codes "end", None) ∷ (codes "level", None) ∷ (codes "need", None)
    ∷ (codes "result", Some (string (codes "any"))) ∷ (codes "enter", Some (boolean true)) ∷ []
left_out list = []

-- an item of a list is kept
abbrev pub IsItemKept : (List ℕ → Option ℕ) → TableList → Data → Data → Type 0
IsItemKept place list (table row) new =
    (kept : Members) × ((new ≡ table kept) × IsRowKept place (place_keys list) (left_out list) row kept)
IsItemKept place list old new = new ≡ old

-- the items one by one
unfoldable pub list_of : Items → List Data
list_of no_items = []
list_of (item d ds) = d ∷ list_of ds

abbrev pub AreKept : (List ℕ → Option ℕ) → TableList → List Data → List Data → Type 0
AreKept place list old new = AllZip (IsItemKept place list) old new

-- a list whose items are kept one by one, in their order
abbrev pub IsListKept : (List ℕ → Option ℕ) → TableList → Option Data → Option Data → Type 0
IsListKept place list (Some (array old)) new = (items : List Data) × ((new ≡ Some (array (items_of items))) × AreKept place list (list_of
    old) items)
IsListKept place list old new = new ≡ old

-- Items are others in another order, with more among them.
pub record IsMixed (place : List ℕ → Option ℕ) (list : TableList) (old : List Data) (more : List Data) (new : List Data) : Type 0 where
  pub kept : List Data
  pub are_kept : AreKept place list old kept
  pub mixed : IsPermutation (kept ++ more) new

-- a list that is made of more items, where there are any
abbrev pub IsListMade : List Data → Option Data → Option Data → Type 0
IsListMade [] old new = new ≡ old
IsListMade (d ∷ ds) old new = (items : List Data) × ((new ≡ Some (array (items_of items))) × IsPermutation (d ∷ ds) items)

-- a list whose items are kept, in any order, and more among them
abbrev pub IsListMixed : (List ℕ → Option ℕ) → TableList → List Data → Option Data → Option Data → Type 0
IsListMixed place list more (Some (array old)) new =
    (items : List Data) × ((new ≡ Some (array (items_of items))) × IsMixed place list (list_of old) more items)
IsListMixed place list more old new = IsListMade more old new

-- the keys that a text may have otherwise than the printed one
abbrev pub filled_keys : List (List ℕ)
filled_keys =
    codes "version" ∷ codes "entry" ∷ codes "static" ∷ codes "thunk" ∷ codes "function" ∷ codes "point" ∷ codes "site" ∷ []

-- The whole text is kept: static objects and thunk cells in their order, which is that of their numbers; functions in any; points and
-- sites with these more; the version, which is else 1; the entry where it has one; and all else, shapes and signatures among it, as it is.
pub record IsTextKept (place : List ℕ → Option ℕ) (points sites : List Data) (old new : Members) : Type 0 where
  pub version : get_member (codes "version") new ≡ Some (unwrap_or (get_member (codes "version") old) (integer (pos 1)))
  pub entry : (d : Data) → get_member (codes "entry") old ≡ Some d → get_member (codes "entry") new ≡ Some d
  pub statics : IsListKept place lists.Static (get_member (codes "static") old) (get_member (codes "static") new)
  pub thunk : IsListKept place lists.Thunk (get_member (codes "thunk") old) (get_member (codes "thunk") new)
  pub function : IsListMixed place lists.Function [] (get_member (codes "function") old) (get_member (codes "function") new)
  pub point : IsListMixed place lists.Point points (get_member (codes "point") old) (get_member (codes "point") new)
  pub site : IsListMixed place lists.Site sites (get_member (codes "site") old) (get_member (codes "site") new)
  pub rest : (key : List ℕ) → is_named key filled_keys ≡ false → get_member key new ≡ get_member key old
