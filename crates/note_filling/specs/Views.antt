-- For proofs: what the steps of a filling leave of a table, of its lists and of the text.
use Rattle.std.specs.Prelude.{◌≡◌, ◌⊎◌, ℕ, List, [], ◌∷◌, ◌++◌, Option, Some, None, Result, Ok, Err, Vec, false, bytes_eq, codes, map}
use Rattle.std.specs.Prelude.{IsPermutation, pos, slice_get, option_map, option_and_then, ◌-◌, ◌/◌, suc}
use Rattle.std.specs.BTreeMap.{get_by_text}
use Rattle.std.specs.declared.alloc.Global.{Global}
use Rattle.ebc_base.specs.Tables.{is_named}
use Rattle.label_places.specs.Ends.{IsEndBehind, code_end_at, places_in, section_end}
use Rattle.label_places.specs.Sought.{place_by}
use Rattle.label_places.specs.declared.label.{Label.Label, ObjectSpan.ObjectSpan}
use Rattle.note_draft.specs.declared.finding.TableList.{TableList}
use Rattle.note_draft.specs.declared.finding.TableList.TheVariants as lists
use Rattle.toml.specs.Data.{Data, Members, array, get_member, integer, string, table}
use Rattle.std.specs.Option.{unwrap_or}
use Rattle.toml.specs.View.{items_of, view}
use Rattle.toml.specs.declared.value.Value.{Value}
use Rattle.note_filling.specs.Kept.{AreKept, IsPlacedAs, filled_keys, list_of}
use Rattle.note_filling.specs.Members.{number_at_key, number_value, pair_value, put_member, put_missing_member}
use Rattle.note_filling.specs.declared.context.{Context.Context, Found.Found}
use Rattle.note_filling.specs.declared.end.FillEnd.{FillEnd}
use Rattle.note_filling.specs.declared.end.FillEnd.TheVariants as ends
use Rattle.note_filling.specs.declared.end.Flaw.{Flaw as Fault}
use Rattle.note_filling.specs.declared.label.Placed.{Placed}
use Rattle.note_filling.specs.declared.known.Known.{Known}
use Rattle.note_filling.specs.declared.order.Ranked.{Ranked}
use Rattle.note_filling.specs.declared.table.Lists.{Lists}
use Rattle.note_filling.specs.declared.table.Orders.{Orders}
use Rattle.note_filling.specs.Originals.{IsOrder}

-- the names of the objects, their labels, and the place that a text names by them
abbrev pub context_names : Context → List (List ℕ)
context_names c = c.names.now

abbrev pub context_labels : Context → List Label
context_labels c = c.labels.now.labels

abbrev pub context_place : Context → List ℕ → Option ℕ
context_place c text = place_by (context_names c) (context_labels c) text

-- A table with the place of the label at one key.
pub record IsReplaced (place : List ℕ → Option ℕ) (key : List ℕ) (old new : Members) : Type 0 where
  pub here : (d : Data) → get_member key old ≡ Some d → (e : Data) × ((get_member key new ≡ Some e) × IsPlacedAs place d e)
  pub elsewhere : (other : List ℕ) → bytes_eq other key ≡ false → get_member other new ≡ get_member other old

-- a table with a place at a key, if there is one
abbrev pub put_place : List ℕ → Option Placed → Members → Members
put_place key None ms = ms
put_place key (Some p) ms = put_member key (integer (pos p.place)) ms

-- ---- what tables leave out

abbrev pub context_spans : Context → List ObjectSpan
context_spans c = c.labels.now.spans

-- where the code of a function ends whose end is left out: at the next of the functions' places, or with the code of its object
abbrev pub IsLeftEnd : List ObjectSpan → (places : List ℕ) → Option ℕ → Option ℕ → Type 0
IsLeftEnd spans places None end = end ≡ None
IsLeftEnd spans places (Some place) end = IsEndBehind place (code_end_at place spans) places end

-- a function's table with its level and its need, by its number in the text, where it leaves them out; 0 where they aren't known
abbrev pub with_found : Found → ℕ → Members → Members
with_found found number ms =
    put_missing_member (codes "need") (pair_value (unwrap_or (slice_get found.needs.now number) (record { n = 0; c = 0 })))
    (put_missing_member (codes "level") (number_value (unwrap_or (slice_get found.levels.now number) 0)) ms)

-- how many instances of so many bytes lie between a place and an end; 1 where there is no end, or no byte in an instance
abbrev pub instances : ℕ → Option ℕ → Option ℕ → ℕ
instances place (Some end) (Some (suc n)) = (end - place) / suc n
instances place end size = 1

-- how many bytes an instance of the shape of a name takes, where the text says it
abbrev pub known_size : Known → Option (List ℕ) → Option ℕ
known_size known name = option_and_then (get_by_text known.sizes) name

-- a count of instances between the place of a label and where what begins there ends
abbrev pub IsCount : List ObjectSpan → List Label → Placed → Option ℕ → ℕ → Type 0
IsCount spans labels p size count =
    (end : Option ℕ) × (IsEndBehind p.place (option_map (section_end p.position.section) (slice_get spans p.position.object))
    (places_in p.position.object p.position.section labels) end × (count ≡ instances p.place end size))

-- ---- lists

-- a list that stands somewhere, filled
abbrev pub IsFilledList : (List ℕ → Option ℕ) → TableList → Option Data → Option (Vec Value Global) → Type 0
IsFilledList place list (Some (array old)) (Some values) = AreKept place list (list_of old) (map view values.items)
IsFilledList place list (Some (array old)) None = ⊥
IsFilledList place list old values = values ≡ None

-- The lists of a text, filled.
pub record AreFilledLists (place : List ℕ → Option ℕ) (ms : Members) (filled : Lists) : Type 0 where
  pub statics : IsFilledList place lists.Static (get_member (codes "static") ms) filled.statics
  pub thunks : IsFilledList place lists.Thunk (get_member (codes "thunk") ms) filled.thunks
  pub functions : IsFilledList place lists.Function (get_member (codes "function") ms) filled.functions
  pub points : IsFilledList place lists.Point (get_member (codes "point") ms) filled.points
  pub sites : IsFilledList place lists.Site (get_member (codes "site") ms) filled.sites

-- a list put in order, with more items
abbrev pub IsArranged : Option (Vec Value Global) → List Data → Option (Vec Value Global) → Type 0
IsArranged (Some old) more (Some new) = IsPermutation (map view old.items ++ more) (map view new.items)
IsArranged (Some old) more None = ⊥
IsArranged None [] new = new ≡ None
IsArranged None (d ∷ ds) (Some new) = IsPermutation (d ∷ ds) (map view new.items)
IsArranged None (d ∷ ds) None = ⊥

-- the items of a list, none where there is none
abbrev pub items_if_any : Option (Vec Value Global) → List Data
items_if_any None = []
items_if_any (Some values) = map view values.items

-- The items of lists that are put in order had these numbers, with more points and sites behind the others.
pub record AreOrdered (old : Lists) (more_points more_sites : List Data) (orders : Orders) (new : Lists) : Type 0 where
  pub functions : IsOrder (items_if_any old.functions ++ []) orders.functions.items (items_if_any new.functions)
  pub points : IsOrder (items_if_any old.points ++ more_points) orders.points.items (items_if_any new.points)
  pub sites : IsOrder (items_if_any old.sites ++ more_sites) orders.sites.items (items_if_any new.sites)

-- Lists put in order, with more points and sites.
pub record AreArranged (old : Lists) (more_points more_sites : List Data) (new : Lists) : Type 0 where
  pub statics : new.statics ≡ old.statics
  pub thunks : new.thunks ≡ old.thunks
  pub functions : IsArranged old.functions [] new.functions
  pub points : IsArranged old.points more_points new.points
  pub sites : IsArranged old.sites more_sites new.sites

-- the place of an item, where it has one, and the number by which items are put in order
abbrev pub item_place : Data → Option ℕ
item_place (table row) = number_at_key (codes "place") row
item_place d = None

abbrev pub item_rank : Data → ℕ
item_rank d = unwrap_or (item_place d) 0xffffffffffffffff

abbrev pub IsRanked : Ranked → Type 0
IsRanked r = r.place ≡ item_rank (view r.value)

-- an item stood at its number among these
abbrev pub StoodAmong : List Data → Ranked → Type 0
StoodAmong items r = slice_get items r.index ≡ Some (view r.value)

-- ---- the text

-- what stands at a key behind a list was put there, if there is one
abbrev pub list_or_old : Option (Vec Value Global) → Option Data → Option Data
list_or_old None old = old
list_or_old (Some values) old = Some (array (items_of (map view values.items)))

abbrev pub put_items : List ℕ → Option (Vec Value Global) → Members → Members
put_items key None ms = ms
put_items key (Some values) ms = put_member key (array (items_of (map view values.items))) ms

-- A text with these lists. Its version and its entry stay where it has them, and are else 1 and this one.
pub record IsAssembled (entry_name : List ℕ) (made : Lists) (old new : Members) : Type 0 where
  pub version : get_member (codes "version") new ≡ Some (unwrap_or (get_member (codes "version") old) (integer (pos 1)))
  pub entry : get_member (codes "entry") new ≡ Some (unwrap_or (get_member (codes "entry") old) (string entry_name))
  pub statics : get_member (codes "static") new ≡ list_or_old made.statics (get_member (codes "static") old)
  pub thunks : get_member (codes "thunk") new ≡ list_or_old made.thunks (get_member (codes "thunk") old)
  pub functions : get_member (codes "function") new ≡ list_or_old made.functions (get_member (codes "function") old)
  pub points : get_member (codes "point") new ≡ list_or_old made.points (get_member (codes "point") old)
  pub sites : get_member (codes "site") new ≡ list_or_old made.sites (get_member (codes "site") old)
  pub rest : (key : List ℕ) → is_named key filled_keys ≡ false → get_member key new ≡ get_member key old

-- a function tells the first fault of a label, or one that is no label's, unless memory ran out
abbrev pub Refuses : FillEnd → Result (Unit {0}) Fault → Type 0
Refuses ends.NoMemory read = Unit {0}
Refuses (ends.Flaw f) read = (read ≡ Err f) ⊎ ((read ≡ Ok tt) × (f.label ≡ None))

abbrev pub GoesOnOrRefuses : {X : Type 0} → Result X FillEnd → Result (Unit {0}) Fault → Type 0
GoesOnOrRefuses (Ok x) read = read ≡ Ok tt
GoesOnOrRefuses (Err e) read = Refuses e read
