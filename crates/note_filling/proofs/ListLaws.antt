-- The items of a list, one item more, and what the arranged list keeps.
use Rattle.note_filling.proofs.Common.{◌≡◌, ℕ, ◌+◌, ◌<◌, ◌≤◌, List, [], ◌∷◌, ◌++◌, length, get_or, map, take, drop, Option, Some, None, Vec}
use Rattle.note_filling.proofs.Common.{Global, refl, sym, ap, ◌∙◌, subst, Result, Ok, Err, map-append, ◌>>=◌, TableList, Data, array}
use Rattle.note_filling.proofs.Common.{string, integer, float, boolean, datetime, table, items_view, view, Value, AreKept, items_labels}
use Rattle.note_filling.proofs.Common.{IsArranged, IsFilledList, list_or_old, Fails, FillEnd}
use Rattle.std.proofs.lemmas.List.{drop_all, Elements.AllZip-push}
use Rattle.ebc_link.proofs.LaidLaws.{at_hand, taken}
use Rattle.label_places.specs.declared.label.Label.{Label}
use Rattle.toml.specs.{Data.item, Data.as_array, View.items_of}
use Rattle.note_filling.specs.{Kept.IsItemKept, Kept.IsListKept, Kept.IsListMade, Kept.IsListMixed, Kept.list_of, Rows.item_labels}
use Rattle.note_filling.specs.declared.end.Flaw.{Flaw}
use Rattle.note_filling.specs.declared.end.FillEnd.TheVariants as ends

-- ---- the labels of a list

items-split : (vs : List Value) (i : ℕ) (v : Value) → i < length vs → v ≡ get_or vs i v
    → items_view (drop i vs) ≡ item (view v) (items_view (drop (i + 1) vs))
items-split vs i v within is = ap items_view (at_hand vs i v within is)

pub items-more : (names : List (List ℕ)) (labels : List Label) (list : TableList) (vs : List Value) (i : ℕ) (v : Value)
    (whole : Result (Unit {0}) Flaw) → i < length vs → v ≡ get_or vs i v
    → items_labels names labels list i (items_view (drop i vs)) ≡ whole → item_labels names labels list i (view v) ≡ Ok tt
    → items_labels names labels list (i + 1) (items_view (drop (i + 1) vs)) ≡ whole
unfolding items_labels
items-more names labels list vs i v whole within is before here =
    let rest = items_labels names labels list (i + 1) (items_view (drop (i + 1) vs)) in
    sym (ap (λ r. r >>= (λ _. rest)) here)
    ∙ (sym (ap (items_labels names labels list i) (items-split vs i v within is)) ∙ before)

items-fault : (names : List (List ℕ)) (labels : List Label) (list : TableList) (vs : List Value) (i : ℕ) (v : Value)
    (whole : Result (Unit {0}) Flaw) (flaw : Flaw) → i < length vs → v ≡ get_or vs i v
    → items_labels names labels list i (items_view (drop i vs)) ≡ whole → item_labels names labels list i (view v) ≡ Err flaw
    → whole ≡ Err flaw
unfolding items_labels
items-fault names labels list vs i v whole flaw within is before here =
    let rest = items_labels names labels list (i + 1) (items_view (drop (i + 1) vs)) in
    sym before
    ∙ (ap (items_labels names labels list i) (items-split vs i v within is) ∙ ap (λ r. r >>= (λ _. rest)) here)

pub items-fails : (names : List (List ℕ)) (labels : List Label) (list : TableList) (vs : List Value) (i : ℕ) (v : Value)
    (whole : Result (Unit {0}) Flaw) (e : FillEnd) → i < length vs → v ≡ get_or vs i v
    → items_labels names labels list i (items_view (drop i vs)) ≡ whole → Fails e (item_labels names labels list i (view v))
    → Fails e whole
items-fails names labels list vs i v whole ends.NoMemory within is before here = tt
items-fails names labels list vs i v whole (ends.Flaw f) within is before here =
    items-fault names labels list vs i v whole f within is before here

pub items-done : (names : List (List ℕ)) (labels : List Label) (list : TableList) (vs : List Value) (i : ℕ)
    (whole : Result (Unit {0}) Flaw) → length vs ≤ i → items_labels names labels list i (items_view (drop i vs)) ≡ whole → whole ≡ Ok tt
unfolding items_labels
items-done names labels list vs i whole past before =
    sym before ∙ ap (λ xs. items_labels names labels list i (items_view xs)) (drop_all i vs past)

-- ---- the items of a list

pub kept-push : (place : List ℕ → Option ℕ) (list : TableList) (old new : List Value) (i : ℕ) (v w : Value) → i < length old
    → v ≡ get_or old i v → AreKept place list (map view (take i old)) (map view new) → IsItemKept place list (view v) (view w)
    → AreKept place list (map view (take (i + 1) old)) (map view (new ++ w ∷ []))
kept-push place list old new i v w within is before here =
    let R : Data → Data → Type 0 = IsItemKept place list in
    let olds : map view (take (i + 1) old) ≡ map view (take i old) ++ view v ∷ [] =
    ap (map view) (taken old i v within is) ∙ map-append view (take i old) (v ∷ []) in
    let news : map view (new ++ w ∷ []) ≡ map view new ++ view w ∷ [] = map-append view new (w ∷ []) in
    rw (olds, news) (AllZip-push R (map view (take i old)) (map view new) (view v) (view w) before here)

pub list-of-items : (ds : List Data) → list_of (items_of ds) ≡ ds
unfolding list_of
list-of-items [] = refl
list-of-items (d ∷ ds) = ap (λ xs. d ∷ xs) (list-of-items ds)

-- a list that is there, once its items are filled
filled_at : (place : List ℕ → Option ℕ) (list : TableList) (d : Data) (xs : List Data) (values : Vec Value Global)
    → as_array d ≡ Some (items_of xs) → AreKept place list xs (map view values.items) → IsFilledList place list (Some d) (Some values)
filled_at place list (array ds) xs values is kept =
    let same : ds ≡ items_of xs = cc in
    subst (λ ys. AreKept place list ys (map view values.items)) (sym (ap list_of same ∙ list-of-items xs)) kept
filled_at place list (string s) xs values is kept = absurd cc
filled_at place list (integer z) xs values is kept = absurd cc
filled_at place list (float x) xs values is kept = absurd cc
filled_at place list (boolean b) xs values is kept = absurd cc
filled_at place list (datetime dt) xs values is kept = absurd cc
filled_at place list (table ms) xs values is kept = absurd cc

pub filled-array : (place : List ℕ → Option ℕ) (list : TableList) (found : Option Data) (d : Data) (xs : List Data)
    (values : Vec Value Global) → found ≡ Some d → as_array d ≡ Some (items_of xs) → AreKept place list xs (map view values.items)
    → IsFilledList place list found (Some values)
filled-array place list found d xs values there is kept =
    subst (λ f. IsFilledList place list f (Some values)) (sym there) (filled_at place list d xs values is kept)

-- ---- a list in the printed text

unchanged : (filled : Option (Vec Value Global)) (old new : Option Data) → filled ≡ None → new ≡ list_or_old filled old → new ≡ old
unchanged None old new none is = is
unchanged (Some values) old new none is = absurd cc

pub list-kept : (place : List ℕ → Option ℕ) (list : TableList) (old : Option Data) (filled : Option (Vec Value Global)) (new : Option Data)
    → IsFilledList place list old filled → new ≡ list_or_old filled old → IsListKept place list old new
list-kept place list (Some (array ds)) (Some values) new kept is = (map view values.items, (is, kept))
list-kept place list (Some (array ds)) None new kept is = absurd kept
list-kept place list old filled new none is = unchanged filled old new none is

made : (more : List Data) (old : Option Data) (filled arranged : Option (Vec Value Global)) (new : Option Data) → filled ≡ None
    → IsArranged filled more arranged → new ≡ list_or_old arranged old → IsListMade more old new
made [] old None None new none put is = is
made [] old None (Some values) new none put is = absurd cc
made (d ∷ ds) old None (Some values) new none put is = (map view values.items, (is, put))
made (d ∷ ds) old None None new none put is = absurd put
made more old (Some values) arranged new none put is = absurd cc

pub list-mixed : (place : List ℕ → Option ℕ) (list : TableList) (more : List Data) (old : Option Data)
    (filled arranged : Option (Vec Value Global)) (new : Option Data) → IsFilledList place list old filled → IsArranged filled more arranged
    → new ≡ list_or_old arranged old → IsListMixed place list more old new
list-mixed place list more (Some (array ds)) (Some values) (Some others) new kept put is =
    (map view others.items, (is, record { kept = map view values.items; are_kept = kept; mixed = put }))
list-mixed place list more (Some (array ds)) (Some values) None new kept put is = absurd put
list-mixed place list more (Some (array ds)) None arranged new kept put is = absurd kept
list-mixed place list more old filled arranged new none put is = made more old filled arranged new none put is
