-- The numbers that items had before they were put in order.
use Rattle.note_filling.proofs.Common.{◌≡◌, ℕ, List, [], ◌∷◌, ◌++◌, length, map, Option, Some, None, Vec, Global, All, refl, sym, ap, ◌∙◌}
use Rattle.note_filling.proofs.Common.{subst, map-append, TableList, Data, array, string, integer, float, boolean, datetime, table, view}
use Rattle.note_filling.proofs.Common.{Value, AreKept, IsArranged, IsFilledList, StoodAmong, list_or_old, Ranked}
use Rattle.std.specs.Prelude.{slice_get}
use Rattle.std.proofs.lemmas.List.Elements.{All-head, All-push, All-tail, All-weaker}
use Rattle.ebc_base.proofs.Lists.{length-map, slice_get-front}
use Rattle.note_filling.specs.{Originals.IsOrder, Originals.IsOrderOf, Originals.items_in, Views.items_if_any}
use Rattle.note_filling.proofs.ListLaws.{list-of-items}
use Rattle.note_filling.proofs.Common.{◌<◌, get_or, arith}
use Rattle.std.proofs.{Common.zero, Common.suc}
use Rattle.std.specs.List.Sorted.{IsNonDecreasingBy}
use Rattle.std.proofs.Math.ListN.{get_or-map}
use Rattle.std.proofs.lemmas.List.Sorted.{IsNonDecreasingBy-from_default}
use Rattle.note_filling.specs.Views.{IsRanked, item_rank}

-- one more item stands behind the others
stands_last : (items : List Data) (d : Data) → slice_get (items ++ d ∷ []) (length items) ≡ Some d
stands_last [] d = refl
stands_last (x ∷ xs) d = stands_last xs d

pub all_stand : (items : List Data) (rs : List Ranked) (r : Ranked) → All (StoodAmong items) rs → r.index ≡ length items
    → All (StoodAmong (items ++ view r.value ∷ [])) (rs ++ r ∷ [])
all_stand items rs r before here =
    let more = items ++ view r.value ∷ [] in
    All-push (StoodAmong more) rs r
    (All-weaker (StoodAmong items) (StoodAmong more)
    (λ x there. slice_get-front items (view r.value ∷ []) x.index (view x.value) there) rs before)
    (ap (slice_get more) here ∙ stands_last items (view r.value))

-- the numbered items, one more of them
pub one_more : (values : List Value) (rs : List Ranked) (r : Ranked) (new : List Ranked)
    → map (λ (x : Ranked). view x.value) rs ≡ map view values → All (StoodAmong (map view values)) rs → r.index ≡ length rs
    → new ≡ rs ++ r ∷ []
    → (map (λ (x : Ranked). view x.value) new ≡ map view (values ++ r.value ∷ []))
    × All (StoodAmong (map view (values ++ r.value ∷ []))) new
one_more values rs r new are stood at is =
    let items : map view (values ++ r.value ∷ []) ≡ map view values ++ view r.value ∷ [] = map-append view values (r.value ∷ []) in
    let seen : Ranked → Data = λ (x : Ranked). view x.value in
    let same : map seen (rs ++ r ∷ []) ≡ map seen rs ++ view r.value ∷ [] = map-append seen rs (r ∷ []) in
    rw (is, items) (
      same ∙ ap (λ ds. ds ++ view r.value ∷ []) are,
      all_stand (map view values) rs r stood (at ∙ (sym (length-map seen rs) ∙ ap length are)),
    )

-- items that each stood at its number stand in an order
pub order_by : (items : List Data) (rs : List Ranked) → All (StoodAmong items) rs → IsOrder items (map (λ (r : Ranked). r.index) rs)
    (map (λ (r : Ranked). view r.value) rs)
order_by items [] all = tt
order_by items (r ∷ rs) all =
    (All-head (StoodAmong items) r rs all, order_by items rs (All-tail (StoodAmong items) r rs all))

seen : Ranked → Data
seen r = view r.value

rank_of : (rs : List Ranked) (i : ℕ) (e : Ranked) → All IsRanked rs → i < length rs
    → (get_or rs i e).place ≡ item_rank (seen (get_or rs i e))
unfolding seen
rank_of [] i e all lt = absurd (omega arith)
rank_of (r ∷ rs) zero e all lt = All-head IsRanked r rs all
rank_of (r ∷ rs) (suc i) e all lt = rank_of rs i e (All-tail IsRanked r rs all) (omega arith)

-- items that have these ranks ascend as the ranks do
pub ranks_ascend : (rs : List Ranked) → All IsRanked rs → IsNonDecreasingBy (λ (r : Ranked). r.place) rs
    → IsNonDecreasingBy item_rank (map (λ (r : Ranked). view r.value) rs)
unfolding seen
ranks_ascend [] all up = λ i j d le lt. absurd (omega arith)
ranks_ascend (r ∷ rs) all up =
    IsNonDecreasingBy-from_default item_rank (map seen (r ∷ rs)) (seen r) (λ i j le lt.
    let below : j < length (r ∷ rs) = subst (λ n. j < n) (length-map seen (r ∷ rs)) lt in
    rw (get_or-map seen (r ∷ rs) i r, get_or-map seen (r ∷ rs) j r) (
    rw (sym (rank_of (r ∷ rs) i r all (omega arith)), sym (rank_of (r ∷ rs) j r all below)) (up i j r le below)))

-- ---- a list in the printed text

behind : (place : List ℕ → Option ℕ) (list : TableList) (more : List Data) (order : List ℕ) (old : Option Data)
    (filled arranged : Option (Vec Value Global)) (new : Option Data) → items_in old ≡ [] → filled ≡ None
    → IsOrder (items_if_any filled ++ more) order (items_if_any arranged) → new ≡ list_or_old arranged old
    → IsOrderOf place list (items_in old) more order (items_in new)
behind place list more order old (Some values) arranged new empty none stood is = absurd cc
behind place list more order old None None new empty none stood is = record {
  kept = [];
  are_kept = subst (λ ds. AreKept place list ds []) (sym empty) tt;
  stood = subst (IsOrder more order) (sym (ap items_in is ∙ empty)) stood;
}
behind place list more order old None (Some values) new empty none stood is = record {
  kept = [];
  are_kept = subst (λ ds. AreKept place list ds []) (sym empty) tt;
  stood = subst (IsOrder more order) (sym (ap items_in is ∙ list-of-items (map view values.items))) stood;
}

pub list_order : (place : List ℕ → Option ℕ) (list : TableList) (more : List Data) (order : List ℕ) (old : Option Data)
    (filled arranged : Option (Vec Value Global)) (new : Option Data) → IsFilledList place list old filled → IsArranged filled more arranged
    → IsOrder (items_if_any filled ++ more) order (items_if_any arranged) → new ≡ list_or_old arranged old
    → IsOrderOf place list (items_in old) more order (items_in new)
list_order place list more order (Some (array ds)) (Some values) (Some others) new kept put stood is = record {
  kept = map view values.items;
  are_kept = kept;
  stood = subst (IsOrder (map view values.items ++ more) order) (sym (ap items_in is ∙ list-of-items (map view others.items))) stood;
}
list_order place list more order (Some (array ds)) (Some values) None new kept put stood is = absurd put
list_order place list more order (Some (array ds)) None arranged new kept put stood is = absurd kept
list_order place list more order None filled arranged new none put stood is =
    behind place list more order None filled arranged new refl none stood is
list_order place list more order (Some (string s)) filled arranged new none put stood is =
    behind place list more order (Some (string s)) filled arranged new refl none stood is
list_order place list more order (Some (integer z)) filled arranged new none put stood is =
    behind place list more order (Some (integer z)) filled arranged new refl none stood is
list_order place list more order (Some (float x)) filled arranged new none put stood is =
    behind place list more order (Some (float x)) filled arranged new refl none stood is
list_order place list more order (Some (boolean b)) filled arranged new none put stood is =
    behind place list more order (Some (boolean b)) filled arranged new refl none stood is
list_order place list more order (Some (datetime dt)) filled arranged new none put stood is =
    behind place list more order (Some (datetime dt)) filled arranged new refl none stood is
list_order place list more order (Some (table ms)) filled arranged new none put stood is =
    behind place list more order (Some (table ms)) filled arranged new refl none stood is
