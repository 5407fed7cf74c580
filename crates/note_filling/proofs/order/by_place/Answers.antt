use Rattle.note_filling.proofs.Common.{map, subst, sym, All, Data, view, StoodAmong, Ranked}
use Rattle.std.proofs.{Common.IsPermutation, lemmas.List.Sorted.All-permutation, lemmas.List.Sorted.IsPermutation-map}
use Rattle.note_filling.proofs.OrderLaws.{order_by, ranks_ascend}
use Rattle.std.proofs.lemmas.List.Sorted.{IsNonDecreasingBy-from_sort_by_key}
use Rattle.note_filling.specs.Views.{IsRanked}
use Rattle.std.proofs.Common.{rules}
use Rattle.note_filling.proofs.order.by_place.Goals as goal

seen : Ranked → Data
seen r = view r.value

pub returns-clause-moved : goal.returns-clause-moved
unfolding seen
returns-clause-moved c =
    let moved = IsPermutation-map seen c.in_ok-all.all.items c.sort_by_key.new.self.items c.in_ok-sort_by_key.ensures.permutation in
    subst (λ ys. IsPermutation (map view c.args.items.items) ys) (sym c.in_ok-parts.ensures.values)
    (subst (λ xs. IsPermutation xs (map seen c.sort_by_key.new.self.items)) c.in_ok-all.ensures.values moved)

pub returns-clause-order : goal.returns-clause-order
returns-clause-order c =
    let items = map view c.args.items.items in
    let sorted = c.sort_by_key.new.self.items in
    let stood : All (StoodAmong items) sorted =
    All-permutation (StoodAmong items) c.in_ok-all.all.items sorted c.in_ok-sort_by_key.ensures.permutation c.in_ok-all.ensures.stood in
    rw (c.in_ok-parts.ensures.order, c.in_ok-parts.ensures.values) (order_by items sorted stood)

pub returns-clause-ascend : goal.returns-clause-ascend
returns-clause-ascend c =
    let sorted = c.sort_by_key.new.self.items in
    let ranked : All IsRanked sorted =
    All-permutation IsRanked c.in_ok-all.all.items sorted c.in_ok-sort_by_key.ensures.permutation c.in_ok-all.ensures.ranked in
    rw (c.in_ok-parts.ensures.values) (ranks_ascend sorted ranked
    (IsNonDecreasingBy-from_sort_by_key (λ (r : Ranked). r.place) sorted c.in_ok-sort_by_key.ensures.sorted (λ a r q k. search rules)))
