use Rattle.label_places.proofs.Common.{rules, sym, ◌∙◌, Position}
use Rattle.std.proofs.lemmas.List.Sorted.{IsNonDecreasingBy-from_sort_by_key, list_any-IsPermutation}
use Rattle.label_places.proofs.index.by_place.Goals as goal

pub returns-clause-placed : goal.returns-clause-placed
returns-clause-placed c =
    λ test. sym (list_any-IsPermutation test c.in_ok-places.places.items c.sort_by_key.new.self.items
    c.in_ok-sort_by_key.ensures.permutation) ∙ c.in_ok-places.ensures test

pub returns-clause-ascend : goal.returns-clause-ascend
returns-clause-ascend c =
    IsNonDecreasingBy-from_sort_by_key (λ (p : Position). p.place) c.sort_by_key.new.self.items c.in_ok-sort_by_key.ensures.sorted
    (λ a r q k. search rules)
