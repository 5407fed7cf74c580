use Rattle.std.proofs.{Common.ℕ, lemmas.List.Sorted.IsNonDecreasingBy-from_sort}
use Rattle.label_places.proofs.places.Places.new.Goals as goal

pub invariant_of-result : goal.invariant_of-result
invariant_of-result c = IsNonDecreasingBy-from_sort (λ (x : ℕ). x) c.sort.new.self.items c.in_ok-sort.ensures.sorted
