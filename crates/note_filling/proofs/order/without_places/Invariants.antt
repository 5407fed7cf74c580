use Rattle.note_filling.proofs.Common.{◌≡◌, map, view, Ranked}
use Rattle.note_filling.proofs.order.without_places.Given as goal

abbrev pub invariant-loop-item : goal.invariant-loop-item
invariant-loop-item l =
    record {
      values : map view l.values.items ≡ map (λ (r : Ranked). view r.value) l.yielded;
      order : l.order.items ≡ map (λ (r : Ranked). r.index) l.yielded;
    }
