use Rattle.note_filling.proofs.Common.{◌≡◌, All, map, view, StoodAmong, Ranked}
use Rattle.note_filling.specs.Views.{IsRanked}
use Rattle.note_filling.proofs.order.with_places.Given as goal

abbrev pub invariant-loop-value : goal.invariant-loop-value
invariant-loop-value l =
    record {
      values : map (λ (r : Ranked). view r.value) l.all.items ≡ map view l.yielded;
      stood : All (StoodAmong (map view l.yielded)) l.all.items;
      ranked : All IsRanked l.all.items;
    }
