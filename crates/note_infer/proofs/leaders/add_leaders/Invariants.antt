use Rattle.note_infer.proofs.Common.{◌-◌, ◌<◌, ◌≤◌, IsPlaceOf, Adds, IsNamedBefore}
use Rattle.note_infer.proofs.leaders.add_leaders.Given as goal

abbrev pub invariant-loop-at : goal.invariant-loop-at
invariant-loop-at l =
    record {
      adds : Adds (IsNamedBefore l.image l.f l.at) l.fn.places.items l.places.items;
      reached : l.at < l.f.end → IsPlaceOf l.image l.f l.at;
      from : l.f.place ≤ l.at;
    }

abbrev pub decreases-loop-at : goal.decreases-loop-at
decreases-loop-at l = l.f.end - l.at
