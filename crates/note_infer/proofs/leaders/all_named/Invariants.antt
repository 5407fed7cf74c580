use Rattle.note_infer.proofs.Common.{ℕ, Contains, IsLeaderBelow}
use Rattle.note_infer.proofs.leaders.all_named.Given as goal

abbrev pub invariant-loop-f : goal.invariant-loop-f
invariant-loop-f l =
    record {
      to : (p : ℕ) → Contains l.places.items p → IsLeaderBelow l.image l.notes l.f-index p;
      from : (p : ℕ) → IsLeaderBelow l.image l.notes l.f-index p → Contains l.places.items p;
    }
