use Rattle.std.specs.Prelude.{nat_eq}
use Rattle.note_draft.proofs.RepeatLaws.{IsSeen}
use Rattle.note_draft.proofs.repeats.repeated_place.Given as goal

abbrev pub invariant-loop-number : goal.invariant-loop-number
invariant-loop-number g l = IsSeen nat_eq g.T.Placed.place l.items l.number l.places.keys
