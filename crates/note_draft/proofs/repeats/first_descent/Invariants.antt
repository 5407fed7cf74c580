use Rattle.std.specs.Prelude.{map}
use Rattle.note_draft.proofs.RepeatLaws.{AscendsBelow}
use Rattle.note_draft.proofs.repeats.first_descent.Given as goal

abbrev pub invariant-loop-number : goal.invariant-loop-number
invariant-loop-number g l = AscendsBelow (map g.T.Placed.place l.items) l.number
