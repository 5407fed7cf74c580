use Rattle.note_draft.proofs.RepeatLaws.{AreNewBelow}
use Rattle.note_draft.proofs.repeats.has_repeat.Given as goal

abbrev pub invariant-loop-number : goal.invariant-loop-number
invariant-loop-number g l = AreNewBelow g.T.Distinct.same l.items l.number
