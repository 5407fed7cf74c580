use Rattle.plain_check.proofs.Common.{◌-◌, length}
use Rattle.plain_check.proofs.Places.{MarksTo}
use Rattle.plain_check.proofs.plain.starts_of.Given as goal

abbrev pub decreases-loop-at : goal.decreases-loop-at
decreases-loop-at l = length l.initial.code - l.at

abbrev pub invariant-loop-at : goal.invariant-loop-at
invariant-loop-at l = MarksTo l.code l.at l.marks.items
