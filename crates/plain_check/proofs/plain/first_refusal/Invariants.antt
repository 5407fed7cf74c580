use Rattle.plain_check.proofs.Common.{◌≡◌, ◌-◌, ◌≤◌, length, drop, first_refusal, marked, reached}
use Rattle.plain_check.specs.PlainChecks.{places}
use Rattle.plain_check.proofs.plain.first_refusal.Given as goal

abbrev pub decreases-loop-at : goal.decreases-loop-at
decreases-loop-at l = length l.initial.code - l.at

abbrev pub invariant-loop-at : goal.invariant-loop-at
invariant-loop-at l =
    (l.at ≤ length l.code)
    × (first_refusal (marked l.marks) (length l.code) (places l.code) ≡ first_refusal (marked l.marks) (length l.code)
    (reached l.at 0 (drop l.at l.code)))
