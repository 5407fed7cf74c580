use Rattle.ebc_link.proofs.Common.{◌≡◌, drop, far_in, first_in, defined_in, laid_in}
use Rattle.ebc_link.proofs.resolved.Resolved.first_far.Given as goal

abbrev pub invariant-loop-number : goal.invariant-loop-number
invariant-loop-number l =
    first_in (far_in (defined_in l.self)) (drop l.number (laid_in l.self)) ≡ first_in (far_in (defined_in l.self)) (laid_in l.self)
