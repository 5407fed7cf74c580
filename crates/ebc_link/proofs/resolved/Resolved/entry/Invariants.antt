use Rattle.ebc_link.proofs.Common.{◌≡◌, drop, entry_in, first_in, laid_in}
use Rattle.ebc_link.proofs.resolved.Resolved.entry.Given as goal

abbrev pub invariant-loop-number : goal.invariant-loop-number
invariant-loop-number l = first_in (entry_in l.name) (drop l.number (laid_in l.self)) ≡ first_in (entry_in l.name) (laid_in l.self)
