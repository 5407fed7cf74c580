use Rattle.native_host.proofs.Common.{◌≡◌, drop, argument_refused}
use Rattle.native_host.proofs.asking.argument_refused.Given as goal

abbrev pub invariant-loop-k : goal.invariant-loop-k
invariant-loop-k l = argument_refused l.k (drop l.k l.found) (drop l.k l.wanted) ≡ argument_refused 0 l.found l.wanted
