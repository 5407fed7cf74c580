use Rattle.native_host.proofs.Common.{◌≡◌, drop, parameter_refused}
use Rattle.native_host.proofs.bound.parameter_refused.Given as goal

abbrev pub invariant-loop-k : goal.invariant-loop-k
invariant-loop-k l =
    parameter_refused l.made l.k (drop l.k l.params) (drop l.k l.args) ≡ parameter_refused l.made 0 l.params l.args
