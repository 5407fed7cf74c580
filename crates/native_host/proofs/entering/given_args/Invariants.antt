use Rattle.native_host.proofs.Common.{◌≡◌, map, take, given}
use Rattle.native_host.proofs.entering.given_args.Given as goal

abbrev pub invariant-loop-value : goal.invariant-loop-value
invariant-loop-value l = l.args ≡ map given (take l.value-index l.values)
