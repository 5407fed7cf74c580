use Rattle.pair_host.proofs.Common.{◌≡◌, length, map, Seen, given}
use Rattle.std.proofs.Common.{take}
use Rattle.pair_host.proofs.pair_runner.given_values.Given as goal

abbrev pub invariant-loop-arg : goal.invariant-loop-arg
invariant-loop-arg l = (length l.given ≡ l.arg-index) × (l.given ≡ map (λ (s : Seen). given s.value) (take l.arg-index l.args))
