use Rattle.native_host.proofs.Common.{◌≡◌, ◌+◌, drop, length, placed_objects, rest_made}
use Rattle.native_host.proofs.starting.count_objects.Given as goal

abbrev pub invariant-loop-call : goal.invariant-loop-call
invariant-loop-call l = l.count + rest_made (drop l.call-index l.script.call) ≡ length (placed_objects l.script (length l.script.call))
