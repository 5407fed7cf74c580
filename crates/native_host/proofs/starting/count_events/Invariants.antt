use Rattle.native_host.proofs.Common.{◌≡◌, ◌+◌, drop, all_events, rest_events}
use Rattle.native_host.proofs.starting.count_events.Given as goal

abbrev pub invariant-loop-call : goal.invariant-loop-call
invariant-loop-call l = l.count + rest_events (drop l.call-index l.script.call) ≡ all_events l.script
