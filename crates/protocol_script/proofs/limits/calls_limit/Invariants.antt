use Rattle.protocol_script.proofs.Common.{◌≡◌, drop, all_pass, call_limit, calls_limit}
use Rattle.protocol_script.specs.Limits.{IsTally}
use Rattle.protocol_script.proofs.limits.calls_limit.Given as goal

abbrev pub invariant-loop-i : goal.invariant-loop-i
invariant-loop-i l = record {
  so_far : all_pass (λ i c. call_limit l.notes l.script i) l.i (drop l.i l.script.call) ≡ calls_limit l.notes l.script;
  tally : IsTally l.notes l.script l.i l.tally;
}
