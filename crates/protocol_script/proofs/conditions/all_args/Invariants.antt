use Rattle.protocol_script.proofs.Common.{◌≡◌, drop, all_pass, call_args}
use Rattle.protocol_script.proofs.conditions.all_args.Given as goal

abbrev pub invariant-loop-i : goal.invariant-loop-i
invariant-loop-i l = all_pass (call_args l.notes) l.i (drop l.i l.calls) ≡ all_pass (call_args l.notes) 0 l.calls
