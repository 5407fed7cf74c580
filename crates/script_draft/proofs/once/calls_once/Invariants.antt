use Rattle.script_draft.proofs.Common.{◌≡◌, drop, all_pass, call_once}
use Rattle.script_draft.proofs.once.calls_once.Given as goal

abbrev pub invariant-loop-i : goal.invariant-loop-i
invariant-loop-i l = all_pass call_once l.i (drop l.i l.calls) ≡ all_pass call_once 0 l.calls
