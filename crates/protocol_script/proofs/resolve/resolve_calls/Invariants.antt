use Rattle.protocol_script.proofs.Common.{codes, ◌≡◌, drop, row_prefix, each_of, with_front, resolved_call, resolved_calls}
use Rattle.protocol_script.proofs.resolve.resolve_calls.Given as goal

abbrev pub invariant-loop-i : goal.invariant-loop-i
invariant-loop-i l = with_front l.values.items (each_of (λ i o. resolved_call l.notes l.shapes (row_prefix (codes "call") i) o) l.i
    (drop l.i l.calls)) ≡ resolved_calls l.notes l.shapes l.calls
