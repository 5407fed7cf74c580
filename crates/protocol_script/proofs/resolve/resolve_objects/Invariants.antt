use Rattle.protocol_script.proofs.Common.{◌≡◌, drop, row_prefix, each_of, with_front, resolved_object, resolved_objects}
use Rattle.protocol_script.proofs.resolve.resolve_objects.Given as goal

abbrev pub invariant-loop-i : goal.invariant-loop-i
invariant-loop-i l = with_front l.values.items (each_of (λ i o. resolved_object l.notes (row_prefix l.path i) o) l.i
    (drop l.i l.objects)) ≡ resolved_objects l.notes l.path l.objects
