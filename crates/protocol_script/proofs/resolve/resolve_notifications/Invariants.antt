use Rattle.protocol_script.proofs.Common.{codes, ◌≡◌, drop, row_prefix, with_front, each_of, resolved_notifications, resolved_notify}
use Rattle.protocol_script.proofs.resolve.resolve_notifications.Given as goal

abbrev pub invariant-loop-i : goal.invariant-loop-i
invariant-loop-i l = with_front l.values.items (each_of (λ i o. resolved_notify l.notes (row_prefix (codes "notify") i) o) l.i
    (drop l.i l.notifications)) ≡ resolved_notifications l.notes l.notifications
