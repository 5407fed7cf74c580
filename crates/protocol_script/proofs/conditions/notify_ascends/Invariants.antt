use Rattle.protocol_script.proofs.Common.{◌≡◌, drop, all_pass, notify_ascends, notify_at}
use Rattle.protocol_script.proofs.conditions.notify_ascends.Given as goal

abbrev pub invariant-loop-i : goal.invariant-loop-i
invariant-loop-i l = all_pass (λ i n. notify_at l.notifications i) l.i (drop l.i l.notifications) ≡ notify_ascends l.notifications
