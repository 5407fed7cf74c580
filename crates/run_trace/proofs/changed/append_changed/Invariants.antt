use Rattle.std.proofs.Common.{◌-◌, ◌^◌, ◌<◌}
use Rattle.run_trace.proofs.ChangedLaws.{IsChanging}
use Rattle.run_trace.proofs.changed.append_changed.Given as goal

abbrev pub invariant-loop-new : goal.invariant-loop-new
invariant-loop-new g l =
    (l.base < 2 ^ 64) × IsChanging l.notes l.before l.runner l.base l.object l.fn.out.items l.out.items

abbrev pub decreases-loop-new : goal.decreases-loop-new
decreases-loop-new g l = 2 ^ 64 - l.base
