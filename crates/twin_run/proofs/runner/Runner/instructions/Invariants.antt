use Rattle.twin_run.proofs.Common.{◌≡◌, ◌-◌, ◌≤◌, true, ◌≢◌}
use Rattle.twin_run.proofs.SteppingOn.{AreTaken}
use Rattle.twin_run.proofs.runner.Runner.instructions.Given as goal

abbrev pub invariant-loop-next : goal.invariant-loop-next
invariant-loop-next g l = record {
  left : l.left ≤ l.most;
  first : l.left ≡ l.most → (l.next ≡ true) × (l.self.machine.ip ≢ l.self.machine.gate);
  taken : AreTaken g.row.W l.notes l.most l.fn.self l.self (l.most - l.left) l.next;
}

abbrev pub decreases-loop-next : goal.decreases-loop-next
decreases-loop-next g l = l.left
