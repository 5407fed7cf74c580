use Rattle.twin_run.proofs.Common.{◌≡◌, ◌-◌, ◌≤◌, true, ◌≢◌}
use Rattle.twin_run.proofs.{InStep.StaySame, SteppingOn.AreTaken}
use Rattle.twin_run.proofs.in_step.instructions.Given as goal

abbrev pub invariant-loop-next : goal.invariant-loop-next
invariant-loop-next l = record {
  left : l.left ≤ l.most;
  first : l.left ≡ l.most → l.next ≡ true;
  inside4 : l.next ≡ true → l.at4.machine.ip ≢ l.at4.machine.gate;
  inside8 : l.next ≡ true → l.at8.machine.ip ≢ l.at8.machine.gate;
  taken4 : AreTaken 4 l.notes l.most l.fn.at4 l.at4 (l.most - l.left) l.next;
  taken8 : AreTaken 8 l.notes l.most l.fn.at8 l.at8 (l.most - l.left) l.next;
  same : StaySame l.notes l.most l.fn.at4 l.fn.at8 (l.most - l.left) l.next;
}

abbrev pub decreases-loop-next : goal.decreases-loop-next
decreases-loop-next l = l.left
