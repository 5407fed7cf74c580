use Rattle.width_checker.proofs.Common.{◌-◌}
use Rattle.width_checker.proofs.Walking.{Walked}
use Rattle.width_checker.proofs.walk.Walk.check.Given as goal

abbrev pub invariant-loop-at : goal.invariant-loop-at
invariant-loop-at l = Walked l.self.image.now l.self.notes.now l.self.func l.self.f.now l.at l.marks l.state

abbrev pub decreases-loop-at : goal.decreases-loop-at
decreases-loop-at l = l.self.f.now.end - l.at
