use Rattle.std.proofs.Common.{◌-◌}
use Rattle.state_walk.specs.Standing.{StandsBefore}
use Rattle.state_walk.proofs.walk.Walk.to.Given as goal

abbrev pub invariant-loop-b : goal.invariant-loop-b
invariant-loop-b l = StandsBefore l.self.image.now l.self.notes.now l.self.func l.self.f.now l.b

abbrev pub decreases-loop-b : goal.decreases-loop-b
decreases-loop-b l = l.place - l.b.place
