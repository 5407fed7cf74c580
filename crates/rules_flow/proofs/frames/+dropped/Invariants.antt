use Rattle.std.proofs.Common.{length}
use Rattle.rules_flow.proofs.frames.+dropped.Given as goal

abbrev pub decreases-dropped : goal.decreases-dropped
decreases-dropped l = length l.items.now
