use Rattle.std.proofs.Common.{length}
use Rattle.rules_flow.proofs.placed.+rise.Given as goal

abbrev pub decreases-rise : goal.decreases-rise
decreases-rise g l = length l.things.now
