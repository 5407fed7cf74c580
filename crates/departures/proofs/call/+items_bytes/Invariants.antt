use Rattle.std.proofs.Common.{length}
use Rattle.departures.proofs.call.+items_bytes.Given as goal

abbrev pub decreases-items_bytes : goal.decreases-items_bytes
decreases-items_bytes l = length l.items.now
