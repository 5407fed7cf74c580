use Rattle.std.proofs.Common.{length}
use Rattle.image_warnings.proofs.walk.+append_kinds.Given as goal

abbrev pub decreases-append_kinds : goal.decreases-append_kinds
decreases-append_kinds l = length l.kinds.now
