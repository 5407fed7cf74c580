-- no tag so far has room
use Rattle.std.proofs.Common.{ℕ, ◌<◌}
use Rattle.natural_index.specs.Index.{HasRoom}
use Rattle.natural_index.proofs.smallest.Given as goal

abbrev pub invariant-loop-tag : goal.invariant-loop-tag
invariant-loop-tag l = (tag : ℕ) → tag < l.tag → ¬ HasRoom l.bits tag l.units l.bytes
