use Rattle.std.proofs.Common.{◌≤◌, length}
use Rattle.toml_spans.proofs.walk.Walk.member.Given as goal

abbrev pub invariant-pairs : goal.invariant-pairs
invariant-pairs l = length l.rest ≤ length l.owner.value.now
