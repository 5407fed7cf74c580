use Rattle.std.proofs.Common.{◌+◌, ◌≤◌, length}
use Rattle.toml_spans.proofs.walk.Walk.found.Given as goal

abbrev pub invariant-steps : goal.invariant-steps
invariant-steps l = l.owner.key + length l.owner.value.now ≤ l.self.size
