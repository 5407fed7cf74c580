use Rattle.std.proofs.Common.{◌≤◌, length}
use Rattle.toml_spans.specs.Spans.{AreSpansIn}
use Rattle.toml_spans.proofs.walk.Walk.items.Given as goal

abbrev pub invariant-items : goal.invariant-items
invariant-items l = (length l.rest ≤ length l.list) × AreSpansIn l.self.size l.items.items
