use Rattle.std.proofs.Common.{◌≤◌, length}
use Rattle.toml_spans.proofs.walk.item_of.Given as goal

abbrev pub invariant-items : goal.invariant-items
invariant-items l = length l.rest ≤ length l.list
