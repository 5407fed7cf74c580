use Rattle.std.proofs.Common.{◌≤◌, length}
use Rattle.toml_spans.proofs.walk.Walk.key.Given as goal

abbrev pub invariant-parts : goal.invariant-parts
invariant-parts l = length l.place.rest.now ≤ length l.at.rest.now
