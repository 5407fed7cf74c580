use Rattle.std.proofs.Common.{◌≤◌, length}
use Rattle.toml_spans.proofs.walk.Walk.document.Given as goal

abbrev pub invariant-lines : goal.invariant-lines
invariant-lines l = length l.rest ≤ length l.text
