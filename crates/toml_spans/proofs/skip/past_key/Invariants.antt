use Rattle.std.proofs.Common.{◌≤◌, length}
use Rattle.toml_spans.proofs.skip.past_key.Given as goal

abbrev pub invariant-parts : goal.invariant-parts
invariant-parts l = length l.rest ≤ length l.text
