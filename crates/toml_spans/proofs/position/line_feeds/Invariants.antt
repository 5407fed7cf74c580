use Rattle.std.proofs.Common.{◌≡◌, ◌≤◌, length, take, filter}
use Rattle.toml_spans.specs.Positions.{is_line_feed}
use Rattle.toml_spans.proofs.position.line_feeds.Given as goal

abbrev pub invariant-loop-byte : goal.invariant-loop-byte
invariant-loop-byte l = (l.count ≡ length (filter is_line_feed (take l.byte-index l.text))) × (l.count ≤ l.byte-index)
