-- For proofs: the line and the column of an offset of a text.
use Rattle.std.specs.Prelude.{ℕ, ◌+◌, ◌==◌, Bool, not, List, length, take, reverse, filter}
use Rattle.std.specs.List.{prefix_len}
use Rattle.toml_spans.specs.declared.position.Position.{Position}

-- The byte ends a line.
abbrev pub is_line_feed : ℕ → Bool
is_line_feed c = c == 10

-- The line counts the line feeds before the offset, and the column the bytes after the last of them, both from 1.
abbrev pub position_at : List ℕ → ℕ → Position
position_at text offset = record {
  line = length (filter is_line_feed (take offset text)) + 1;
  column = prefix_len (λ c. not (is_line_feed c)) (reverse (take offset text)) + 1;
}
