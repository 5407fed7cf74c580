use Rattle.std.proofs.Common.{◌≡◌, drop, length}
use Rattle.toml.specs.View.{items_view}
use Rattle.note_texts.specs.Lists.{each, row_of, rows_of}
use Rattle.note_texts.proofs.Loop.{with_front}
use Rattle.note_texts.proofs.items.rows_of.Given as goal

abbrev pub invariant-loop-i : goal.invariant-loop-i
invariant-loop-i g l = record {
  so_far : with_front l.rows.items (each (row_of g.T.FromTable.reads_as l.path) l.i
      (items_view (drop l.i l.values))) ≡ rows_of g.T.FromTable.reads_as l.path (items_view l.values);
  counted : length l.rows.items ≡ l.i;
}
