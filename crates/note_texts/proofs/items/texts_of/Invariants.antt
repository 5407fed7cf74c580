use Rattle.std.proofs.Common.{◌≡◌, ◌++◌, drop, length}
use Rattle.toml.specs.View.{items_view}
use Rattle.note_texts.specs.Keys.{text_of}
use Rattle.note_texts.specs.Lists.{each, texts_of}
use Rattle.note_texts.proofs.Loop.{with_front}
use Rattle.note_texts.proofs.items.texts_of.Given as goal

abbrev pub invariant-loop-i : goal.invariant-loop-i
invariant-loop-i g l = record {
  so_far : with_front l.texts.items (each (λ i d. text_of g.T.FromText.reads_as (l.row.prefix.now ++ l.key) d) l.i
      (items_view (drop l.i l.values))) ≡ texts_of g.T.FromText.reads_as (l.row.prefix.now ++ l.key) (items_view l.values);
  counted : length l.texts.items ≡ l.i;
}
