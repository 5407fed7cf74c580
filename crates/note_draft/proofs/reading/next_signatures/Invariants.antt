use Rattle.std.proofs.Common.{◌≡◌, [], length}
use Rattle.toml.specs.View.{items_view}
use Rattle.note_draft.specs.Drafts.{signatures_from}
use Rattle.note_draft.specs.Names.{distinct}
use Rattle.note_draft.proofs.MethodLemmas.{methods_of, still}
use Rattle.note_draft.proofs.reading.next_signatures.Given as goal

abbrev pub invariant-loop-i : goal.invariant-loop-i
invariant-loop-i l = record {
  so_far : still l.signatures.items l.path l.i l.values ≡ signatures_from [] l.path 0 (items_view l.values);
  named : l.methods ≡ distinct (methods_of l.signatures.items);
  counted : length l.signatures.items ≡ l.i;
}
