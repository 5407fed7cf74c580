use Rattle.note_filling.proofs.Common.{◌≡◌, drop, map, take, items_view, view, AreKept, items_labels, context_labels, context_names}
use Rattle.note_filling.proofs.Common.{context_place}
use Rattle.note_filling.proofs.filling.filled_items.Given as goal

abbrev pub invariant-loop-k : goal.invariant-loop-k
invariant-loop-k l =
    record {
      labels : items_labels (context_names l.rows.context) (context_labels l.rows.context) l.list l.k (items_view (drop l.k l.items))
          ≡ items_labels (context_names l.rows.context) (context_labels l.rows.context) l.list 0 (items_view l.items);
      kept : AreKept (context_place l.rows.context) l.list (map view (take l.k l.items)) (map view l.values.items);
    }
