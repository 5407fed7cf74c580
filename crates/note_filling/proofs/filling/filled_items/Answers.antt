use Rattle.note_filling.proofs.Common.{◌≡◌, arith, map, take, subst, err_from_is_err_and, view, AreKept, context_labels, context_names}
use Rattle.note_filling.proofs.Common.{context_place}
use Rattle.std.proofs.lemmas.List.{take_all}
use Rattle.note_filling.proofs.ListLaws.{items-done, items-fails, items-more, kept-push}
use Rattle.note_filling.proofs.filling.filled_items.Goals as goal

pub returns-in_err-filled_item-clause-labels : goal.returns-in_err-filled_item-clause-labels
returns-in_err-filled_item-clause-labels c =
    let p = err_from_is_err_and c.from_residual.result c.from_residual.ensures.1 in
    let x = c.args.rows.context in
    rw (p.1, p.2) (items-fails (context_names x) (context_labels x) c.args.list c.args.items.now c.loop-k.k c.index-items-k.result _ _
    (omega arith) c.index-items-k.is c.loop-k.invariant.labels c.in_err-filled_item.ensures.labels)

pub loop-k-preserved : goal.loop-k-preserved
loop-k-preserved c =
    let x = c.args.rows.context in
    record {
      labels = items-more (context_names x) (context_labels x) c.args.list c.args.items.now c.loop-k.k c.index-items-k.result _
          (omega arith) c.index-items-k.is c.loop-k.invariant.labels c.in_ok-filled_item.ensures.labels;
      kept = rw c.in_ok-push.ensures.items (kept-push (context_place x) c.args.list c.args.items.now c.loop-k.values.items c.loop-k.k
          c.index-items-k.result c.in_ok-filled_item.field-0 (omega arith) c.index-items-k.is c.loop-k.invariant.kept
          c.in_ok-filled_item.ensures.kept);
    }

pub returns-clause-labels : goal.returns-clause-labels
returns-clause-labels c =
    let x = c.args.rows.context in
    items-done (context_names x) (context_labels x) c.args.list c.args.items.now c.loop-k.k _ (omega arith) c.loop-k.invariant.labels

pub returns-clause-kept : goal.returns-clause-kept
returns-clause-kept c =
    let vs = c.args.items.now in
    let whole : take c.loop-k.k vs ≡ vs = take_all c.loop-k.k vs (omega arith) in
    subst (λ olds. AreKept (context_place c.args.rows.context) c.args.list (map view olds) (map view c.loop-k.values.items)) whole
    c.loop-k.invariant.kept
