use Rattle.note_infer.proofs.Joins.{◌≡◌, take, join_item, zipped}
use Rattle.note_infer.proofs.state_joins.join_items.Given as goal

abbrev pub invariant-loop-number : goal.invariant-loop-number
invariant-loop-number l = l.items ≡ zipped join_item (take l.number l.xs) (take l.number l.ys)
