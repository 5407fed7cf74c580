use Rattle.note_infer.proofs.Common.{◌≡◌, map, take, mark}
use Rattle.note_infer.proofs.marks.marked.Given as goal

abbrev pub invariant-loop-leader : goal.invariant-loop-leader
invariant-loop-leader l = l.points.items ≡ map (mark l.notes) (take l.leader-index l.leaders)
