use Rattle.note_infer.proofs.Common.{◌≡◌, take, points_of, state_at}
use Rattle.note_infer.proofs.tables.points_of.Given as goal

abbrev pub invariant-loop-number : goal.invariant-loop-number
invariant-loop-number l = l.points.items ≡ points_of (state_at l.leaders l.states) (take l.number l.leaders)
