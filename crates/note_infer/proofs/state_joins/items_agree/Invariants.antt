use Rattle.note_infer.proofs.Joins.{◌≡◌, ℕ, ◌<◌, true, Locals}
use Rattle.note_infer.proofs.StateJoins.{agree_at}
use Rattle.note_infer.proofs.state_joins.items_agree.Given as goal

abbrev pub invariant-loop-number : goal.invariant-loop-number
invariant-loop-number l = (k : ℕ) → k < l.number → agree_at Locals l.xs l.ys k ≡ true
