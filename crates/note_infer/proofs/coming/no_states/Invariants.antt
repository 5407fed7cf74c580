use Rattle.note_infer.proofs.Common.{◌≡◌, None, replicate}
use Rattle.note_infer.proofs.coming.no_states.Given as goal

abbrev pub invariant-loop : goal.invariant-loop
invariant-loop l = l.states.items ≡ replicate l.counter None
