use Rattle.note_infer.proofs.Common.{◌≡◌, take}
use Rattle.note_infer.proofs.states.same_items.Given as goal

abbrev pub invariant-loop-number : goal.invariant-loop-number
invariant-loop-number l = take l.number l.a ≡ take l.number l.b
