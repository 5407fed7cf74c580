use Rattle.note_infer.proofs.Common.{◌≡◌, take}
use Rattle.note_infer.proofs.states.same_registers.Given as goal

abbrev pub invariant-loop-r : goal.invariant-loop-r
invariant-loop-r l = take l.r l.a ≡ take l.r l.b
