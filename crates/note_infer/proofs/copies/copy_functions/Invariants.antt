use Rattle.note_infer.proofs.Common.{◌≡◌, take}
use Rattle.note_infer.proofs.copies.copy_functions.Given as goal

abbrev pub invariant-loop-f : goal.invariant-loop-f
invariant-loop-f l = l.copy.items ≡ take l.f-index l.functions
