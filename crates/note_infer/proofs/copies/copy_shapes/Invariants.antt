use Rattle.note_infer.proofs.Common.{◌≡◌, take}
use Rattle.note_infer.proofs.copies.copy_shapes.Given as goal

abbrev pub invariant-loop-shape : goal.invariant-loop-shape
invariant-loop-shape l = l.copy.items ≡ take l.shape-index l.shapes
