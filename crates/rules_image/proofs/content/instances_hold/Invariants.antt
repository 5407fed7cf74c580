use Rattle.std.proofs.Common.{ℕ, ◌+◌, ◌*◌, ◌<◌}
use Rattle.note_types.specs.Shapes.{size_at}
use Rattle.rules_image.proofs.content.instances_hold.Given as goal
use Rattle.rules_image.specs.Contents.{CellsHold}

abbrev pub invariant-loop-j : goal.invariant-loop-j
invariant-loop-j l = (j : ℕ) → j < l.j → CellsHold l.image l.notes l.s.fields (l.x.place + j * size_at 8 l.s)
