use Rattle.std.proofs.Common.{ℕ, ◌+◌, ◌<◌}
use Rattle.note_types.specs.Shapes.{start_at}
use Rattle.note_types.specs.declared.shape.Field.{Field}
use Rattle.rules_image.specs.Images.{CellHolds}
use Rattle.rules_image.proofs.Firsts.{HoldsOf}
use Rattle.rules_image.proofs.content.cells_hold.Given as goal

abbrev pub invariant-loop-y : goal.invariant-loop-y
invariant-loop-y l = (k : ℕ) → k < l.y-index → HoldsOf (λ j (y : Field). CellHolds l.image l.notes
    (l.place + start_at 8 y) y.cell) l.fields k
