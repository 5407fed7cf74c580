use Rattle.std.proofs.Common.{◌≡◌, ◌↔◌, ◌≤◌, List, arith, subst}
use Rattle.std.specs.Prelude.{IsTrue, Some, slice_get}
use Rattle.note_types.specs.Shapes.{end_at, size_at}
use Rattle.note_types.specs.declared.shape.Field.{Field}
use Rattle.rules_image.proofs.content.instance_holds.Goals as goal
use Rattle.rules_image.specs.Contents.{CellsHold}

pub cells_hold-requires-clause-room : goal.cells_hold-requires-clause-room
cells_hold-requires-clause-room c = λ f y there.
    let inside : end_at 8 y ≤ size_at 8 c.args.s.now = c.requires.fits.at8.inside f y
    (subst (λ (ys : List Field). slice_get ys f ≡ Some y) c.as_slice.ensures there) in
    omega (arith, c.instance_place.ensures.inside)

pub returns : goal.returns
returns c =
    subst (λ p. IsTrue c.cells_hold.result
    ↔ CellsHold c.args.image.now c.args.notes.now c.args.s.now.fields p) c.instance_place.ensures.value
    (subst (λ (ys : List Field). IsTrue c.cells_hold.result
    ↔ CellsHold c.args.image.now c.args.notes.now ys c.instance_place.result) c.as_slice.ensures c.cells_hold.ensures)
